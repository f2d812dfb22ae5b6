-- Words at the front of a line, and the CR at its end.
use Rattle.std.proofs.Common.{take, drop, ◌≡◌, ℕ, zero, suc, length, get_or, ◌+◌, ◌-◌, ◌/◌, ◌%◌, ◌^◌, ◌<◌, Bool, true, false, ◌&&◌, eqb, ltb, [], ◌∷◌, ◌++◌, Some, None, decimal, Option, sym, refl, ap, ◌∙◌, append-nil, arith, Bor, MatchOption}
use Rattle.std.specs.Str.Lines.{strip_carriage_return}
use Rattle.std.specs.Option.{option_map}
use Rattle.std.proofs.lemmas.Fmt.{decimal_by_steps}
use Rattle.std.proofs.lemmas.Bool.{and_parts, and_from, cond_both, cond-true, cond-false, eqb-true, eq-eqb, ne_eqb, ltb-true, lt-ltb}
use Rattle.std.proofs.lemmas.Grind.{common_steps}
use Rattle.std.specs.Str.{bytes_eq}
use Rattle.std.proofs.lemmas.Slice.Eq.{strip_prefix_is}
use Rattle.std.proofs.lemmas.Bool.Decides.{Decides-eqb}
use Rattle.merkle.specs.Bytes.{Bytes}
use Rattle.text.specs.Text.{hex_digit, hexadecimal}
use Rattle.record.specs.Record.{after, ended}

-- ---- words
pub after_word : (w rest : Bytes) → after w (w ++ rest) ≡ Some rest
unfolding after
after_word [] rest = refl
after_word (c ∷ w) rest = cond-true _ _ _ (eq-eqb c c refl) ∙ after_word w rest

after_none : (w l : Bytes) → ((rest : Bytes) → l ≡ w ++ rest → ⊥) → after w l ≡ None
unfolding after
after_none [] l never = absurd (never l refl)
after_none (c ∷ w) [] never = refl
after_none (c ∷ w) (d ∷ l) never =
    cond_both (eqb c d) (after w l) None (λ o. o ≡ None)
    (λ same. after_none w l (λ rest is. let e = eqb-true c d same in never rest (ap (λ x. x ∷ l) (sym e) ∙ ap (λ x. c ∷ x) is)))
    (λ _. refl)

-- what `strip_prefix` says
pub after_is : (w l : Bytes) (r : Option (Bor Bytes)) →
    MatchOption r (bytes_eq (take (length w) l) w ≡ false) (λ x. (bytes_eq (take (length w) l) w ≡ true) × (x.now ≡ drop (length w) l) × (length x.now + length w ≡ length l)) → option_map (λ x. x.now) r ≡ after w l
after_is w l None h = sym (after_none w l (strip_prefix_is Decides-eqb l w None h))
after_is w l (Some x) h = sym (ap (after w) (strip_prefix_is Decides-eqb l w (Some x) h) ∙ after_word w x.now)

-- ---- the CR
pub cr_goes : (l : Bytes) → strip_carriage_return (l ++ 13 ∷ []) ≡ l
cr_goes l = grind (arith, common_steps)

-- every character is above the CR
unfoldable pub plain : Bytes → Bool
plain [] = true
plain (c ∷ l) = ltb 13 c && plain l

plain_append : (l m : Bytes) → plain l ≡ true → plain m ≡ true → plain (l ++ m) ≡ true
unfolding plain
plain_append [] m hl hm = hm
plain_append (c ∷ l) m hl hm = let p = and_parts _ _ hl in and_from _ _ p.0 (plain_append l m p.1 hm)

digit_plain : (d : ℕ) → ltb 13 (hex_digit d) ≡ true
digit_plain d = cond_both (ltb d 10) (48 + d) (87 + d) (λ x. ltb 13 x ≡ true) (λ _. lt-ltb _ _ (omega arith)) (λ _. lt-ltb _ _ (omega arith))

pub plain_hex : (bs : Bytes) → plain (hexadecimal bs) ≡ true
unfolding plain
plain_hex [] = refl
plain_hex (b ∷ bs) = and_from _ _ (digit_plain (b / 16)) (and_from _ _ (digit_plain (b % 16)) (plain_hex bs))

one_plain : (n : ℕ) → plain ((48 + n) ∷ []) ≡ true
unfolding plain
one_plain n = and_from _ _ (lt-ltb 13 (48 + n) (omega arith)) refl

pub plain_decimal : (n : ℕ) → n < 2 ^ 64 → plain (decimal n) ≡ true
plain_decimal = decimal_by_steps (λ n ds. plain ds ≡ true) (λ n h. one_plain n) (λ n ds h p. plain_append ds _ p (one_plain _))

plain_last : (l : Bytes) (i : ℕ) → plain l ≡ true → i < length l → 13 < get_or l i 0
unfolding plain
plain_last [] i h k = absurd (omega arith)
plain_last (c ∷ l) zero h k = ltb-true 13 c (and_parts _ _ h).0
plain_last (c ∷ l) (suc i) h k = plain_last l i (and_parts _ _ h).1 (omega arith)

plain_stays : (l : Bytes) → plain l ≡ true → strip_carriage_return l ≡ l
plain_stays [] h = refl
plain_stays (c ∷ l) h =
    let last = get_or (c ∷ l) (length (c ∷ l) - 1) 0 in
    let above : 13 < last = plain_last (c ∷ l) (length (c ∷ l) - 1) h (omega arith) in
    cond-false _ _ _ (ne_eqb last 13 (λ cr. omega arith))

-- a line of a word and what follows it, with or without a CR
pub ended_bare : (cr : Bool) (word rest : Bytes) → plain word ≡ true → plain rest ≡ true → word ++ rest ≡ strip_carriage_return (ended cr (word ++ rest))
ended_bare true word rest hw hr = sym (cr_goes (word ++ rest))
ended_bare false word rest hw hr = sym (ap strip_carriage_return (append-nil (word ++ rest)) ∙ plain_stays (word ++ rest) (plain_append word rest hw hr))

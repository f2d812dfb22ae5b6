-- A decimal number digit by digit.
use Rattle.std.proofs.Common.{◌≡◌, ℕ, ◌+◌, ◌-◌, ◌*◌, ◌/◌, ◌%◌, ◌^◌, ◌<◌, ◌≤◌, true, false, cond, eqb, ◌⊎◌, [], ◌∷◌, ◌++◌, length, get_or, drop, Some, None, decimal, sym, refl, ap, ◌∙◌, inl, inr, arith}
use Rattle.std.proofs.lemmas.Fmt.{decimal_by_steps, decimal_nonempty}
use Rattle.std.proofs.lemmas.List.{at_drop_more, at_drop_all}
use Rattle.std.proofs.lemmas.Bool.{cond-true, cond-false, cond_both, lt-leb, ne_eqb}
use Rattle.std.proofs.lemmas.Bool.Decides.{nat_tests}
use Rattle.merkle.specs.Bytes.{Bytes}
use Rattle.text.specs.Text.{is_digit, number_from, number, up_to}

number_some : (t : Bytes) → eqb (length t) 0 ≡ false → number t ≡ number_from 0 t
number_some [] h = cc
number_some (c ∷ cs) h = refl

-- a number above the limit stays above it
above : (limit n : ℕ) (cs : Bytes) → limit < n → up_to limit (number_from n cs) ≡ None
unfolding number_from
above limit n [] h = cond-false _ _ _ (lt-leb n limit h)
above limit n (c ∷ cs) h =
    cond_both (is_digit c) (number_from (n * 10 + (c - 48)) cs) None (λ o. up_to limit o ≡ None) (λ _. above limit (n * 10 + (c - 48)) cs (omega arith)) (λ _. refl)

module _ (t : Bytes) (n i : ℕ) (within : i < length t) where
  next : number_from n (drop i t) ≡ cond (is_digit (get_or t i 0)) (number_from (n * 10 + (get_or t i 0 - 48)) (drop (i + 1) t)) None
  unfolding number_from
  next = at_drop_more (number_from n) t i 0 within

  pub number_more : (m : ℕ) → is_digit (get_or t i 0) ≡ true → m ≡ n * 10 + (get_or t i 0 - 48) → number_from m (drop (i + 1) t) ≡ number_from n (drop i t)
  number_more m digit is = ap (λ x. number_from x (drop (i + 1) t)) is ∙ sym (cond-true _ _ _ digit) ∙ sym next

  pub number_not : (limit : ℕ) → limit < 2 ^ 64 → (is_digit (get_or t i 0) ≡ false) ⊎ (2 ^ 64 ≤ n * 10 + (get_or t i 0 - 48)) → up_to limit (number_from n (drop i t)) ≡ None
  number_not limit small (inl other) = ap (up_to limit) (next ∙ cond-false _ _ _ other)
  number_not limit small (inr large) =
      ap (up_to limit) next
      ∙ cond_both (is_digit (get_or t i 0)) (number_from (n * 10 + (get_or t i 0 - 48)) (drop (i + 1) t)) None (λ o. up_to limit o ≡ None) (λ _. above limit _ _ (omega arith)) (λ _. refl)

-- what is left after i bytes goes on to the number of the whole text
module _ (t : Bytes) (limit n i : ℕ) (some : eqb (length t) 0 ≡ false) (goes : up_to limit (number_from n (drop i t)) ≡ up_to limit (number_from 0 t)) where
  pub number_whole : up_to limit (number_from n (drop i t)) ≡ up_to limit (number t)
  number_whole = goes ∙ ap (up_to limit) (sym (number_some t some))

  pub number_end : length t ≤ i → up_to limit (Some n) ≡ up_to limit (number t)
  unfolding number_from
  number_end past = ap (up_to limit) (sym (at_drop_all (number_from n) t i past)) ∙ number_whole

-- ---- a number that was written is read
is_digit_written : (d : ℕ) → d < 10 → is_digit (48 + d) ≡ true
is_digit_written d h = grind (arith, nat_tests)

number_push : (cs : Bytes) (n m d v : ℕ) → number_from n cs ≡ Some m → d < 10 → m * 10 + d ≡ v → number_from n (cs ++ (48 + d) ∷ []) ≡ Some v
unfolding number_from
number_push [] n m d v is h e =
    let same : n ≡ m = cc in
    cond-true _ _ _ (is_digit_written d h) ∙ ap Some (omega arith)
number_push (c ∷ cs) n m d v is h e =
    cond_both (is_digit c) (number_from (n * 10 + (c - 48)) cs) None (λ o. o ≡ Some m → cond (is_digit c) (number_from (n * 10 + (c - 48)) (cs ++ (48 + d) ∷ [])) None ≡ Some v)
    (λ digit so. cond-true _ _ _ digit ∙ number_push cs (n * 10 + (c - 48)) m d v so h e) (λ _ so. cc) is

pub number_decimal : (n : ℕ) → n < 2 ^ 64 → number (decimal n) ≡ Some n
unfolding number_from
number_decimal n small =
    number_some (decimal n) (ne_eqb _ 0 (λ none. let some = decimal_nonempty n small in omega arith))
    ∙ decimal_by_steps (λ n ds. number_from 0 ds ≡ Some n) (λ n h. number_push [] 0 0 n n refl h (omega arith))
    (λ n ds h is. number_push ds 0 (n / 10) (n % 10) n is (omega arith) (omega arith)) n small

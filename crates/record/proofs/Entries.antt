-- What is made of a line, by the words that it may begin with.
use Rattle.std.proofs.Common.{◌≡◌, ◌-◌, ◌^◌, true, ◌++◌, length, Some, None, Ok, Err, decimal, Option, Result, sym, refl, ap, ◌∙◌, arith}
use Rattle.std.specs.Str.Lines.{strip_carriage_return}
use Rattle.std.specs.Result as results
use Rattle.std.specs.Result.{result_ok}
use Rattle.std.specs.Array.{IsWholeChunk}
use Rattle.std.proofs.lemmas.Bool.{and_parts, cond-true, cond-false, le-leb, eq-eqb, ne_eqb}
use Rattle.merkle.specs.Bytes.{Bytes}
use Rattle.text.specs.Text.{hexadecimal, unhex, up_to}
use Rattle.text.proofs.Digits.{number_decimal}
use Rattle.text.proofs.Unhex.{unhex_hex}
use Rattle.witness.specs.declared.Party.{Party}
use Rattle.witness.specs.declared.Party.TheVariants.{Claimer, Doubter}
use Rattle.dispute.specs.declared.Refusal.TheVariants.{Unreadable, WrongDay}
use Rattle.record.specs.declared.Entry.{Entry}
use Rattle.record.specs.declared.Entry.TheVariants.{Sent, Day, Faulty}
use Rattle.record.specs.Record.{after, or_else, sent_word, day_word, case_word, message, day, entry_in, digest_in, whole, opening_in, SentIsRead, DayIsRead, OpeningIsRead}
use Rattle.record.proofs.Lines.{after_word, plain, plain_hex, plain_decimal, ended_bare}

-- the entry by what follows the three words
abbrev pub chosen : (c d y : Option Bytes) → Entry Bytes
chosen c d y = or_else c (message Claimer) (or_else d (message Doubter) (or_else y day (Faulty Unreadable)))

-- m is the line l without its CR
module _ (l m : Bytes) (bare : m ≡ strip_carriage_return l) where
  pub entry_is : {c d y : Option Bytes} → c ≡ after (sent_word Claimer) m → d ≡ after (sent_word Doubter) m → y ≡ after day_word m → chosen c d y ≡ entry_in l
  unfolding entry_in
  entry_is {c} {d} {y} ic id iy =
      (λ i. chosen (ic i) (id i) (iy i)) ∙ ap (λ x. chosen (after (sent_word Claimer) x) (after (sent_word Doubter) x) (after day_word x)) bare

  pub opening_is : {o : Option Bytes} → o ≡ after case_word m → or_else o digest_in None ≡ opening_in l
  unfolding opening_in
  opening_is io = ap (λ x. or_else x digest_in None) (io ∙ ap (after case_word) bare)

  -- by the bytes of the digits t
  pub opening_by : (t : Bytes) {o : Option Bytes} → Some t ≡ after case_word m → o ≡ unhex t → or_else o whole None ≡ opening_in l
  opening_by t word is = ap (λ x. or_else x whole None) is ∙ opening_is word

-- a digest as a conversion gives it
pub whole_is : {E : Type 0} (b : Bytes) (r : Result Bytes E) → results.MatchResult r (λ y. IsWholeChunk b y 32) (λ _. length b ≡ 32 → ⊥) → result_ok r ≡ whole b
whole_is b (Ok y) h = ap Some h.same ∙ sym (cond-true _ _ _ (eq-eqb _ _ h.long))
whole_is b (Err e) h = sym (cond-false _ _ _ (ne_eqb _ _ h))

-- ---- lines that were made of something
word_plain : (w : Party) → plain (sent_word w) ≡ true
unfolding plain
word_plain Claimer = refl
word_plain Doubter = refl

sender_read : (w : Party) (l t : Bytes) → sent_word w ++ t ≡ strip_carriage_return l → message w t ≡ entry_in l
unfolding after
sender_read Claimer l t bare = entry_is l _ bare (sym (after_word (sent_word Claimer) t)) refl refl
sender_read Doubter l t bare = entry_is l _ bare refl (sym (after_word (sent_word Doubter) t)) refl

pub sent_read : SentIsRead
sent_read cr w b bytes =
    sym (sender_read w _ (hexadecimal b) (ended_bare cr (sent_word w) (hexadecimal b) (word_plain w) (plain_hex b))) ∙ ap (λ o. or_else o (Sent w) (Faulty Unreadable)) (unhex_hex b bytes)

pub day_read : DayIsRead
unfolding after plain
day_read cr d small =
    sym (entry_is _ _ (ended_bare cr day_word (decimal d) refl (plain_decimal d small)) refl refl (sym (after_word day_word (decimal d))))
    ∙ ap (λ o. or_else (up_to (2 ^ 64 - 1) o) Day (Faulty WrongDay)) (number_decimal d small)
    ∙ ap (λ o. or_else o Day (Faulty WrongDay)) (cond-true _ _ _ (le-leb d (2 ^ 64 - 1) (omega arith)))

pub opening_read : OpeningIsRead
unfolding after plain
opening_read cr d digest =
    let p = and_parts _ _ digest in
    sym (opening_is _ _ (ended_bare cr case_word (hexadecimal d) refl (plain_hex d)) (sym (after_word case_word (hexadecimal d))))
    ∙ ap (λ o. or_else o whole None) (unhex_hex d p.1) ∙ cond-true _ _ _ p.0

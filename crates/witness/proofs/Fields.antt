-- The fields of a witness, read from bytes one after another.
use Rattle.std.proofs.Common.{◌≡◌, ℕ, zero, suc, ◌+◌, ◌-◌, ◌*◌, ◌<◌, ◌≤◌, List, ◌∷◌, length, take, drop, Some, None, sym, refl, ap, ◌∙◌, arith}
use Rattle.std.specs.Simd.{first_chunks}
use Rattle.std.proofs.lemmas.List.{take-take, drop-take, drop-drop, get_or-take}
use Rattle.std.proofs.lemmas.Bool.{eq-eqb, ne_eqb}
use Rattle.merkle.specs.Bytes.{Bytes}
use Rattle.witness.specs.declared.Witness.{Witness}
use Rattle.witness.specs.Wire.{from_be4, opening_from, witness_from, parse}

pub other_length : (b : Bytes) → (length b ≡ 1072 → ⊥) → None ≡ parse 6 b
unfolding parse
other_length b other = rw (ne_eqb (length b) 1072 other)

-- ---- what is read of bytes is in those at their front
from_front : (m : ℕ) (b : Bytes) → 4 ≤ m → from_be4 (take m b) ≡ from_be4 b
from_front m b within =
    let at = λ (i : ℕ) (l : i < m). get_or-take m b i 0 l in
    λ j. at 0 (omega arith) j * 16777216 + at 1 (omega arith) j * 65536 + at 2 (omega arith) j * 256 + at 3 (omega arith) j

chunks_front : {X : Type 0} (n k m : ℕ) (xs : List X) → n * k ≤ m → first_chunks n k (take m xs) ≡ first_chunks n k xs
chunks_front n zero m xs within = refl
chunks_front n (suc k) m xs within =
    let s : n + (m - n) ≡ m = omega arith in
    let first : take n (take m xs) ≡ take n xs = take-take n m xs (omega arith) in
    let rest : drop n (take m xs) ≡ take (m - n) (drop n xs) = ap (λ x. drop n (take x xs)) (sym s) ∙ drop-take n (m - n) xs in
    (λ j. first j ∷ first_chunks n k (rest j)) ∙ ap (λ x. take n xs ∷ x) (chunks_front n k (m - n) (drop n xs) (omega arith))

opening_front : (b : Bytes) → opening_from (take 516 b) ≡ opening_from b
opening_front b =
    let w = from_front 516 b (omega arith) in
    let s = ap (first_chunks 32 16) (drop-take 4 512 b) ∙ chunks_front 32 16 512 (drop 4 b) (omega arith) in
    λ j. record { word = w j; siblings = s j }

pub witness_is : (b : Bytes) (o : Witness) → length b ≡ 1072 → o.place ≡ from_be4 (take 4 b) → o.register ≡ from_be4 (take 4 (drop 4 b)) → o.memory ≡ take 32 (drop 4 (drop 4 b)) →
    o.instruction ≡ opening_from (take 516 (drop 32 (drop 4 (drop 4 b)))) → o.operand ≡ opening_from (drop 516 (drop 32 (drop 4 (drop 4 b)))) → Some o ≡ parse 6 b
unfolding parse witness_from
witness_is b o long p r m i w =
    let rest = drop 4 (drop 4 b) in
    let eight : rest ≡ drop 8 b = drop-drop 4 4 b in
    let forty : drop 32 rest ≡ drop 40 b = ap (drop 32) eight ∙ drop-drop 32 8 b in
    let place = p ∙ from_front 4 b (omega arith) in
    let register = r ∙ from_front 4 (drop 4 b) (omega arith) in
    let memory = m ∙ ap (take 32) eight in
    let instruction = i ∙ opening_front (drop 32 rest) ∙ ap opening_from forty in
    let operand = w ∙ ap opening_from (ap (drop 516) forty ∙ drop-drop 516 40 b) in
    let whole : o ≡ witness_from b = λ j. record { place = place j; register = register j; memory = memory j; instruction = instruction j; operand = operand j } in
    ap Some whole ∙ rw (eq-eqb (length b) 1072 long)

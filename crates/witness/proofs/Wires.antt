-- A witness is read as it was sent.
use Rattle.std.proofs.Common.{◌≡◌, ℕ, zero, suc, ◌+◌, ◌*◌, ◌/◌, ◌^◌, ◌<◌, true, List, [], ◌∷◌, ◌++◌, length, drop, Some, sym, refl, ap, ◌∙◌, arith}
use Rattle.std.specs.List.{flat_map}
use Rattle.std.specs.Simd.{first_chunks}
use Rattle.std.proofs.lemmas.List.{append-nil, append_assoc, length-append, take_at, drop_at, drop-drop}
use Rattle.std.proofs.lemmas.Bool.{and_parts, eq-eqb}
use Rattle.merkle.specs.Bytes.{Bytes, Hash, Whole, is_digest, all_digests, be4}
use Rattle.merkle.specs.declared.opening.Opening.{Opening}
use Rattle.merkle.specs.Openings.{honest}
use Rattle.merkle.proofs.Strings.{digest_long}
use Rattle.merkle.proofs.Bindings.{Formed, formed}
use Rattle.merkle.proofs.Honest.{node_digest}
use Rattle.machine.specs.Machine.{State, place_of, fetch}
use Rattle.witness.specs.declared.Witness.{Witness}
use Rattle.witness.specs.Witness.{Valid, witness, shaped}
use Rattle.witness.proofs.Steps.{honest_formed, shaped_parts}
use Rattle.witness.specs.Wire.{opening_bytes, witness_bytes, from_be4, opening_from, witness_from, parse}

-- ---- numbers; with the quotients as variables `omega` has no division to think of
made_up : (w a b c x y z t : ℕ) → w ≡ 256 * a + t → a ≡ 256 * b + z → b ≡ 256 * c + y → c ≡ x → x * 16777216 + y * 65536 + z * 256 + t ≡ w
made_up w a b c x y z t e f g k = omega arith

be4_read : (w : ℕ) (r : Bytes) → w < 2 ^ 32 → from_be4 (be4 w ++ r) ≡ w
unfolding be4
be4_read w r l =
    let a : w / 65536 ≡ (w / 256) / 256 = omega arith in
    let b : w / 16777216 ≡ (w / 65536) / 256 = omega arith in
    let c : w / 16777216 < 256 = omega arith in
    made_up w (w / 256) (w / 65536) (w / 16777216) _ _ _ _ (omega arith) (omega arith) (omega arith) (omega arith)

-- ---- digests
joined_long : (ss : List Bytes) → all_digests ss ≡ true → length (flat_map (λ s. s) ss) ≡ 32 * length ss
unfolding all_digests
joined_long [] e = refl
joined_long (s ∷ ss) e =
    let p = and_parts (is_digest s) (all_digests ss) e in
    let l = digest_long s p.0 in
    let r = joined_long ss p.1 in
    rw length-append (omega arith)

chunks_joined : (n : ℕ) (ss : List Bytes) (r : Bytes) → length ss ≡ n → all_digests ss ≡ true → first_chunks 32 n (flat_map (λ s. s) ss ++ r) ≡ ss
unfolding all_digests
chunks_joined zero [] r l e = refl
chunks_joined zero (s ∷ ss) r l e = absurd (omega arith)
chunks_joined (suc n) [] r l e = absurd (omega arith)
chunks_joined (suc n) (s ∷ ss) r l e =
    let p = and_parts (is_digest s) (all_digests ss) e in
    let d = digest_long s p.0 in
    rw (append_assoc, take_at, drop_at, chunks_joined n ss r (omega arith) p.1)

-- ---- an opening
module _ (o : Opening) (f : Formed o) where
  opening_long : length (opening_bytes o) ≡ 516
  unfolding opening_bytes be4
  opening_long = let l = joined_long o.siblings f.digests in let c = f.count in omega arith

  opening_read : (r : Bytes) → opening_from (opening_bytes o ++ r) ≡ o
  unfolding opening_bytes be4
  opening_read r =
      let w = be4_read o.word (flat_map (λ s. s) o.siblings ++ r) f.word in
      let s = chunks_joined 16 o.siblings r f.count f.digests in
      λ j. record { word = w j; siblings = s j }

-- ---- the witness
module _ (o : Witness) (p : o.place < 2 ^ 32) (a : o.register < 2 ^ 32) (m : length o.memory ≡ 32) (i : Formed o.instruction) (w : Formed o.operand) where
  abbrev openings : Bytes
  openings = opening_bytes o.instruction ++ opening_bytes o.operand

  witness_long : length (witness_bytes o) ≡ 1072
  unfolding witness_bytes be4
  witness_long = let x = opening_long o.instruction i in let y = opening_long o.operand w in simp length-append (omega arith)

  witness_read : witness_from (witness_bytes o) ≡ o
  unfolding witness_from witness_bytes be4
  witness_read =
      let b = be4_read o.place (be4 o.register ++ (o.memory ++ openings)) p in
      let c = be4_read o.register (o.memory ++ openings) a in
      let d = take_at o.memory openings 32 m in
      let e : drop 32 (o.memory ++ openings) ≡ openings = drop_at o.memory openings 32 m in
      let f : drop 548 (o.memory ++ openings) ≡ opening_bytes o.operand ++ [] =
      sym (drop-drop 516 32 (o.memory ++ openings)) ∙ rw (e, append-nil, drop_at _ _ 516 (opening_long o.instruction i)) in
      let x = ap opening_from e ∙ opening_read o.instruction i (opening_bytes o.operand) in
      let y = ap opening_from f ∙ opening_read o.operand w [] in
      λ j. record { place = b j; register = c j; memory = d j; instruction = x j; operand = y j }

  pub parse_read : parse 6 (witness_bytes o) ≡ Some o
  unfolding parse
  parse_read = rw (eq-eqb (length (witness_bytes o)) 1072 witness_long, witness_read)

pub shaped_read : (o : Witness) → o.place < 2 ^ 32 → shaped o ≡ true → parse 6 (witness_bytes o) ≡ Some o
shaped_read o p e =
    let s = shaped_parts o e in
    parse_read o p s.register (digest_long _ s.memory) (formed o.instruction s.instruction) (formed o.operand s.operand)

pub legible : (h : Hash) → Whole h → (s : State) → Valid s → parse 6 (witness_bytes (witness h s)) ≡ Some (witness h s)
unfolding witness
legible h whole s v =
    parse_read (witness h s) (let p = v.place in omega arith) v.register (digest_long _ (node_digest h whole 16 0 s.memory)) (opens s.cpu.place) (opens (place_of (fetch s)))
  where
    opens : (i : ℕ) → Formed (honest h i s.memory)
    opens i = formed (honest h i s.memory) (honest_formed h whole i s.memory v.words)

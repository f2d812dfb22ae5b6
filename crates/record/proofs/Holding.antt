-- A line held up to n bytes: v is what is held, l whether there were more, bs all that came.
use Rattle.std.proofs.Common.{◌≡◌, ℕ, ◌<◌, ◌≤◌, Bool, true, false, cond, ltb, leb, [], ◌∷◌, ◌++◌, length, take, Some, None, sym, refl, ap, ◌∙◌, inl, inr, arith, ◌==◌}
use Rattle.std.proofs.lemmas.List.{length-take, length-take-le, length-append, take_all, take-append-le}
use Rattle.std.proofs.lemmas.Bool.{cond-true, cond-false, lt-ltb, le-ltb, ltb-true, ltb-false, le-leb, lt-leb, cases_Bool}
use Rattle.merkle.specs.Bytes.{Bytes}
use Rattle.record.specs.Held.{Held, longest, bounded, holding, Holds, whole_line}

module _ (n : ℕ) (v bs : Bytes) (l : Bool) (holds : v ≡ take n bs) (more : l ≡ ltb n (length bs)) where
  -- what came fits where less is held, and else fills it
  short : length v < n → length bs < n
  short l =
      elim (cases_Bool (ltb (length bs) n)) [
        | inl s ↦ ltb-true (length bs) n s
        | inr s ↦ (let z = ap length holds ∙ length-take-le n bs (ltb-false (length bs) n s) in absurd (omega arith))
      ]

  full : n ≤ length v → n ≤ length bs
  full l = let z = ap length holds ∙ length-take n bs in omega arith

  pub push_fits : (w : Bytes) (b : ℕ) → length v < n → w ≡ v ++ b ∷ [] → (w ≡ take n (bs ++ b ∷ [])) × (l ≡ ltb n (length (bs ++ b ∷ [])))
  push_fits w b l is =
      let s = short l in
      let k : length (bs ++ b ∷ []) ≤ n = let z = length-append bs (b ∷ []) in omega arith in
      (is ∙ ap (λ x. x ++ b ∷ []) (holds ∙ take_all n bs (omega arith)) ∙ sym (take_all n (bs ++ b ∷ []) k), more ∙ le-ltb n (length bs) (omega arith) ∙ sym (le-ltb n (length (bs ++ b ∷ [])) k))

  pub push_over : (b : ℕ) → n ≤ length v → (v ≡ take n (bs ++ b ∷ [])) × (true ≡ ltb n (length (bs ++ b ∷ [])))
  push_over b l =
      let s = full l in
      (holds ∙ sym (take-append-le n bs (b ∷ []) s), sym (lt-ltb n (length (bs ++ b ∷ [])) (let z = length-append bs (b ∷ []) in omega arith)))

  pub text_long : l ≡ true → None ≡ cond (leb (length bs) n) (Some bs) None
  text_long long = sym (cond-false _ _ _ (lt-leb (length bs) n (ltb-true n (length bs) (sym more ∙ long))))

  pub text_whole : l ≡ false → Some v ≡ cond (leb (length bs) n) (Some bs) None
  text_whole short =
      let s = ltb-false n (length bs) (sym more ∙ short) in
      ap Some (holds ∙ take_all n bs s) ∙ sym (cond-true _ _ _ (le-leb (length bs) n s))

same : (v w : Bytes) (l m : Bool) → v ≡ w → l ≡ m → ◌≡◌ {A = Held} (record { first = v; long = l }) (record { first = w; long = m })
same v w l m e f = rw (e, f) refl

-- a line that holds bs is whole where bs is no longer than the longest line
module _ (l : Held) (bs : Bytes) (holds : Holds l bs) where
  first_is : l.first ≡ take longest bs
  unfolding holding
  first_is = ap (λ (x : Held). x.first) holds

  long_is : l.long ≡ ltb longest (length bs)
  unfolding holding
  long_is = ap (λ (x : Held). x.long) holds

  pub whole_holds : whole_line l ≡ bounded bs
  whole_holds =
      elim (cases_Bool (l.long)) [
        | inl over ↦ (cond-true (l.long) None (Some l.first) over ∙ text_long longest l.first bs l.long first_is long_is over)
        | inr short ↦ (cond-false (l.long) None (Some l.first) short ∙ text_whole longest l.first bs l.long first_is long_is short)
      ]

  -- going on with a byte, it holds bs and the byte
  pub fits_holds : (w : Bytes) (b : ℕ) → length l.first < longest → w ≡ l.first ++ b ∷ [] → Holds (record { first = w; long = l.long }) (bs ++ b ∷ [])
  unfolding holding
  fits_holds w b room is = let s = push_fits longest l.first bs l.long first_is long_is w b room is in same _ _ _ _ s.0 s.1

  pub over_holds : (b : ℕ) → longest ≤ length l.first → Holds (record { first = l.first; long = true }) (bs ++ b ∷ [])
  unfolding holding
  over_holds b full = let s = push_over longest l.first bs l.long first_is long_is b full in same _ _ _ _ s.0 s.1

  pub empty_holds : (length l.first == 0) ≡ (length bs == 0)
  empty_holds = let z = ap length first_is ∙ length-take longest bs in grind (arith)

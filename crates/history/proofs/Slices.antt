-- States at the ends of slices.
use Rattle.std.proofs.Common.{◌≡◌, ℕ, ◌+◌, ◌*◌, ◌<◌, ◌≤◌, Bool, true, false, cond, ◌⊎◌, List, [], ◌∷◌, ◌++◌, length, get_or, take, drop, sym, refl, ap, ◌∙◌, subst, inl, inr, arith}
use Rattle.std.proofs.lemmas.List.{length_push, take_all, take-append-le, at_drop_more, at_drop_all}
use Rattle.std.proofs.lemmas.Bool.{cases_lt}
use Rattle.machine.specs.declared.Cpu.{Cpu}
use Rattle.machine.specs.Machine.{State, start, run}
use Rattle.machine.proofs.Runs.{run_add}
use Rattle.history.specs.declared.Slice.{Slice}
use Rattle.history.specs.Keeping.{Keeps, after, resumed, spacing}

resumed_push : (xs : List Slice) (x : Slice) (s : State) → resumed (xs ++ x ∷ []) s ≡ after x (resumed xs s)
unfolding resumed
resumed_push [] x s = refl
resumed_push (y ∷ xs) x s = resumed_push xs x (after y s)

-- a loop over slices, at its next one and past its end
pub resumed_more : (xs : List Slice) (i : ℕ) (x : Slice) (s u t : State) → i < length xs → x ≡ get_or xs i x → u ≡ after x s → resumed (drop i xs) s ≡ t →
    resumed (drop (i + 1) xs) u ≡ t
unfolding resumed
resumed_more xs i x s u t l is e inv =
    let rest = drop (i + 1) xs in
    ap (resumed rest) e ∙ ap (λ y. resumed (y ∷ rest) s) is ∙ sym (at_drop_more (λ ys. resumed ys s) xs i x l) ∙ inv

pub resumed_past : (xs : List Slice) (i : ℕ) (s t : State) → length xs ≤ i → resumed (drop i xs) s ≡ t → s ≡ t
unfolding resumed
resumed_past xs i s t l inv = sym (at_drop_all (λ ys. resumed ys s) xs i l) ∙ inv

-- and at its end, where it began at the program, with place and register 0, and zs are the n slices
pub resumed_all : (p m : List ℕ) (xs zs : List Slice) (n i : ℕ) (c : Cpu) (t : State) → Keeps p xs → n ≤ length xs → zs ≡ take n xs → (c.place ≡ 0) × (c.register ≡ 0) → m ≡ p →
    length zs ≤ i → resumed (drop i zs) t ≡ resumed zs (record { cpu = c; memory = m }) → t ≡ run (n * spacing) (start p)
resumed_all p m xs zs n i c t k l ez es em past inv =
    let z : record { cpu = c; memory = m } ≡ start p = λ j. record { cpu = record { place = es.0 j; register = es.1 j }; memory = em j } in
    resumed_past zs i t _ past inv ∙ ap (resumed zs) z ∙ ap (λ ys. resumed ys (start p)) ez ∙ k n l

pub keeps_none : (p : List ℕ) (xs : List Slice) → length xs ≡ 0 → Keeps p xs
unfolding resumed run
keeps_none p xs e i l =
    let z : i ≡ 0 = omega arith in
    ap (λ k. resumed (take k xs) (start p)) z ∙ sym (ap (λ k. run (k * spacing) (start p)) z)

-- one slice more, from the state s where the others end
keeps_push : (p : List ℕ) (xs : List Slice) (x : Slice) (s : State) → Keeps p xs → s ≡ run (length xs * spacing) (start p) → after x s ≡ run spacing s →
    Keeps p (xs ++ x ∷ [])
keeps_push p xs x s k e f i l = go (cases_lt (length xs) i)
  where
    go : (length xs < i) ⊎ (i ≤ length xs) → resumed (take i (xs ++ x ∷ [])) (start p) ≡ run (i * spacing) (start p)
    go (inr below) = ap (λ ys. resumed ys (start p)) (take-append-le i xs (x ∷ []) below) ∙ k i below
    go (inl past) =
        let n = length_push xs x in
        let all : length (xs ++ x ∷ []) ≤ i = omega arith in
        let whole : take (length xs) xs ≡ xs = take_all (length xs) xs (omega arith) in
        let old : resumed xs (start p) ≡ run (length xs * spacing) (start p) = ap (λ ys. resumed ys (start p)) (sym whole) ∙ k (length xs) (omega arith) in
        let new : resumed (take i (xs ++ x ∷ [])) (start p) ≡ after x s =
        ap (λ ys. resumed ys (start p)) (take_all i (xs ++ x ∷ []) all) ∙ resumed_push xs x (start p) ∙ ap (after x) (old ∙ sym e) in
        let steps : length xs * spacing + spacing ≡ i * spacing = omega arith in
        new ∙ f ∙ ap (run spacing) e ∙ run_add (length xs * spacing) spacing (start p) ∙ ap (λ k. run k (start p)) steps

-- the next slice, from the state s where the others end to the state t; it found a place or not
pub keeps_next : (p : List ℕ) (xs ys : List Slice) (x : Slice) (found : Bool) (s t : State) (n : ℕ) → Keeps p xs → n ≡ length xs → s ≡ run (n * spacing) (start p) →
    t ≡ run spacing s → after x s ≡ t → ys ≡ cond found (xs ++ x ∷ []) xs → Keeps p ys
keeps_next p xs ys x found s t n k len e et ex ey = subst (Keeps p) (sym ey) (go found)
  where
    go : (f : Bool) → Keeps p (cond f (xs ++ x ∷ []) xs)
    go true = keeps_push p xs x s k (e ∙ ap (λ i. run (i * spacing) (start p)) len) (ex ∙ et)
    go false = k

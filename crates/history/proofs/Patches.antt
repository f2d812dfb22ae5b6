-- The words that differ lead from one memory to the other.
use Rattle.std.proofs.Common.{◌≡◌, ℕ, ◌+◌, ◌<◌, ◌≤◌, Bool, true, false, cond, eqb, List, [], ◌∷◌, ◌++◌, length, get_or, set, drop, sym, refl, ap, ◌∙◌, arith}
use Rattle.std.proofs.lemmas.List.{append_assoc, append-nil, length_push, set_at, drop_all, drop_more, at_drop_more, at_drop_all}
use Rattle.std.proofs.lemmas.Bool.{eqb-true, eq-eqb, ne_eqb}
use Rattle.history.specs.declared.Change.{Change}
use Rattle.history.specs.Keeping.{differing, patched}

-- one word on, where the rest of the changes leads from the new word on; t says whether the word is the same
patched_next : (rest : List Change) (front xs zs : List ℕ) (x y i : ℕ) (t : Bool) → length front ≡ i → eqb x y ≡ t → patched rest (front ++ (y ∷ xs)) ≡ zs →
    patched (cond t rest (record { place = i; word = y } ∷ rest)) (front ++ (x ∷ xs)) ≡ zs
unfolding patched
patched_next rest front xs zs x y i true e same l = ap (λ z. patched rest (front ++ (z ∷ xs))) (eqb-true x y same) ∙ l
patched_next rest front xs zs x y i false e _ l = ap (patched rest) (set_at front x xs y i e) ∙ l

-- from a place on, where the words before it are the same already
patched_from : (front b a : List ℕ) (i : ℕ) → length front ≡ i → length b ≡ length a → patched (differing i b a) (front ++ b) ≡ front ++ a
unfolding patched differing
patched_from front [] [] i e l = refl
patched_from front [] (y ∷ ys) i e l = absurd (omega arith)
patched_from front (x ∷ xs) [] i e l = absurd (omega arith)
patched_from front (x ∷ xs) (y ∷ ys) i e l =
    let rest = differing (i + 1) xs ys in
    let n = length_push front y in
    patched_next rest front xs (front ++ (y ∷ ys)) x y i (eqb x y) e refl
    (ap (patched rest) (sym (append_assoc front (y ∷ []) xs)) ∙ patched_from (front ++ y ∷ []) xs ys (i + 1) (omega arith) (omega arith)
    ∙ append_assoc front (y ∷ []) ys)

pub patched_differing : (b a : List ℕ) → length b ≡ length a → patched (differing 0 b a) b ≡ a
patched_differing b a l = patched_from [] b a 0 refl l

-- a loop over changes, at its next one and at its end
pub patched_more : (cs : List Change) (i q : ℕ) (d : Change) (m : List ℕ) → i < length cs → q ≡ (get_or cs i d).place →
    patched (drop (i + 1) cs) (set m q (get_or cs i d).word) ≡ patched (drop i cs) m
unfolding patched
patched_more cs i q d m l e = ap (λ k. patched (drop (i + 1) cs) (set m k (get_or cs i d).word)) e ∙ sym (at_drop_more (λ xs. patched xs m) cs i d l)

pub patched_all : (cs : List Change) (i : ℕ) (m : List ℕ) → length cs ≤ i → patched (drop i cs) m ≡ m
unfolding patched
patched_all cs i m l = at_drop_all (λ xs. patched xs m) cs i l

-- a loop over the places, where cs are the changes so far: none yet, at a word that is the same, at one that differs, and at its end
pub differing_none : (cs : List Change) (b a : List ℕ) → cs ≡ [] → cs ++ differing 0 (drop 0 b) (drop 0 a) ≡ differing 0 b a
differing_none cs b a e = ap (λ xs. xs ++ differing 0 b a) e

differing_at : (i : ℕ) (b a : List ℕ) (t : Bool) → i < length b → i < length a → eqb (get_or b i 0) (get_or a i 0) ≡ t →
    differing i (drop i b) (drop i a) ≡
    cond t (differing (i + 1) (drop (i + 1) b) (drop (i + 1) a)) (record { place = i; word = get_or a i 0 } ∷ differing (i + 1) (drop (i + 1) b) (drop (i + 1) a))
unfolding differing
differing_at i b a t lb la e =
    let rest = differing (i + 1) (drop (i + 1) b) (drop (i + 1) a) in
    ap (λ xs. differing i xs (drop i a)) (drop_more b i 0 lb) ∙ ap (differing i (get_or b i 0 ∷ drop (i + 1) b)) (drop_more a i 0 la)
    ∙ ap (λ s. cond s rest (record { place = i; word = get_or a i 0 } ∷ rest)) e

pub differing_same : (i : ℕ) (b a : List ℕ) (cs : List Change) → i < length b → i < length a → get_or b i 0 ≡ get_or a i 0 →
    cs ++ differing (i + 1) (drop (i + 1) b) (drop (i + 1) a) ≡ cs ++ differing i (drop i b) (drop i a)
differing_same i b a cs lb la e = ap (λ xs. cs ++ xs) (sym (differing_at i b a true lb la (eq-eqb (get_or b i 0) (get_or a i 0) e)))

pub differing_more : (i : ℕ) (b a : List ℕ) (cs : List Change) → i < length b → i < length a → (get_or b i 0 ≡ get_or a i 0 → ⊥) →
    (cs ++ record { place = i; word = get_or a i 0 } ∷ []) ++ differing (i + 1) (drop (i + 1) b) (drop (i + 1) a) ≡ cs ++ differing i (drop i b) (drop i a)
differing_more i b a cs lb la n =
    append_assoc cs (record { place = i; word = get_or a i 0 } ∷ []) (differing (i + 1) (drop (i + 1) b) (drop (i + 1) a))
    ∙ ap (λ xs. cs ++ xs) (sym (differing_at i b a false lb la (ne_eqb (get_or b i 0) (get_or a i 0) n)))

pub differing_all : (i : ℕ) (b a : List ℕ) (cs : List Change) → length b ≤ i → cs ++ differing i (drop i b) (drop i a) ≡ cs
unfolding differing
differing_all i b a cs l = ap (λ xs. cs ++ differing i xs (drop i a)) (drop_all i b l) ∙ append-nil cs

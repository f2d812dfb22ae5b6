-- One sibling more beside the way up.
use Rattle.std.proofs.Common.{◌≡◌, ℕ, suc, ◌+◌, ◌-◌, ◌*◌, ◌/◌, ◌%◌, ◌^◌, ◌<◌, ◌≤◌, eqb, List, [], ◌∷◌, ◌++◌, length, take, set, sym, ap, ◌∙◌, add-one, arith}
use Rattle.std.proofs.lemmas.List.{take_more_set, append_assoc, append-nil, take_all}
use Rattle.std.proofs.lemmas.Nat.{pow-add, mul-le}
use Rattle.std.proofs.lemmas.Bool.{eqb-true, cond_both}
use Rattle.merkle.specs.Bytes.{Bytes, Hash}
use Rattle.merkle.specs.Tree.{node, sibling, siblings_of}
use Rattle.merkle.proofs.Nodes.{pow_down}

pub sibling_more : (h : Hash) (n m k j : ℕ) (ws : List ℕ) (e : Bytes) (ss : List Bytes) → k < length ss → suc m ≡ n → e ≡ node h k (sibling j) ws →
    take (k + 1) (set ss k e) ++ siblings_of h m (k + 1) (j / 2) ws ≡ take k ss ++ siblings_of h n k j ws
unfolding siblings_of
sibling_more h n m k j ws e ss within s is =
    ap (λ x. x ++ siblings_of h m (k + 1) (j / 2) ws) (take_more_set ss k e within) ∙
    append_assoc (take k ss) (e ∷ []) (siblings_of h m (k + 1) (j / 2) ws) ∙
    ap (λ x. take k ss ++ (x ∷ siblings_of h m (k + 1) (j / 2) ws)) is ∙
    ap (λ x. take k ss ++ (node h k (sibling j) ws ∷ siblings_of h m x (j / 2) ws)) (add-one k) ∙
    ap (λ x. take k ss ++ siblings_of h x k j ws) s

pub siblings_all : (h : Hash) (n k j : ℕ) (ws : List ℕ) (ss : List Bytes) → n ≡ 0 → length ss ≤ k → take k ss ++ siblings_of h n k j ws ≡ ss
unfolding siblings_of
siblings_all h n k j ws ss e past = ap (λ x. take k ss ++ siblings_of h x k j ws) e ∙ append-nil (take k ss) ∙ take_all k ss past

sibling_below : (j m : ℕ) → j < 2 * m → sibling j < 2 * m
sibling_below j m l = cond_both (eqb (j % 2) 0) (j + 1) (j - 1) (λ x. x < 2 * m) (λ t. let z : j % 2 ≡ 0 = eqb-true (j % 2) 0 t in omega arith) (λ _. omega arith)

-- the sibling lies in the tree
pub sibling_fits : (n k j : ℕ) → k < n → j < 2 ^ (n - k) → (sibling j + 1) * 2 ^ k ≤ 2 ^ n
sibling_fits n k j below l =
    let d : 2 ^ (n - k) ≡ 2 * 2 ^ (n - k - 1) = pow_down (n - k) (omega arith) in
    let a : sibling j < 2 * 2 ^ (n - k - 1) = sibling_below j (2 ^ (n - k - 1)) (omega arith) in
    let s : (n - k) + k ≡ n = omega arith in
    let p : 2 ^ (n - k) * 2 ^ k ≡ 2 ^ n = sym (pow-add 2 (n - k) k) ∙ ap (λ x. 2 ^ x) s in
    let m : (sibling j + 1) * 2 ^ k ≤ 2 ^ (n - k) * 2 ^ k = mul-le (sibling j + 1) (2 ^ k) (2 ^ (n - k)) (2 ^ k) (omega arith) (omega arith) in
    omega arith

pub half_below : (n k j : ℕ) → k < n → j < 2 ^ (n - k) → j / 2 < 2 ^ (n - (k + 1))
half_below n k j below l =
    let d : 2 ^ (n - k) ≡ 2 * 2 ^ (n - k - 1) = pow_down (n - k) (omega arith) in
    let s : n - k - 1 ≡ n - (k + 1) = omega arith in
    let e : 2 ^ (n - k - 1) ≡ 2 ^ (n - (k + 1)) = ap (λ x. 2 ^ x) s in
    omega arith

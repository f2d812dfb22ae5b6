-- The digest of a memory: a Merkle tree over its words; and openings of single words.
use Rattle.std.specs.Prelude.{ℕ, zero, suc, ◌+◌, ◌-◌, ◌*◌, ◌/◌, ◌%◌, cond, List, [], ◌∷◌, ◌++◌, ◌==◌, slice_index}
use Rattle.merkle.specs.Bytes.{Bytes, Hash, word_preimage, pair_preimage}

-- Node i of a level joins nodes 2 i and 2 i + 1 of the level below; level 0 has the digests of the words, where words beyond the memory's end are 0.
unfoldable pub node : Hash → (level i : ℕ) → (memory : List ℕ) → Bytes
node h zero i m = h (word_preimage (slice_index m i))
node h (suc k) i m = h (pair_preimage (node h k (2 * i) m) (node h k (2 * i + 1) m))

-- The memory's digest: words joined in pairs, these in pairs, and so on, sixteen times.
abbrev pub root : Hash → (memory : List ℕ) → Bytes
root h m = node h 16 0 m

-- The strings that are digested for a node, in their order.
unfoldable pub node_preimages : Hash → (level i : ℕ) → (memory : List ℕ) → List Bytes
node_preimages h zero i m = word_preimage (slice_index m i) ∷ []
node_preimages h (suc k) i m =
    node_preimages h k (2 * i) m ++ (node_preimages h k (2 * i + 1) m ++ (pair_preimage (node h k (2 * i) m) (node h k (2 * i + 1) m) ∷ []))

-- What is digested for the parent of node i, of digest d, whose sibling has the digest s.
abbrev pub parent_preimage : (i : ℕ) (d s : Bytes) → Bytes
parent_preimage i d s = cond (i % 2 == 0) (pair_preimage d s) (pair_preimage s d)

-- The digest at the end of the way up from node i, of digest d; the siblings' digests beside it, the lowest first.
unfoldable pub climb : Hash → (i : ℕ) (d : Bytes) (siblings : List Bytes) → Bytes
climb h i d [] = d
climb h i d (s ∷ ss) = climb h (i / 2) (h (parent_preimage i d s)) ss

-- What is digested on that way, the lowest first.
unfoldable pub way_preimages : Hash → (i : ℕ) (d : Bytes) (siblings : List Bytes) → List Bytes
way_preimages h i d [] = []
way_preimages h i d (s ∷ ss) = parent_preimage i d s ∷ way_preimages h (i / 2) (h (parent_preimage i d s)) ss

-- The memory's digest that an opening gives: a word at a place, with the siblings beside its way up.
abbrev pub root_from : Hash → (place word : ℕ) (siblings : List Bytes) → Bytes
root_from h i w ss = climb h i (h (word_preimage w)) ss

-- What is digested for an opening, the lowest first.
abbrev pub opening_preimages : Hash → (place word : ℕ) (siblings : List Bytes) → List Bytes
opening_preimages h i w ss = word_preimage w ∷ way_preimages h i (h (word_preimage w)) ss

-- The node that has the same parent as node i.
abbrev pub sibling : (i : ℕ) → ℕ
sibling i = cond (i % 2 == 0) (i + 1) (i - 1)

-- The siblings' digests beside the way up from node i of a level, the lowest first.
unfoldable pub siblings_of : Hash → (count level i : ℕ) → (memory : List ℕ) → List Bytes
siblings_of h zero k i m = []
siblings_of h (suc n) k i m = node h k (sibling i) m ∷ siblings_of h n (suc k) (i / 2) m

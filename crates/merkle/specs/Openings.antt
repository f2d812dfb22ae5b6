-- What openings are good for.
use Rattle.std.specs.Prelude.{◌≡◌, ℕ, ◌^◌, ◌<◌, Bool, true, ◌&&◌, ◌⊎◌, List, length, ◌==◌, nat_lt, slice_index, slice_set}
use Rattle.merkle.specs.declared.opening.Opening.{Opening}
use Rattle.merkle.specs.Bytes.{Bytes, Hash, Whole, all_digests}
use Rattle.merkle.specs.Tree.{node, root_from, opening_preimages, siblings_of}
use Rattle.merkle.specs.Collision.{WayCollision}

-- The root that an opening gives at a place, and what is digested for it.
abbrev pub opened : Hash → (place : ℕ) → Opening → Bytes
opened h i o = root_from h i o.word o.siblings

abbrev pub preimages : Hash → (place : ℕ) → Opening → List Bytes
preimages h i o = opening_preimages h i o.word o.siblings

-- A word of 32 bits and sixteen digests of 32 bytes.
unfoldable pub well_formed : Opening → Bool
well_formed o = nat_lt o.word (2 ^ 32) && length o.siblings == 16 && all_digests o.siblings

-- The honest opening of a place.
abbrev pub honest : Hash → (place : ℕ) → (memory : List ℕ) → Opening
honest h i m = record { word = slice_index m i; siblings = siblings_of h 16 0 i m }

-- Two openings of one place that give one root are the same, or the search in their ways finds a collision.
abbrev pub Binds : Type 0
Binds =
    (h : Hash) → Whole h → (i : ℕ) (a b : Opening) → well_formed a ≡ true → well_formed b ≡ true → opened h i a ≡ opened h i b →
    (a ≡ b) ⊎ WayCollision h (preimages h i a) (preimages h i b)

-- An honest opening gives the root.
abbrev pub Opens : Type 0
Opens = (h : Hash) (i : ℕ) (m : List ℕ) → i < 65536 → opened h i (honest h i m) ≡ node h 16 0 m

-- An honest opening with another word gives the root of the memory with that word.
abbrev pub Updates : Type 0
Updates = (h : Hash) (i v : ℕ) (m : List ℕ) → i < 65536 → i < length m → opened h i (record { word = v; siblings = (honest h i m).siblings }) ≡ node h 16 0 (slice_set m i v)

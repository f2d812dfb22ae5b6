-- Two different strings with one digest, and the search for them in two ways up a tree.
use Rattle.std.specs.Prelude.{◌≡◌, true, cond, List, [], ◌∷◌, Some, None, Option, bytes_eq}
use Rattle.merkle.specs.Bytes.{Bytes, Hash, all_bytes}

-- A collision: two different byte strings with one digest.
pub record Collision (h : Hash) (one other : Bytes) : Type 0 where
  pub differ : one ≡ other → ⊥
  pub same : h one ≡ h other
  pub one_bytes : all_bytes one ≡ true
  pub other_bytes : all_bytes other ≡ true

-- Two strings, where they differ.
abbrev pub difference : Bytes → Bytes → Option (Bytes × Bytes)
difference x y = cond (bytes_eq x y) None (Some (x, y))

-- The first pair, if there is one, else the second.
abbrev pub or_else : {X : Type 0} → Option X → Option X → Option X
or_else None y = y
or_else (Some x) y = Some x

-- The last two strings at one place of two lists that differ: of two ways, whose strings stand from the bottom up, the first from the top down.
unfoldable pub last_difference : List Bytes → List Bytes → Option (Bytes × Bytes)
last_difference [] ys = None
last_difference (x ∷ xs) [] = None
last_difference (x ∷ xs) (y ∷ ys) = or_else (last_difference xs ys) (difference x y)

-- The search in two ways finds a collision.
pub record WayCollision (h : Hash) (xs ys : List Bytes) : Type 0 where
  pub one : Bytes
  pub other : Bytes
  pub first : last_difference xs ys ≡ Some (one, other)
  pub collision : Collision h one other

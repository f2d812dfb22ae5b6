-- What a digester has seen after it was given some strings.
use Rattle.std.specs.Prelude.{List, [], ◌∷◌}
use Rattle.merkle.specs.Bytes.{Bytes}

unfoldable pub seen_all : {S : Type 0} → (adds : S → Bytes → S) → S → List Bytes → S
seen_all adds s [] = s
seen_all adds s (x ∷ xs) = seen_all adds (adds s x) xs

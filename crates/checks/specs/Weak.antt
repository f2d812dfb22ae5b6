-- A weak digest, for tests: 32 times the sum of the bytes, modulo 256.
use Rattle.std.specs.Prelude.{◌+◌, ◌%◌, replicate}
use Rattle.std.specs.List.{fold}
use Rattle.std.proofs.Common.{rules}
use Rattle.merkle.specs.Bytes.{Bytes, Whole, all_bytes}

abbrev pub weak : Bytes → Bytes
weak a = replicate 32 (fold (λ s x. (s + x) % 256) 0 a % 256)

-- 32 bytes come out of it.
pub weak_whole : Whole weak
unfolding all_bytes
weak_whole a = search rules

use Rattle.std.proofs.Common.{◌≡◌, map, take}
use Rattle.sha256.specs.Sha256.{word}
use Rattle.sha256.proofs.block_words.Given as goal

abbrev pub invariant-loop-t : goal.invariant-loop-t
invariant-loop-t l = take l.t l.word-items ≡ map word (take l.t l.chunks)

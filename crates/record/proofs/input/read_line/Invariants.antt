use Rattle.std.proofs.Common.{◌≡◌, ℕ, false, ◌++◌, length, Some, None, Option}
use Rattle.std.specs.Io.BufRead.{take_through, drop_through, ends_with_byte}
use Rattle.merkle.specs.Bytes.{Bytes}
use Rattle.record.specs.Held.{Held, Holds}
use Rattle.record.proofs.input.read_line.Given as goal

-- of the bytes xs the first n, the ones in p, have come, none of them a line feed, and ys are left
pub record Parted (n : ℕ) (xs ys p : Bytes) : Type 0 where
  pub whole : xs ≡ p ++ ys
  pub taken : take_through 10 xs ≡ p ++ take_through 10 ys
  pub dropped : drop_through 10 xs ≡ drop_through 10 ys
  pub count : length p ≡ n
  pub open_end : ends_with_byte 10 p ≡ false

abbrev pub Known : ℕ → (before now : Option Bytes) → Bytes → Type 0
Known n None now p = Unit {0}
Known n (Some xs) None p = ⊥
Known n (Some xs) (Some ys) p = Parted n xs ys p

-- p, of n bytes, is what has come of the line l
abbrev pub Passed : ℕ → (before now : Option Bytes) → Held → Type 0
Passed n before now l = (p : Bytes) × Holds l p × Known n before now p

abbrev pub invariant-loop : goal.invariant-loop
invariant-loop g l = Passed l.counter (g.R.Read.remaining l.fn.input) (g.R.Read.remaining l.input) l.line

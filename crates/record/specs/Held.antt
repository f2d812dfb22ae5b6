-- What is held of a line as it comes in: its bytes up to the longest line's, and whether there were more.
use Rattle.std.specs.Prelude.{◌≡◌, ℕ, Bool, true, false, cond, [], ◌∷◌, ◌++◌, length, take, Some, None, Option, nat_le, nat_lt, bytes_eq}
use Rattle.std.specs.Io.BufRead.{drop_through, first_piece}
use Rattle.std.specs.Str.Lines.{strip_carriage_return}
use Rattle.merkle.specs.Bytes.{Bytes}
use Rattle.dispute.specs.declared.Phase.{Phase}
use Rattle.dispute.specs.declared.Refusal.TheVariants.{Unreadable}
use Rattle.dispute.specs.Referee.{Answer}
use Rattle.record.specs.declared.Entry.{Entry}
use Rattle.record.specs.declared.Entry.TheVariants.{Faulty}
use Rattle.record.specs.Record.{or_else, entry_in, opening_in, answer_line}

-- The longest line: a word of 7 letters, a space, 1,073 bytes in hexadecimal, and a CR.
abbrev pub longest : ℕ
longest = 2155

-- A line that is not too long.
abbrev pub bounded : Bytes → Option Bytes
bounded bs = cond (nat_le (length bs) longest) (Some bs) None

-- A line as it is held.
pub record Held : Type 0 where
  pub first : Bytes
  pub long : Bool

-- What is held of the line with the bytes bs.
unfoldable pub holding : Bytes → Held
holding bs = record { first = take longest bs; long = nat_lt longest (length bs) }

abbrev pub Holds : Held → Bytes → Type 0
Holds l bs = l ≡ holding bs

-- Nothing of a line.
abbrev pub nothing : Held
nothing = record { first = []; long = false }

-- The whole line; None where it is too long. Where l holds bs, this is bounded bs.
abbrev pub whole_line : Held → Option Bytes
whole_line l = cond l.long None (Some l.first)

-- The line goes on with a byte: where l holds bs, this holds bs and the byte.
abbrev pub pushed : Held → ℕ → Held
pushed l b = cond (nat_lt (length l.first) longest) (record { first = l.first ++ b ∷ []; long = l.long }) (record { first = l.first; long = true })

-- What is read of an input with the bytes xs, of which then those in `rest` are left: its first line, if there is one.
pub record ReadsLine (xs : Bytes) (rest : Option Bytes) (more : Bool) (l : Held) : Type 0 where
  pub there : more ≡ nat_lt 0 (length xs)
  pub line : Holds l (first_piece 10 xs)
  pub left : rest ≡ Some (drop_through 10 xs)

-- The entry in a line; one that is too long is no message.
abbrev pub entry_at : Held → Entry Bytes
entry_at l = or_else (whole_line l) entry_in (Faulty Unreadable)

-- The digest that it opens a case with.
abbrev pub opening_at : Held → Option Bytes
opening_at l = or_else (whole_line l) opening_in None

-- Whether it is this answer, with the case standing so.
abbrev pub answers_so : Held → Answer → Phase → Bool
answers_so l a f = or_else (whole_line l) (λ bs. bytes_eq (strip_carriage_return bs) (answer_line a f)) false

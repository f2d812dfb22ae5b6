-- The lines of a case's record, as bytes without the line feed.
use Rattle.std.specs.Prelude.{◌≡◌, ℕ, ◌-◌, ◌^◌, ◌<◌, Bool, true, cond, List, [], ◌∷◌, ◌++◌, length, Some, None, Ok, Err, vec_items, codes, decimal, Option, Vec, ◌==◌}
use Rattle.std.specs.Str.Lines.{strip_carriage_return}
use Rattle.std.specs.declared.alloc.Global.{Global}
use Rattle.merkle.specs.Bytes.{Bytes, all_bytes, is_digest}
use Rattle.text.specs.Text.{hexadecimal, unhex, number, up_to}
use Rattle.witness.specs.declared.Party.{Party}
use Rattle.witness.specs.declared.Party.TheVariants.{Claimer, Doubter}
use Rattle.witness.specs.Name.{name}
use Rattle.dispute.specs.declared.Phase.{Phase}
use Rattle.dispute.specs.declared.Phase.TheVariants.{Claiming, Doubting, Bisecting, Answering, Proving, Over}
use Rattle.dispute.specs.declared.Refusal.TheVariants.{Unreadable, WrongDay}
use Rattle.dispute.specs.declared.Case.{Case}
use Rattle.dispute.specs.Referee.{Answer, Protocol, CaseOf, Event, sent, day as begins, opening, take, play, refusal_number}
use Rattle.dispute.specs.Bisection.{turn, game}
use Rattle.dispute.specs.Promise.{Promised}
use Rattle.system.specs.System.{System}
use Rattle.record.specs.declared.Entry.{Entry}
use Rattle.record.specs.declared.Entry.TheVariants.{Sent, Day, Faulty}

-- ---- reading
-- What follows a word at the front of a line, if the word is there.
unfoldable pub after : (word line : Bytes) → Option Bytes
after [] l = Some l
after (c ∷ w) [] = None
after (c ∷ w) (d ∷ l) = cond (c == d) (after w l) None

-- What f makes of a value that is there, or else another.
abbrev pub or_else : {X Y : Type 0} → Option X → (X → Y) → Y → Y
or_else None f y = y
or_else (Some x) f y = f x

-- The words that lines begin with, and the space after them.
abbrev pub sent_word : Party → Bytes
sent_word w = name w ++ codes " "

abbrev pub day_word : Bytes
day_word = codes "day "

abbrev pub case_word : Bytes
case_word = codes "case "

-- A message in hexadecimal.
abbrev pub message : Party → Bytes → Entry Bytes
message w t = or_else (unhex t) (Sent w) (Faulty Unreadable)

-- A day: a decimal number of 64 bits.
abbrev pub day : Bytes → Entry Bytes
day t = or_else (up_to (2 ^ 64 - 1) (number t)) Day (Faulty WrongDay)

-- The entry in a line: claimer HEX, doubter HEX, or day D.
unfoldable pub entry_in : Bytes → Entry Bytes
entry_in l =
    or_else (after (sent_word Claimer) (strip_carriage_return l)) (message Claimer)
    (or_else (after (sent_word Doubter) (strip_carriage_return l)) (message Doubter)
    (or_else (after day_word (strip_carriage_return l)) day (Faulty Unreadable)))

-- The 32 bytes of a digest.
abbrev pub whole : Bytes → Option Bytes
whole b = cond (length b == 32) (Some b) None

-- A digest in hexadecimal.
abbrev pub digest_in : Bytes → Option Bytes
digest_in t = or_else (unhex t) whole None

-- The digest in a case's first line: case DIGEST.
unfoldable pub opening_in : Bytes → Option Bytes
opening_in l = or_else (after case_word (strip_carriage_return l)) digest_in None

-- The entry that the code holds, with the bytes in place of a vector of them.
abbrev pub held : Entry (Vec ℕ Global) → Entry Bytes
held (Sent w v) = Sent w (vec_items v)
held (Day d) = Day d
held (Faulty r) = Faulty r

-- ---- what was written is read
-- A line as it stands in a record, with or without a CR.
abbrev pub ended : (cr : Bool) → Bytes → Bytes
ended cr l = l ++ cond cr (13 ∷ []) []

-- The line of bytes that a party sends gives these.
abbrev pub SentIsRead : Type 0
SentIsRead = (cr : Bool) (w : Party) (b : Bytes) → all_bytes b ≡ true → entry_in (ended cr (sent_word w ++ hexadecimal b)) ≡ Sent w b

-- The line of a day gives the day.
abbrev pub DayIsRead : Type 0
DayIsRead = (cr : Bool) (d : ℕ) → d < 2 ^ 64 → entry_in (ended cr (day_word ++ decimal d)) ≡ Day d

-- The first line gives its digest.
abbrev pub OpeningIsRead : Type 0
OpeningIsRead = (cr : Bool) (d : Bytes) → is_digest d ≡ true → opening_in (ended cr (case_word ++ hexadecimal d)) ≡ Some d

-- ---- entries at the referee
-- What comes of an entry: the referee takes a message or a day, and a faulty entry is refused and changes nothing.
abbrev pub entered : (P : Protocol) → CaseOf P → Entry Bytes → CaseOf P × Answer
entered P c (Sent w b) = take P c (sent w b)
entered P c (Day d) = take P c (begins d)
entered P c (Faulty k) = (c, Err k)

-- The event that it is for the referee, if any.
abbrev pub events : Entry Bytes → List Event
events (Sent w b) = sent w b ∷ []
events (Day d) = begins d ∷ []
events (Faulty k) = []

-- The promise of a dispute, kept by a call that makes c' of c at an entry: whatever events led to c, it holds of c'.
abbrev pub KeepsAt : (S : System) → (c : Case Phase) → Entry Bytes → (c' : Case Phase) → Type 0
KeepsAt S c e c' = (s : S.State) → S.Valid s → (es : List Event) → c ≡ play (game S s) (opening (game S s)) es → Promised S s (es ++ events e) c'

-- ---- answers
-- What became of an entry: taken, or the number of the refusal.
abbrev pub outcome : Answer → Bytes
outcome (Ok u) = codes "taken"
outcome (Err r) = decimal (refusal_number r)

-- The winner, once the case is over.
abbrev pub winner : Phase → Option Party
winner (Claiming g) = None
winner (Doubting g n x) = None
winner (Bisecting n p) = None
winner (Answering n p x) = None
winner (Proving p) = None
winner (Over w) = Some w

-- Whose turn it is, or who has won; one of these there always is.
abbrev pub standing : Phase → Bytes
standing f = or_else (turn f) (λ w. codes "turn " ++ name w) (or_else (winner f) (λ w. codes "won " ++ name w) [])

-- The line of an answer: the outcome, and how the case stands then.
abbrev pub answer_line : Answer → Phase → Bytes
answer_line a f = outcome a ++ (codes " " ++ standing f)

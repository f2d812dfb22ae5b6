-- The halving game as a protocol over any system: its messages and their bytes, its phases, and what the honest parties send.
use Rattle.std.specs.Prelude.{◌≡◌, ℕ, zero, suc, ◌+◌, ◌^◌, ◌<◌, ◌≤◌, cond, ◌&&◌, [], ◌∷◌, length, drop, Some, None, Option, ◌==◌, nat_le, slice_index, bytes_eq}
use Rattle.std.specs.Option.{option_map}
use Rattle.merkle.specs.Bytes.{Bytes}
use Rattle.system.specs.System.{System, run, digest_at}
use Rattle.witness.specs.declared.Party.{Party}
use Rattle.witness.specs.declared.Party.TheVariants.{Claimer, Doubter}
use Rattle.dispute.specs.declared.Message.{Message}
use Rattle.dispute.specs.declared.Message.TheVariants.{Claim, Doubt, Middle, Right, Wrong, Step}
use Rattle.dispute.specs.declared.Dispute.{Dispute}
use Rattle.dispute.specs.declared.Phase.{Phase}
use Rattle.dispute.specs.declared.Phase.TheVariants.{Claiming, Doubting, Bisecting, Answering, Proving, Over}
use Rattle.dispute.specs.Referee.{Protocol}

-- ---- turns
abbrev pub turn : Phase → Option Party
turn (Claiming g) = Some Claimer
turn (Doubting g n x) = Some Doubter
turn (Bisecting n p) = Some Claimer
turn (Answering n p x) = Some Doubter
turn (Proving p) = Some Claimer
turn (Over w) = None

-- ---- the steps in dispute
-- 2 ^ n steps are in dispute.
abbrev pub disputing : (n : ℕ) → Dispute → Phase
disputing zero p = Proving p
disputing (suc n) p = Bisecting n p

-- The whole run.
abbrev pub whole : (start claimed : Bytes) → Dispute
whole g x = record { from = 0; agreed = g; disputed = x }

-- The first half; d is the digest in the middle.
abbrev pub first_half : Dispute → (d : Bytes) → Dispute
first_half p d = record { from = p.from; agreed = p.agreed; disputed = d }

-- The second half, of 2 ^ n steps.
abbrev pub second_half : (n : ℕ) → Dispute → (d : Bytes) → Dispute
second_half n p d = record { from = p.from + 2 ^ n; agreed = d; disputed = p.disputed }

-- The number of steps up to which something is claimed or disputed.
abbrev pub reach : Phase → ℕ
reach (Claiming g) = 0
reach (Doubting g n x) = 2 ^ n
reach (Bisecting n p) = p.from + 2 ^ suc n
reach (Answering n p x) = p.from + 2 ^ suc n
reach (Proving p) = p.from + 1
reach (Over w) = 0

-- It is within 2 ^ 32.
abbrev pub InReach : Phase → Type 0
InReach f = reach f ≤ 4294967296

-- ---- bytes
-- A message with so many bytes behind the first.
unfoldable pub sized : {M : Type 0} → (count : ℕ) → Bytes → M → Option M
sized k b m = cond (length b == k) (Some m) None

-- A claim, of n from 1 to 32, in 33 bytes.
unfoldable pub claim_in : {W : Type 0} → Bytes → Option (Message W)
claim_in b = cond (nat_le 1 (slice_index b 0) && nat_le (slice_index b 0) 32) (sized 33 b (Claim (slice_index b 0) (drop 1 b))) None

module _ (S : System) where
  abbrev pub MessageOf : Type 0
  MessageOf = Message S.Witness

  -- The message with this first byte; a step is read by the system.
  unfoldable pub body_of : (kind : ℕ) → Bytes → Option MessageOf
  body_of k b =
      cond (k == 1) (claim_in b) (cond (k == 2) (sized 0 b Doubt) (cond (k == 3) (sized 32 b (Middle b))
      (cond (k == 4) (sized 0 b Right) (cond (k == 5) (sized 0 b Wrong) (option_map Step (S.parse k b))))))

  -- The message in a string; None: it is no message.
  unfoldable pub decode : Bytes → Option MessageOf
  decode [] = None
  decode (k ∷ b) = body_of k b

  -- The bytes of a message.
  unfoldable pub encode : MessageOf → Bytes
  encode (Claim n d) = 1 ∷ (n ∷ d)
  encode Doubt = 2 ∷ []
  encode (Middle d) = 3 ∷ d
  encode Right = 4 ∷ []
  encode Wrong = 5 ∷ []
  encode (Step o) = S.kind o ∷ S.body o

  -- A claim about at least two steps and at most 2 ^ 32.
  abbrev pub InClaim : MessageOf → Type 0
  InClaim (Claim n d) = (1 ≤ n) × (n ≤ 32)
  InClaim Doubt = Unit {0}
  InClaim (Middle d) = Unit {0}
  InClaim Right = Unit {0}
  InClaim Wrong = Unit {0}
  InClaim (Step o) = Unit {0}

  -- The messages that fit their bytes.
  abbrev pub Sendable : MessageOf → Type 0
  Sendable (Claim n d) = (1 ≤ n) × (n ≤ 32) × (length d ≡ 32)
  Sendable Doubt = Unit {0}
  Sendable (Middle d) = length d ≡ 32
  Sendable Right = Unit {0}
  Sendable Wrong = Unit {0}
  Sendable (Step o) = (5 < S.kind o) × (S.parse (S.kind o) (S.body o) ≡ Some o)

  -- ---- moves
  -- Who wins by the step that is shown.
  abbrev pub verdict : Dispute → S.Witness → Party
  verdict p o = cond (S.accepts p.agreed o p.disputed) Claimer Doubter

  -- The phase after a message in its turn; each turn is for one kind of message, the answer to a middle for two.
  abbrev pub move : Phase → MessageOf → Option Phase
  move (Claiming g) (Claim n d) = Some (Doubting g n d)
  move (Claiming g) Doubt = None
  move (Claiming g) (Middle d) = None
  move (Claiming g) Right = None
  move (Claiming g) Wrong = None
  move (Claiming g) (Step o) = None
  move (Doubting g n x) (Claim k d) = None
  move (Doubting g n x) Doubt = Some (disputing n (whole g x))
  move (Doubting g n x) (Middle d) = None
  move (Doubting g n x) Right = None
  move (Doubting g n x) Wrong = None
  move (Doubting g n x) (Step o) = None
  move (Bisecting n p) (Claim k d) = None
  move (Bisecting n p) Doubt = None
  move (Bisecting n p) (Middle d) = Some (Answering n p d)
  move (Bisecting n p) Right = None
  move (Bisecting n p) Wrong = None
  move (Bisecting n p) (Step o) = None
  move (Answering n p x) (Claim k d) = None
  move (Answering n p x) Doubt = None
  move (Answering n p x) (Middle d) = None
  move (Answering n p x) Right = Some (disputing n (second_half n p x))
  move (Answering n p x) Wrong = Some (disputing n (first_half p x))
  move (Answering n p x) (Step o) = None
  move (Proving p) (Claim k d) = None
  move (Proving p) Doubt = None
  move (Proving p) (Middle d) = None
  move (Proving p) Right = None
  move (Proving p) Wrong = None
  move (Proving p) (Step o) = Some (Over (verdict p o))
  move (Over w) m = None

  -- The dispute about a run from the state with the digest g.
  abbrev pub bisection : (start : Bytes) → Protocol
  bisection g = record { Message = MessageOf; decode = decode; Phase = Phase; first = Claiming g; over = λ w. Over w; turn = turn; move = move }

  -- The same about the run from a state.
  abbrev pub game : S.State → Protocol
  game s = bisection (S.digest s)

  -- ---- honest parties
  -- The honest claimer, of a case about 2 ^ n steps, claims, names and shows what its own run has.
  abbrev pub honest_claimer : S.State → (n : ℕ) → Phase → Option MessageOf
  honest_claimer s n (Claiming g) = Some (Claim n (digest_at S s (2 ^ n)))
  honest_claimer s n (Doubting g k x) = None
  honest_claimer s n (Bisecting k p) = Some (Middle (digest_at S s (p.from + 2 ^ k)))
  honest_claimer s n (Answering k p x) = None
  honest_claimer s n (Proving p) = Some (Step (S.witness (run S p.from s)))
  honest_claimer s n (Over w) = None

  -- The honest doubter doubts a claim exactly if it is not its own run's, and says right exactly if the middle is.
  abbrev pub honest_doubter : S.State → Phase → Option MessageOf
  honest_doubter s (Claiming g) = None
  honest_doubter s (Doubting g k x) = cond (bytes_eq x (digest_at S s (2 ^ k))) None (Some Doubt)
  honest_doubter s (Bisecting k p) = None
  honest_doubter s (Answering k p x) = Some (cond (bytes_eq x (digest_at S s (p.from + 2 ^ k))) Right Wrong)
  honest_doubter s (Proving p) = None
  honest_doubter s (Over w) = None

  -- The claimer shows a step, and its witness and the run's own state there hold a collision.
  pub data Collides (s : S.State) : Phase → MessageOf → Type 0 where
    collides : {p : Dispute} {o : S.Witness} → S.Found (run S p.from s) o → Collides s (Proving p) (Step o)

  -- The claimer claims what the run has.
  pub data ClaimsRight (s : S.State) : Phase → MessageOf → Type 0 where
    claims_right : {g : Bytes} {n : ℕ} {d : Bytes} → d ≡ digest_at S s (2 ^ n) → ClaimsRight s (Claiming g) (Claim n d)

  -- The claimer makes a claim about 2 ^ n steps.
  abbrev pub Claims : (n : ℕ) → Phase → MessageOf → Type 0
  Claims n f m = (g : Bytes) × (d : Bytes) × (f ≡ Claiming g) × (m ≡ Claim n d)

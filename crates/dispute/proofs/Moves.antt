-- The halving game: the moves as a relation, and what is read from bytes.
use Rattle.std.proofs.Common.{◌≡◌, ℕ, ◌≤◌, ◌&&◌, eqb, leb, [], ◌∷◌, length, get_or, drop, Some, None, Option, refl, subst, arith}
use Rattle.std.specs.Option.{option_map}
use Rattle.std.proofs.lemmas.Bool.{eq-eqb, ne_eqb, leb-true, le-leb, and_parts, cond_both}
use Rattle.merkle.specs.Bytes.{Bytes}
use Rattle.system.specs.System.{System}
use Rattle.dispute.specs.declared.Message.TheVariants.{Claim, Doubt, Middle, Right, Wrong, Step}
use Rattle.dispute.specs.declared.Dispute.{Dispute}
use Rattle.dispute.specs.declared.Phase.{Phase}
use Rattle.dispute.specs.declared.Phase.TheVariants.{Claiming, Doubting, Bisecting, Answering, Proving, Over}
use Rattle.dispute.specs.Bisection.{sized, claim_in, disputing, whole, first_half, second_half, MessageOf, body_of, decode, encode, verdict, move}
use Rattle.dispute.specs.Promise.{Reads}

module _ (S : System) where
  pub data Move : Phase → MessageOf S → Phase → Type 0 where
    claims : {g : Bytes} {n : ℕ} {d : Bytes} → Move (Claiming g) (Claim n d) (Doubting g n d)
    doubts : {g : Bytes} {n : ℕ} {x : Bytes} → Move (Doubting g n x) Doubt (disputing n (whole g x))
    names : {n : ℕ} {p : Dispute} {d : Bytes} → Move (Bisecting n p) (Middle d) (Answering n p d)
    agrees : {n : ℕ} {p : Dispute} {x : Bytes} → Move (Answering n p x) Right (disputing n (second_half n p x))
    denies : {n : ℕ} {p : Dispute} {x : Bytes} → Move (Answering n p x) Wrong (disputing n (first_half p x))
    proves : {p : Dispute} {o : S.Witness} → Move (Proving p) (Step o) (Over (verdict S p o))

  data Outcome (f : Phase) (m : MessageOf S) : Option Phase → Type 0 where
    moves : {f' : Phase} → Move f m f' → Outcome f m (Some f')
    stays : Outcome f m None

  outcome : (f : Phase) (m : MessageOf S) → Outcome f m (move S f m)
  outcome (Claiming g) (Claim n d) = moves claims
  outcome (Claiming g) Doubt = stays
  outcome (Claiming g) (Middle d) = stays
  outcome (Claiming g) Right = stays
  outcome (Claiming g) Wrong = stays
  outcome (Claiming g) (Step o) = stays
  outcome (Doubting g n x) (Claim k d) = stays
  outcome (Doubting g n x) Doubt = moves doubts
  outcome (Doubting g n x) (Middle d) = stays
  outcome (Doubting g n x) Right = stays
  outcome (Doubting g n x) Wrong = stays
  outcome (Doubting g n x) (Step o) = stays
  outcome (Bisecting n p) (Claim k d) = stays
  outcome (Bisecting n p) Doubt = stays
  outcome (Bisecting n p) (Middle d) = moves names
  outcome (Bisecting n p) Right = stays
  outcome (Bisecting n p) Wrong = stays
  outcome (Bisecting n p) (Step o) = stays
  outcome (Answering n p x) (Claim k d) = stays
  outcome (Answering n p x) Doubt = stays
  outcome (Answering n p x) (Middle d) = stays
  outcome (Answering n p x) Right = moves agrees
  outcome (Answering n p x) Wrong = moves denies
  outcome (Answering n p x) (Step o) = stays
  outcome (Proving p) (Claim k d) = stays
  outcome (Proving p) Doubt = stays
  outcome (Proving p) (Middle d) = stays
  outcome (Proving p) Right = stays
  outcome (Proving p) Wrong = stays
  outcome (Proving p) (Step o) = moves proves
  outcome (Over w) m = stays

  -- what the rule makes of a message is one of the six moves
  pub made : (f : Phase) (m : MessageOf S) (f' : Phase) → move S f m ≡ Some f' → Move f m f'
  made f m f' e = go (move S f m) (outcome f m) e
    where
      go : (r : Option Phase) → Outcome f m r → r ≡ Some f' → Move f m f'
      go None stays e = cc
      go (Some f'') (moves k) e = let z : f'' ≡ f' = cc in subst (λ x. Move f m x) z k

  -- and where no move is possible, the turn is not for it
  pub stuck : (f : Phase) (m : MessageOf S) → ((f' : Phase) → Move f m f' → ⊥) → None ≡ move S f m
  stuck f m no' = go (move S f m) (outcome f m)
    where
      go : (r : Option Phase) → Outcome f m r → None ≡ r
      go None stays = refl
      go (Some f') (moves v) = absurd (no' f' v)

  -- a fact of every message that is read, from the six kinds
  module _ (Q : MessageOf S → Type 0) where
    Each : Option (MessageOf S) → Type 0
    Each o = (m : MessageOf S) → o ≡ Some m → Q m

    at_none : Each None
    unfolding Each
    at_none m e = cc

    at_some : (m : MessageOf S) → Q m → Each (Some m)
    unfolding Each
    at_some m q m' e = let z : m ≡ m' = cc in subst Q z q

    at_sized : (k : ℕ) (b : Bytes) (m : MessageOf S) → Q m → Each (sized k b m)
    unfolding sized
    at_sized k b m q = cond_both (eqb (length b) k) (Some m) None Each (λ t. at_some m q) (λ _. at_none)

    at_step : (k : ℕ) (b : Bytes) → ((o : S.Witness) → S.parse k b ≡ Some o → Q (Step o)) → (o : Option S.Witness) → S.parse k b ≡ o → Each (option_map Step o)
    at_step k b q None e = at_none
    at_step k b q (Some o) e = at_some (Step o) (q o e)

    pub read_fact : ((n : ℕ) (d : Bytes) → n ≤ 32 → Q (Claim n d)) → Q Doubt → ((d : Bytes) → Q (Middle d)) → Q Right → Q Wrong →
        ((k : ℕ) (b : Bytes) (o : S.Witness) → S.parse k b ≡ Some o → Q (Step o)) →
        (b : Bytes) (m : MessageOf S) → decode S b ≡ Some m → Q m
    unfolding decode body_of claim_in Each
    read_fact q1 q2 q3 q4 q5 q6 [] = at_none
    read_fact q1 q2 q3 q4 q5 q6 (k ∷ b) =
        cond_both (eqb k 1) _ _ Each
        (λ _. cond_both (leb 1 (get_or b 0 0) && leb (get_or b 0 0) 32) _ None Each
        (λ t. at_sized 33 b (Claim (get_or b 0 0) (drop 1 b)) (q1 (get_or b 0 0) (drop 1 b) (leb-true _ 32 (and_parts (leb 1 (get_or b 0 0)) (leb (get_or b 0 0) 32) t).1))) (λ _. at_none))
        (λ _. cond_both (eqb k 2) _ _ Each (λ _. at_sized 0 b Doubt q2)
        (λ _. cond_both (eqb k 3) _ _ Each (λ _. at_sized 32 b (Middle b) (q3 b))
        (λ _. cond_both (eqb k 4) _ _ Each (λ _. at_sized 0 b Right q4)
        (λ _. cond_both (eqb k 5) _ _ Each (λ _. at_sized 0 b Wrong q5) (λ _. at_step k b (q6 k b) (S.parse k b) refl)))))

  -- a claim is about 2 ^ 32 steps at most
  abbrev pub Small : MessageOf S → Type 0
  Small (Claim n d) = n ≤ 32
  Small Doubt = Unit {0}
  Small (Middle d) = Unit {0}
  Small Right = Unit {0}
  Small Wrong = Unit {0}
  Small (Step o) = Unit {0}

  pub read_small : (b : Bytes) (m : MessageOf S) → decode S b ≡ Some m → Small m
  read_small = read_fact Small (λ n d l. l) tt (λ _. tt) tt tt (λ _ _ _ _. tt)

  sized_reads : (k : ℕ) (b : Bytes) (m : MessageOf S) → length b ≡ k → sized k b m ≡ Some m
  unfolding sized
  sized_reads k b m l = rw (eq-eqb (length b) k l)

  pub reads : Reads S
  unfolding decode encode body_of claim_in
  reads (Claim n d) (lo, hi, l) = rw (le-leb 1 n lo, le-leb n 32 hi) (sized_reads 33 (n ∷ d) (Claim n d) (omega arith))
  reads Doubt k = sized_reads 0 [] Doubt refl
  reads (Middle d) l = sized_reads 32 d (Middle d) l
  reads Right k = sized_reads 0 [] Right refl
  reads Wrong k = sized_reads 0 [] Wrong refl
  reads (Step o) (k, e) =
      rw (ne_eqb (S.kind o) 1 (λ z. omega arith), ne_eqb (S.kind o) 2 (λ z. omega arith), ne_eqb (S.kind o) 3 (λ z. omega arith), ne_eqb (S.kind o) 4 (λ z. omega arith), ne_eqb (S.kind o) 5 (λ z. omega arith), e)

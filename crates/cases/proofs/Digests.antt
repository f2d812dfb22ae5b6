-- The digests of the table, computed.
use Rattle.std.proofs.Common.{◌≡◌, ℕ, false, List, [], ◌∷◌, get_or, set, sym, refl, ap, ◌∙◌, arith, bytes_eq}
use Rattle.sha256.specs.Sha256.{K, H₀, words, next, more, expand, schedule, rounds, sums, compress, zeros, ending, pad, absorb, hash, sha256}
use Rattle.merkle.specs.Bytes.{Bytes, be4, word_preimage, pair_preimage, state_preimage}
use Rattle.merkle.specs.Tree.{root, climb, root_from, siblings_of}
use Rattle.merkle.specs.Openings.{opened, honest}
use Rattle.merkle.proofs.Honest.{updates}
use Rattle.machine.specs.Machine.{State, digest}
use Rattle.cases.specs.Rows.{bytes, as_digest}
use Rattle.cases.specs.Table.{instructions, sevens, idle, digest0, digest1, digest2, digest3, forged, digest_idle}
use Rattle.cases.proofs.Blanks.{twin, listed, blanks, sparse, beside, sparse_node, sparse_siblings}
use Rattle.cases.proofs.Programs.{program_at, program_size}

-- Where this is unfolded, digests are computed.
computed : Bytes → Bytes
unfolding K H₀ words next more expand schedule rounds sums compress zeros ending pad absorb hash sha256 be4 word_preimage pair_preimage state_preimage bytes
computed b = sha256 b

-- ---- memories
abbrev pub memory : List ℕ
memory = sevens.memory

abbrev pub stored : List ℕ
stored = set memory 100 7

-- Their digests, and what word 0 and its siblings give at place 1.
abbrev root_memory : ℕ
root_memory = 0x52636f8b7a70d9ddfb24755ca561dc8e7cce0994bc0cd0ecb251a79d0c57b25d

abbrev root_stored : ℕ
root_stored = 0x26399723167de7e6e9c9dff91417f5a797ff45c73063fb5870c78208f8bbba88

abbrev root_idle : ℕ
root_idle = 0x5350bf0c06787f1977cb398befdd025d9facb63ffa7a6fde9d9ba316e8c9ef8c

abbrev root_misplaced : ℕ
root_misplaced = 0xcb598380661fd9e47750eeb423e5993dfbaa21f7d2da1c67324125cfce77f870

-- All four at once, so that the zeros zs are digested once.
abbrev roots : (zs : List Bytes) → List Bytes
roots zs =
    sparse sha256 zs instructions 16 0
    ∷ root_from sha256 100 7 (beside sha256 zs instructions 16 0 100)
    ∷ sparse sha256 zs [] 16 0
    ∷ root_from sha256 1 458759 (beside sha256 zs instructions 16 0 0)
    ∷ []

abbrev known : List Bytes
known = as_digest root_memory ∷ as_digest root_stored ∷ as_digest root_idle ∷ as_digest root_misplaced ∷ []

roots_are : roots (blanks sha256) ≡ known
unfolding computed twin listed blanks sparse beside climb
roots_are = refl

root_is : (i : ℕ) → get_or (roots (blanks sha256)) i [] ≡ get_or known i []
root_is i = ap (λ l. get_or l i []) roots_are

siblings_are : (i : ℕ) → siblings_of sha256 16 0 i memory ≡ beside sha256 (blanks sha256) instructions 16 0 i
siblings_are i = sparse_siblings sha256 instructions memory (program_at instructions) 16 0 i (omega arith)

memory_root : root sha256 memory ≡ as_digest root_memory
memory_root = sparse_node sha256 instructions memory (program_at instructions) 16 0 (omega arith) ∙ root_is 0

stored_root : root sha256 stored ≡ as_digest root_stored
stored_root =
    let z = program_size instructions (omega arith) in
    sym (updates sha256 100 7 memory (omega arith) (omega arith)) ∙ ap (root_from sha256 100 7) (siblings_are 100) ∙ root_is 1

idle_root : root sha256 idle.memory ≡ as_digest root_idle
idle_root = sparse_node sha256 [] idle.memory (program_at []) 16 0 (omega arith) ∙ root_is 2

misplaced_root : opened sha256 1 (honest sha256 0 memory) ≡ as_digest root_misplaced
misplaced_root = ap (λ w. root_from sha256 1 w (siblings_of sha256 16 0 0 memory)) (program_at instructions 0) ∙ ap (root_from sha256 1 458759) (siblings_are 0) ∙ root_is 3

pub misplaced_off : bytes_eq (opened sha256 1 (honest sha256 0 memory)) (root sha256 memory) ≡ false
unfolding bytes
misplaced_off = ap (λ x. bytes_eq x (root sha256 memory)) misplaced_root ∙ ap (bytes_eq (as_digest root_misplaced)) memory_root

-- ---- states
abbrev pub state : (place register : ℕ) → List ℕ → State
state p a m = record { cpu = record { place = p; register = a }; memory = m }

-- r is the memory's digest
with_root : (p a r : ℕ) (m : List ℕ) (d : Bytes) → root sha256 m ≡ as_digest r → sha256 (state_preimage p a (as_digest r)) ≡ d → digest sha256 (state p a m) ≡ d
with_root p a r m d e f = ap (λ x. sha256 (state_preimage p a x)) e ∙ f

pub digest0_is : digest sha256 (state 0 0 memory) ≡ as_digest digest0
unfolding computed
digest0_is = with_root 0 0 root_memory memory _ memory_root refl

pub digest1_is : digest sha256 (state 1 7 memory) ≡ as_digest digest1
unfolding computed
digest1_is = with_root 1 7 root_memory memory _ memory_root refl

pub forged_is : digest sha256 (state 2 7 memory) ≡ as_digest forged
unfolding computed
forged_is = with_root 2 7 root_memory memory _ memory_root refl

pub digest2_is : digest sha256 (state 2 7 stored) ≡ as_digest digest2
unfolding computed
digest2_is = with_root 2 7 root_stored stored _ stored_root refl

pub digest3_is : digest sha256 (state 0 7 stored) ≡ as_digest digest3
unfolding computed
digest3_is = with_root 0 7 root_stored stored _ stored_root refl

pub idle_is : digest sha256 idle ≡ as_digest digest_idle
unfolding computed
idle_is = with_root 0 0 root_idle idle.memory _ idle_root refl

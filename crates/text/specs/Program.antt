-- Program files: up to 65,536 words of 4 bytes, high byte first; the words beyond are 0.
use Rattle.std.specs.Prelude.{◌≡◌, ℕ, ◌+◌, ◌-◌, ◌*◌, ◌/◌, ◌%◌, cond, ◌⊎◌, List, ◌++◌, map, length, replicate, Some, None, Ok, Err, Option, Result, ◌==◌, nat_le, slice_index}
use Rattle.std.specs.Simd.{first_chunks}
use Rattle.merkle.specs.Bytes.{Bytes}
use Rattle.text.specs.declared.program.LoadError.{LoadError}
use Rattle.text.specs.declared.program.LoadError.TheVariants.{NotWords, TooLong, NoMemory}

-- The word in four bytes.
abbrev pub word_in : Bytes → ℕ
word_in b = slice_index b 0 * 16777216 + slice_index b 1 * 65536 + slice_index b 2 * 256 + slice_index b 3

-- The words of a file.
abbrev pub words_in : Bytes → List ℕ
words_in f = map word_in (first_chunks 4 (length f / 4) f)

-- The memory that a file fills.
abbrev pub program : Bytes → List ℕ
program f = words_in f ++ replicate (65536 - length f / 4) 0

-- Why a file is no program.
abbrev pub fault : Bytes → Option LoadError
fault f = cond (length f % 4 == 0) (cond (nat_le (length f / 4) 65536) None (Some TooLong)) (Some NotWords)

-- The number by which a program prints why it takes no program file: 5 for a bad file; want of memory has none.
abbrev pub refusal : LoadError → Option ℕ
refusal NotWords = Some 5
refusal TooLong = Some 5
refusal NoMemory = None

-- What is made of a file: something of the kind Q, or why not; memory may be wanting for any file but a bad one.
abbrev pub Made : {V : Type 0} → Bytes → (Q : V → Type 0) → Result V LoadError → Type 0
Made f Q (Ok v) = (fault f ≡ None) × Q v
Made f Q (Err e) = (fault f ≡ Some e) ⊎ ((fault f ≡ None) × (e ≡ NoMemory))

-- The start of a walk: window D0000000 of 4,096 bytes, its 64 areas linked ascending from FCX D0000, and no second one.
use Rattle.std.specs.Prelude.{ℕ, zero, suc, ◌+◌, ◌*◌, cond, List, [], ◌∷◌, length, replicate, ltb, leb, Result, ⊤}
use Rattle.memory.specs.Address.{as_address}
use Rattle.memory.specs.Word.{word_at, put_word}
use Rattle.memory.specs.Memory.{windows, Memory, memory}
use Rattle.registers.specs.Registers.{registers, pc, fcx, pcxi}
use Rattle.registers.specs.declared.Registers.{Registers}
use Rattle.inputs.specs.Checks.{start_verdict}
use Rattle.protection.specs.declared.range.Range.{Range}
use Rattle.inputs.specs.declared.verdict.Refusal.{Refusal}

-- area k's first word is the link of the next area; the last one's is 0
unfoldable pub link_after : ℕ → ℕ
link_after k = cond (ltb k 63) (0xD_0001 + k) 0

-- the window with its first n areas linked, all else 0
unfoldable pub linked : ℕ → List ℕ
linked zero = replicate 4096 0
linked (suc k) = put_word (linked k) (64 * k) (link_after k)

unfoldable pub start_bytes : List ℕ
start_bytes = linked 64

-- a window of these bytes at its address, and a second one of length 0
abbrev pub window_of : List ℕ → Memory
window_of bytes = memory (windows (as_address 0xD000_0000) (length bytes) (as_address 0)) bytes

-- the first load address: the image's second word (an image without one is refused by rule 2)
unfoldable pub first_address : List ℕ → ℕ
first_address img = cond (leb 8 (length img)) (word_at img 4) 0

-- PC the first load address, PSW 00000B80, FCX D0000, BTV 80010000, the rest 0
unfoldable pub start_registers : List ℕ → Registers
start_registers img =
    registers (replicate 16 0) (replicate 16 0) (first_address img ∷ 0xB80 ∷ 0 ∷ 0xD_0000 ∷ 0 ∷ 0 ∷ 0 ∷ 0 ∷ 0x8001_0000 ∷ 0 ∷ [])

-- the seven rules of a start, tried with these
abbrev pub start_verdict_of : List ℕ → Result ⊤ Refusal
start_verdict_of img = let r = start_registers img in start_verdict (window_of start_bytes) img (pc r) (fcx r) (pcxi r)

unfoldable pub no_ranges : List Range
no_ranges = replicate 32 (record { lower = 0; upper = 0; mode = 0 })

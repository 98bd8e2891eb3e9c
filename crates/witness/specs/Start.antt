-- A start that all seven rules accept: two windows in two segments, and in them three free areas, two in use, and one on neither list. Both lists cross between the windows.
use Rattle.std.specs.Prelude.{ℕ, ◌/◌, ◌%◌, ◌^◌, List, [], ◌∷◌, ◌++◌, replicate}
use Rattle.memory.specs.Address.{as_address}
use Rattle.memory.specs.Memory.{lent}
use Rattle.registers.specs.Registers.{registers}
use Rattle.series.specs.Calls.{State, state}

-- the bytes of words
abbrev pub in_bytes : List ℕ → List ℕ
in_bytes [] = []
in_bytes (w ∷ ws) = w % 2 ^ 8 ∷ w / 2 ^ 8 % 2 ^ 8 ∷ w / 2 ^ 16 % 2 ^ 8 ∷ w / 2 ^ 24 ∷ in_bytes ws

-- D0 to D15
abbrev pub start_d : List ℕ
start_d = 0x01 ∷ 0x02 ∷ 0x03 ∷ 0x04 ∷ 0x05 ∷ 0x06 ∷ 0x07 ∷ 0x08 ∷ 0x09 ∷ 0x0A ∷ 0x0B ∷ 0x0C ∷ 0x0D ∷ 0x0E ∷ 0x0F ∷ 0x10 ∷ []

-- A0 to A15; A5 is the address of the area on neither list
abbrev pub start_a : List ℕ
start_a = 0x21 ∷ 0x22 ∷ 0x23 ∷ 0x24 ∷ 0x25 ∷ 0xC000_0080 ∷ 0x27 ∷ 0x28 ∷ 0x29 ∷ 0x2A ∷ 0x2B ∷ 0x8000_0004 ∷ 0x2D ∷ 0x2E ∷ 0x2F ∷ 0x30 ∷ []

-- PC, PSW, PCXI, FCX, LCX, ICR, ISP, BIV, BTV, SYSCON: interrupts are enabled at CCPN 5, protection is on, and LCX is the second free area's link
abbrev pub start_core : List ℕ
start_core = 0x8000_0000 ∷ 0x0000_0981 ∷ 0x02CC_0001 ∷ 0x000D_0000 ∷ 0x000C_0000 ∷ 0x0000_0105 ∷ 0x9000_0000 ∷ 0x8000_0000 ∷ 0x8000_0000 ∷ 2 ∷ []

-- the contexts in use: an upper one, whose first word links to a lower one
abbrev pub upper_words : List ℕ
upper_words = 0x010D_0002 ∷ 0x0000_0B80 ∷ 0x41 ∷ 0x42 ∷ 0x43 ∷ 0x44 ∷ 0x45 ∷ 0x46 ∷ 0x51 ∷ 0x52 ∷ 0x53 ∷ 0x54 ∷ 0x55 ∷ 0x56 ∷ 0x57 ∷ 0x58 ∷ []

abbrev pub lower_words : List ℕ
lower_words = 0 ∷ 0x8000_0040 ∷ 0x61 ∷ 0x62 ∷ 0x63 ∷ 0x64 ∷ 0x65 ∷ 0x66 ∷ 0x71 ∷ 0x72 ∷ 0x73 ∷ 0x74 ∷ 0x75 ∷ 0x76 ∷ 0x77 ∷ 0x78 ∷ []

-- a free area
abbrev pub linked : ℕ → List ℕ
linked l = l ∷ replicate 15 0

-- the first window: the first and the third free area, and the second in use
abbrev pub window : List ℕ
window = in_bytes (linked 0xC_0000) ++ in_bytes (linked 0) ++ in_bytes lower_words

-- the second window: the second free area, the first in use, and one on neither list
abbrev pub window2 : List ℕ
window2 = in_bytes (linked 0xD_0001) ++ in_bytes upper_words ++ in_bytes (replicate 16 0)

-- they lie at D0000000 and C0000000
abbrev pub start : State
start = state (registers start_d start_a start_core) (lent (as_address 0xD000_0000) window (as_address 0xC000_0000) window2)

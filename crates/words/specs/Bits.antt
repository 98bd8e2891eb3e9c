-- Bits of a word. Bit 0 is the least significant one (002, 9.2).
use Rattle.std.specs.Prelude.{ℕ, ◌-◌, ◌/◌, ◌%◌, ◌^◌, Bool}
use mir.Val.{bool_byte}

-- a truth value as a bit: 1 for true, 0 for false
abbrev pub number : Bool → ℕ
number b = bool_byte b

-- bit i of a word
unfoldable pub bit : ℕ → ℕ → ℕ
bit i w = w / 2 ^ i % 2

-- the ones-complement of a word
abbrev pub complement : ℕ → ℕ
complement w = 0xFFFF_FFFF - w

-- Fields of a word. Bit 0 is the least significant one.
use Rattle.std.specs.Prelude.{ℕ, ◌/◌, ◌%◌, ◌^◌, eqb, Bool}
use Rattle.words.specs.Bits.{bit}

-- bit i of a word is 1
unfoldable pub is_set : ℕ → ℕ → Bool
is_set i w = eqb (bit i w) 1

-- the n bits of a word from bit i on
abbrev pub field : ℕ → ℕ → ℕ → ℕ
field i n w = w / 2 ^ i % 2 ^ n

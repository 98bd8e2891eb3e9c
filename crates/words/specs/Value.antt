-- Words of 32 bits as signed numbers, and integers as words.
use Rattle.std.specs.Prelude.{ℕ, ◌-◌, ◌%◌, Bool, cond, ◌&&◌, ℤ, pos, negsuc, ◌-ℤ◌, int_le, int_lt, nat_lt}

-- a word's value in two's complement
unfoldable pub signed : ℕ → ℤ
signed w = cond (nat_lt w 0x8000_0000) (pos w) (pos w -ℤ pos 0x1_0000_0000)

-- the low 32 bits of an integer: the number below 2 ^ 32 that differs from it by a multiple of 2 ^ 32. `negsuc n` is -(n + 1).
unfoldable pub low : ℤ → ℕ
low (pos n) = n % 0x1_0000_0000
low (negsuc n) = 0xFFFF_FFFF - n % 0x1_0000_0000

-- lo ≤ z ≤ hi
unfoldable pub within : ℤ → ℤ → ℤ → Bool
within lo hi z = int_le lo z && int_le z hi

-- z, or the end of the range that it lies past
unfoldable pub clamp : ℤ → ℤ → ℤ → ℤ
clamp lo hi z = cond (int_lt z lo) lo (cond (int_lt hi z) hi z)

-- the least and the largest signed word, and the largest unsigned one (002, 8.1)
abbrev pub least : ℤ
least = negsuc 0x7FFF_FFFF

abbrev pub largest : ℤ
largest = pos 0x7FFF_FFFF

abbrev pub largest_unsigned : ℤ
largest_unsigned = pos 0xFFFF_FFFF

-- a shift count: the signed value of the low six bits, -32 to 31
unfoldable pub shift_count : ℕ → ℤ
shift_count b = cond (nat_lt (b % 64) 32) (pos (b % 64)) (pos (b % 64) -ℤ pos 64)

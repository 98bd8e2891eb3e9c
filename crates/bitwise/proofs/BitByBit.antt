-- What the logical operations do to each bit: the kit's `bit_and`, `bit_or` and `bit_xor` are those of the manual.
-- Assumes nothing.
use Prim.Native.Nat.{ℕ, zero, suc, ◌*◌, ◌/◌, ◌%◌, ◌^◌, ◌+◌, ◌<◌, min, max}
use native.Mathlib.Omega.{arith}
use mathlib.Core.Path.{◌≡◌}
use lib.Bits.{bit_and, bit_or, bit_xor, differ, and_step, or_step, xor_step, and_shr, or_shr, xor_shr}
use lib.Dec.{lit<}
use Rattle.words.specs.Bits.{bit}

odd : (h r : ℕ) → r < 2 → (h * 2 + r) % 2 ≡ r
odd h r l = omega arith

-- an operation that takes its operands' lowest bits by f, and the rest as it takes halves
module _ (op f : ℕ → ℕ → ℕ) (step : (a b : ℕ) → op a b ≡ op (a / 2) (b / 2) * 2 + f (a % 2) (b % 2))
    (shr : (a b k : ℕ) → op a b / 2 ^ k ≡ op (a / 2 ^ k) (b / 2 ^ k)) (small : (a b : ℕ) → f (a % 2) (b % 2) < 2) where
  each_bit : (i a b : ℕ) → bit i (op a b) ≡ f (bit i a) (bit i b)
  unfolding bit
  each_bit i a b =
      let x = a / 2 ^ i in
      let y = b / 2 ^ i in
      rw (shr a b i, step x y) (odd (op (x / 2) (y / 2)) (f (x % 2) (y % 2)) (small x y))

-- 1 where both bits are
pub and_bit : (i a b : ℕ) → bit i (bit_and a b) ≡ min (bit i a) (bit i b)
and_bit = each_bit bit_and min and_step and_shr (λ a b. omega arith)

-- 1 where one of the bits is
pub or_bit : (i a b : ℕ) → bit i (bit_or a b) ≡ max (bit i a) (bit i b)
or_bit = each_bit bit_or max or_step or_shr (λ a b. omega arith)

-- 1 where the bits differ
differ_lt : (x y : ℕ) → x < 2 → y < 2 → differ x y < 2
differ_lt zero y h k = k
differ_lt (suc zero) zero h k = lit< tt
differ_lt (suc zero) (suc zero) h k = lit< tt
differ_lt (suc zero) (suc (suc y)) h k = absurd (omega arith)
differ_lt (suc (suc x)) y h k = absurd (omega arith)

pub xor_bit : (i a b : ℕ) → bit i (bit_xor a b) ≡ differ (bit i a) (bit i b)
xor_bit = each_bit bit_xor differ xor_step xor_shr (λ a b. differ_lt (a % 2) (b % 2) (omega arith) (omega arith))

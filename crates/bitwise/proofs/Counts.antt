-- Shifts by a count: the power of two that a shift left makes, and the two ways of a count's sign.
-- Assumes nothing.
use Prim.Native.Nat.{ℕ, ◌+◌, ◌*◌, ◌/◌, ◌%◌, ◌^◌, ◌≤◌, ◌<◌}
use native.Mathlib.Nat.{one-mul}
use native.Mathlib.Omega.{arith}
use mathlib.Core.Path.{◌≡◌, ◌∙◌}
use mathlib.Core.Bool.{true, false}
use lib.Dec.{lit<}
use lib.Pow.{shl_exact, pow_mono, pow_pos}
use lib.IntN.{pos, nat_abs}
use lib.Signed.{lt_z}
use Rattle.words.specs.Value.{shift_count}
use Rattle.bitwise.specs.Shift.{sh_of, sha_of, sha_left, sha_right}

pub one_left : (n : ℕ) → n ≤ 32 → 1 * 2 ^ n % 2 ^ 64 ≡ 2 ^ n
one_left n h = shl_exact {a = 1} 1 n 64 (lit< tt) (omega arith) ∙ one-mul (2 ^ n)

pub one_left_small : (n : ℕ) → n < 32 → 1 * 2 ^ n % 2 ^ 64 < 2 ^ 31 + 1
one_left_small n h = let p : 2 ^ n ≤ 2 ^ 31 = pow_mono {i = n} {j = 31} (omega arith) in rw (one_left n (omega arith)) (omega arith)

pub one_left_pos : (n : ℕ) → n ≤ 32 → 0 < 1 * 2 ^ n % 2 ^ 64
one_left_pos n h = rw (one_left n h) (pow_pos n)

-- the two ways of a count's sign
module _ (a b n : ℕ) (e : n ≡ nat_abs (shift_count b)) where
  pub sh_right : lt_z (shift_count b) (pos 0) ≡ true → a / 2 ^ n ≡ sh_of a b
  unfolding sh_of
  sh_right t = rw (t, e)

  pub sh_left : lt_z (shift_count b) (pos 0) ≡ false → a * 2 ^ n % 2 ^ 32 ≡ sh_of a b
  unfolding sh_of
  sh_left t = rw (t, e)

  pub sha_right_lem : lt_z (shift_count b) (pos 0) ≡ true → sha_right a n ≡ sha_of a b
  unfolding sha_of
  sha_right_lem t = rw (t, e)

  pub sha_left_lem : lt_z (shift_count b) (pos 0) ≡ false → sha_left a n ≡ sha_of a b
  unfolding sha_of
  sha_left_lem t = rw (t, e)

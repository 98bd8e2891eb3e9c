-- What SH and SHA answer (002, 8.1.1.10 and chapter 9). The count is the signed low six bits of the second operand.
use Rattle.std.specs.Prelude.{ℕ, ◌-◌, ◌*◌, ◌/◌, ◌%◌, ◌^◌, pos, nat_abs, ◌*ℤ◌, ltb, cond}
use Rattle.std.specs.Int.Signed.{lt_z, shr_z}
use Rattle.words.specs.Value.{signed, shift_count}
use Rattle.words.specs.Result.{carried_of}
use Rattle.words.specs.declared.result.Carried.{Carried}

-- SH: to the right where the count is below 0, else to the left; the vacated bits are zeros
unfoldable pub sh_of : ℕ → ℕ → ℕ
sh_of a b = cond (lt_z (shift_count b) (pos 0)) (a / 2 ^ nat_abs (shift_count b)) (a * 2 ^ nat_abs (shift_count b) % 0x1_0000_0000)

-- SHA to the left by n: D[a] times 2 ^ n. C: a one was shifted out at the top
unfoldable pub sha_left : ℕ → ℕ → Carried
sha_left a n = carried_of (ltb 0 (a / 2 ^ (32 - n))) (signed a *ℤ pos (2 ^ n))

-- SHA to the right by n: D[a] over 2 ^ n, rounded down, so that the vacated bits are copies of the sign. C: a one was shifted out at the bottom
unfoldable pub sha_right : ℕ → ℕ → Carried
sha_right a n = carried_of (ltb 0 (a % 2 ^ n)) (shr_z (signed a) (2 ^ n))

-- SHA: to the right where the count is below 0, else to the left
unfoldable pub sha_of : ℕ → ℕ → Carried
sha_of a b = cond (lt_z (shift_count b) (pos 0)) (sha_right a (nat_abs (shift_count b))) (sha_left a (nat_abs (shift_count b)))

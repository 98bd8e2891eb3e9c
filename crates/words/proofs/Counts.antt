-- Shift counts: -32 to 31.
-- Assumes nothing.
use Rattle.std.proofs.Common.{◌≡◌, ℕ, suc, ◌-◌, ◌%◌, ◌<◌, ◌≤◌, ℤ, pos, negsuc, ◌-ℤ◌, ⊎_elim, arith, w32, le-ltb, lt-ltb}
use lib.Signed.{mag}
use Rattle.words.specs.Value.{shift_count}
use Rattle.words.proofs.Integers.{lt_or_ge}
use Rattle.words.proofs.Exact.{Exact, back, held}

pub six_bits : (b : ℕ) → b % 64 < 64
six_bits b = omega arith

pub count_low : (b : ℕ) → b % 64 < 32 → shift_count b ≡ pos (b % 64)
unfolding shift_count
count_low b h = rw (lt-ltb (b % 64) 32 h)

pub count_high : (b : ℕ) → 32 ≤ b % 64 → shift_count b ≡ pos (b % 64) -ℤ pos 64
unfolding shift_count
count_high b h = rw (le-ltb (b % 64) 32 h)

below_high : (b : ℕ) → pos (b % 64) -ℤ pos 64 ≡ negsuc (63 - b % 64)
below_high b = let h : b % 64 < 64 = omega arith in let e : 64 - suc (b % 64) ≡ 63 - b % 64 = omega arith in rw (lt-ltb (b % 64) 64 h, e)

count_mag : (b : ℕ) → mag (shift_count b) < 32
count_mag b =
    ⊎_elim
    (λ h. rw (count_low b h) h)
    (λ h. rw (count_high b h, below_high b) (omega arith))
    (lt_or_ge (b % 64) 32)

-- a local that holds a shift count
pub shift : (b : ℕ) {x : ℤ} → x ≡ shift_count b → Exact (back w32 x) (shift_count b) 32
shift b e = held w32 (record { is = e; bound = count_mag b }) tt

-- Words' values.
-- Assumes nothing.
use Rattle.std.proofs.Common.{◌≡◌, ℕ, suc, ◌+◌, ◌-◌, ◌%◌, ◌^◌, ◌<◌, ◌≤◌, Bool, true, false, ℤ, pos, negsuc, ◌+ℤ◌, ◌-ℤ◌, refl, ap, ⊎_elim, arith, lit<, w32, w64, Fits, to_z, le-ltb, lt-ltb}
use lib.Signed.{mag}
use Rattle.words.specs.Bits.{number}
use Rattle.words.specs.Value.{signed}
use Rattle.words.proofs.Integers.{lt_or_ge, mag_add, mag_sub}
use Rattle.words.proofs.Exact.{Exact, back, held}

pub signed_low : (w : ℕ) → w < 2 ^ 31 → signed w ≡ pos w
unfolding signed
signed_low w h = rw (lt-ltb w (2 ^ 31) h)

pub signed_high : (w : ℕ) → 2 ^ 31 ≤ w → signed w ≡ pos w -ℤ pos (2 ^ 32)
unfolding signed
signed_high w h = rw (le-ltb w (2 ^ 31) h)

pub below_high : (w : ℕ) → w < 2 ^ 32 → pos w -ℤ pos (2 ^ 32) ≡ negsuc (2 ^ 32 - suc w)
below_high w h = rw (lt-ltb w (2 ^ 32) h)

-- half a turn up, and down again
turned_low : (w : ℕ) → w < 2 ^ 31 → pos ((w + 2 ^ 31) % 2 ^ 32) -ℤ pos (2 ^ 31) ≡ signed w
turned_low w h =
    let n : 2 ^ 31 ≤ (w + 2 ^ 31) % 2 ^ 32 = omega arith in
    rw (signed_low w h, le-ltb ((w + 2 ^ 31) % 2 ^ 32) (2 ^ 31) n) (ap pos (omega arith))

turned_high : (w : ℕ) → w < 2 ^ 32 → 2 ^ 31 ≤ w → pos ((w + 2 ^ 31) % 2 ^ 32) -ℤ pos (2 ^ 31) ≡ signed w
turned_high w f h =
    let n : (w + 2 ^ 31) % 2 ^ 32 < 2 ^ 31 = omega arith in
    rw (signed_high w h, below_high w f, lt-ltb ((w + 2 ^ 31) % 2 ^ 32) (2 ^ 31) n) (ap negsuc (omega arith))

pub turned : (w : ℕ) → w < 2 ^ 32 → pos ((w + 2 ^ 31) % 2 ^ 32) -ℤ pos (2 ^ 31) ≡ signed w
turned w f = ⊎_elim (turned_low w) (turned_high w f) (lt_or_ge w (2 ^ 31))

pub signed_mag : {w : ℕ} → Fits w32 w → mag (signed w) < 2 ^ 31
signed_mag {w} f =
    ⊎_elim
    (λ h. rw (signed_low w h) h)
    (λ h. rw (signed_high w h, below_high w f.fits) (omega arith))
    (lt_or_ge w (2 ^ 31))

-- a local that holds a word's value
pub word : {w : ℕ} {x : ℤ} → Fits w32 w → x ≡ signed w → Exact (back w64 x) (signed w) (2 ^ 31)
word f e = held w64 (record { is = e; bound = signed_mag f }) tt

-- a flag as a number
pub flag_small : (b : Bool) → number b < 2
flag_small true = lit< tt
flag_small false = lit< tt

pub flag : (b : Bool) → Exact (to_z w64 (number b)) (pos (number b)) 2
flag true = record { is = refl; bound = lit< tt }
flag false = record { is = refl; bound = lit< tt }

-- locals that hold two words' exact sum and difference
pub sum : {a b : ℕ} {x : ℤ} → Fits w32 a → Fits w32 b → x ≡ signed a +ℤ signed b → Exact (back w64 x) (signed a +ℤ signed b) (2 ^ 32)
sum {a} {b} f g e = held w64 (record { is = e; bound = mag_add (signed a) (signed b) (signed_mag f) (signed_mag g) }) tt

pub difference : {a b : ℕ} {x : ℤ} → Fits w32 a → Fits w32 b → x ≡ signed a -ℤ signed b → Exact (back w64 x) (signed a -ℤ signed b) (2 ^ 32 + 1)
difference {a} {b} f g e = held w64 (record { is = e; bound = mag_sub (signed a) (signed b) (signed_mag f) (signed_mag g) }) tt

-- The low 32 bits of an i64, by a mask.
-- Assumes nothing.
use Rattle.std.proofs.Common.{◌≡◌, ◌%◌, ◌^◌, ℤ, pos, negsuc, refl, arith, w64, SFits, to_z, of_z}
use lib.Bits.{bit_and, and_mask}
use mir.Facts.{to_z_pos}
use Rattle.words.specs.Value.{low}

pub masked : (z : ℤ) → to_z w64 (bit_and (of_z w64 z) 0xFFFF_FFFF) ≡ pos (of_z w64 z % 2 ^ 32)
masked z = rw (and_mask (of_z w64 z) 32) (to_z_pos w64 (omega arith))

pub low_masked : {z : ℤ} → SFits w64 z → of_z w64 z % 2 ^ 32 ≡ low z
unfolding low
low_masked {z = pos n} f = refl
low_masked {z = negsuc n} f = let p = f.sfits in omega arith

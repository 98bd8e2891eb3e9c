-- What the code's signed locals are read as: an exact integer, with a bound on it. Each operation has a law, at every width.
-- Assumes nothing.
use Rattle.std.proofs.Common.{◌≡◌, ℕ, suc, ◌+◌, ◌*◌, ◌^◌, ◌<◌, ◌≤◌, Bool, true, false, T, leb, ℤ, pos, negsuc, ◌+ℤ◌, ◌-ℤ◌, ◌*ℤ◌, nat_abs, refl, ap, ◌∙◌, ap₂, suc-le-suc, le_refl, lt_of_lt_of_le, lt_of_le_of_lt, zero-add, arith, leb→le, to_z-of_z, Fits, SFits, to_z, of_z, ltb-true}
use lib.Signed.{mag, non_neg, nat_abs-le, shr_z, mag_shr, lt_z}
use mir.Syntax.{Width}
use mir.Val.{bits, hbits}
use mir.Facts.{to_z_pos}
use Rattle.words.proofs.Integers.{mag_add, mag_sub, mag_mul}

-- x, as the code has it, is z, and z is below m
pub record Exact (x z : ℤ) (m : ℕ) : Type 0 where
  pub is : x ≡ z
  pub bound : mag z < m

-- z as a local of the width w is read back
abbrev pub back : Width → ℤ → ℤ
back w z = to_z w (of_z w z)

pub plus : {x y z u : ℤ} {m n : ℕ} → Exact x z m → Exact y u n → Exact (x +ℤ y) (z +ℤ u) (m + n)
plus {z = z} {u = u} h k = record { is = ap₂ ◌+ℤ◌ h.is k.is; bound = mag_add z u h.bound k.bound }

pub minus : {x y z u : ℤ} {m n : ℕ} → Exact x z m → Exact y u n → Exact (x -ℤ y) (z -ℤ u) (m + suc n)
minus {z = z} {u = u} h k = record { is = ap₂ ◌-ℤ◌ h.is k.is; bound = mag_sub z u h.bound k.bound }

pub times : {x y z u : ℤ} {m n : ℕ} → Exact x z m → Exact y u n → Exact (x *ℤ y) (z *ℤ u) (suc (m * n))
times {z = z} {u = u} {m = m} {n = n} h k =
    let p : mag (z *ℤ u) ≤ m * n = mag_mul z u (nat_abs-le z h.bound) (nat_abs-le u k.bound) in record { is = ap₂ ◌*ℤ◌ h.is k.is; bound = omega arith }

pub right : {x z : ℤ} {m : ℕ} (k : ℕ) → Exact x z m → Exact (shr_z x k) (shr_z z k) m
right {z = z} k h = record { is = ap (λ (y : ℤ). shr_z y k) h.is; bound = lt_of_le_of_lt (mag_shr z k) h.bound }

-- a numeral, and an unsigned number that is cast
pub lit : (z : ℤ) → Exact z z (suc (mag z))
lit z = record { is = refl; bound = le_refl (suc (mag z)) }

module _ (w : Width) where
  pub cast : {n m : ℕ} → n < m → T (leb m (2 ^ hbits w)) → Exact (to_z w n) (pos n) m
  cast {n} {m} h t = record { is = to_z_pos w (lt_of_lt_of_le h (leb→le m (2 ^ hbits w) t)); bound = h }

  module _ {x z : ℤ} {m : ℕ} (h : Exact x z m) (t : T (leb m (2 ^ hbits w))) where
    exact_fits : SFits w z
    exact_fits = record { sfits = lt_of_lt_of_le h.bound (leb→le m (2 ^ hbits w) t) }

    -- what the operation asks, and what the local then holds
    pub need : SFits w x
    need = rw h.is exact_fits

    pub held : Exact (back w x) z m
    held = record { is = ap (back w) h.is ∙ to_z-of_z exact_fits; bound = h.bound }

-- a cast to an unsigned type
pub unsigned : (w : Width) {x : ℤ} {n m : ℕ} → Exact x (pos n) m → T (leb m (2 ^ bits w)) → T (non_neg x) × Fits w (nat_abs x)
unsigned w {m = m} h t = rw h.is (tt, record { fits = lt_of_lt_of_le h.bound (leb→le m (2 ^ bits w) t) })

pub magnitude : {x : ℤ} {n m : ℕ} → Exact x (pos n) m → nat_abs x ≡ n
magnitude h = ap nat_abs h.is

-- a signed test
pub test : {x y z u : ℤ} {m n : ℕ} {t : Bool} → Exact x z m → Exact y u n → lt_z x y ≡ t → lt_z z u ≡ t
test h k e = rw (← h.is, ← k.is) e

-- the two ways of a test for a sign
below : (z : ℤ) {m : ℕ} → lt_z z (pos 0) ≡ true → mag z < m → Exact (pos 0 -ℤ z) (pos (nat_abs z)) (suc m)
below (pos n) e b = let p : n < 0 = ltb-true n 0 e in absurd (omega arith)
below (negsuc n) e b = record { is = ap pos (zero-add (suc n)); bound = omega arith }

above : (z : ℤ) {m : ℕ} → lt_z z (pos 0) ≡ false → mag z < m → Exact z (pos (nat_abs z)) m
above (pos n) e b = record { is = refl; bound = b }
above (negsuc n) e b = let q : ◌≡◌ {A = ℕ} 0 1 = cc in absurd (omega arith)

module _ {x z : ℤ} {m : ℕ} (h : Exact x z m) where
  pub negative : lt_z x (pos 0) ≡ true → Exact (pos 0 -ℤ x) (pos (nat_abs z)) (suc m)
  negative e = let e' : lt_z z (pos 0) ≡ true = rw h.is at e in let k = below z e' h.bound in record { is = rw h.is k.is; bound = k.bound }

  pub positive : lt_z x (pos 0) ≡ false → Exact x (pos (nat_abs z)) m
  positive e = let e' : lt_z z (pos 0) ≡ false = rw h.is at e in let k = above z e' h.bound in record { is = h.is ∙ k.is; bound = k.bound }

-- a number with a bound
pub own : (z : ℤ) {m : ℕ} → mag z < m → Exact z z m
own z h = record { is = refl; bound = h }

pub bounded : {x z : ℤ} {m : ℕ} (n : ℕ) → Exact x z m → T (leb m n) → mag x < n
bounded {m = m} n h t = rw h.is (lt_of_lt_of_le h.bound (leb→le m n t))

-- the distance from 0
pub absolute : {x z r : ℤ} {m : ℕ} → Exact x z m → r ≡ pos (nat_abs x) → Exact r (pos (nat_abs z)) (suc m)
absolute {z = z} h e = record { is = e ∙ ap (λ (y : ℤ). pos (nat_abs y)) h.is; bound = suc-le-suc (nat_abs-le z h.bound) }

pub small : (k : ℕ) {x : ℤ} {n m : ℕ} → Exact x (pos n) m → T (leb m k) → nat_abs x < k
small k {m = m} h t = rw h.is (lt_of_lt_of_le h.bound (leb→le m k t))

-- what a call returned, by its range and its contract
pub returned : (w : Width) {x z : ℤ} → mag x < 2 ^ hbits w → x ≡ z → back w x ≡ z
returned w h e = to_z-of_z {w = w} (record { sfits = h }) ∙ e

-- The counter in CDC.
-- Assumes nothing.
use Prim.Native.Nat.{ℕ, zero, suc, ◌+◌, ◌*◌, ◌/◌, ◌%◌, ◌^◌, ◌≤◌, ◌<◌}
use native.Mathlib.Nat.{pow-suc, mod-lt}
use native.Mathlib.Numerals.{one-add}
use native.Mathlib.Omega.{arith}
use mathlib.Core.Path.{◌≡◌, sym, ◌∙◌}
use mathlib.Core.Bool.{Bool, true, false}
use mathlib.Core.Logic.{⊎_elim}
use lib.Dec.{ltb}
use lib.Pow.{mod-pow-add, pow_pos, pow_mono}
use borrow.Author.Tests.{eq-eqb, ne_eqb, ltb-true, eqb-true}
use Rattle.words.proofs.Integers.{lt_or_ge}
use Rattle.words.proofs.Truth.{both_true}
use Rattle.words.specs.Bits.{bit, number}
use Rattle.fields.specs.Field.{is_set}
use Rattle.fields.specs.Depth.{psw_cdc, counter_bits, counts}

-- a one belongs to the mask
mask : (n cdc : ℕ) → cdc / 2 ^ n % 2 ≡ 1 → counter_bits (suc n) cdc ≡ counter_bits n cdc
unfolding counter_bits is_set bit
mask n cdc h = rw (eq-eqb _ _ h)

-- the first 0 ends it
ends : (n cdc : ℕ) → cdc / 2 ^ n % 2 ≡ 0 → counter_bits (suc n) cdc ≡ n
unfolding counter_bits is_set bit
ends n cdc h = let e : cdc / 2 ^ n % 2 ≡ 1 → ⊥ = omega arith in rw (ne_eqb _ _ e)

-- a digit and what is below it
digit : (n w : ℕ) → w % 2 ^ suc n ≡ w / 2 ^ n % 2 * 2 ^ n + w % 2 ^ n
digit n w = rw (← one-add n) (mod-pow-add w 1 n)

between : {m n : ℕ} → 2 ^ m < 2 * 2 ^ n → 2 ^ n < 2 * 2 ^ m → m ≡ n
between {m} {n} h k =
    ⊎_elim
    (λ l. let p = pow_mono {i = suc m} {j = n} l in let q = pow-suc 2 m in absurd (omega arith))
    (λ l. ⊎_elim
    (λ r. let p = pow_mono {i = suc n} {j = m} r in let q = pow-suc 2 n in absurd (omega arith))
    (λ r. omega arith)
    (lt_or_ge n m))
    (lt_or_ge m n)

-- it is the highest 1 of the complement in k bits
pub highest : (k n cdc : ℕ) → 2 ^ n + cdc % 2 ^ k < 2 ^ k → 2 ^ k ≤ 2 * 2 ^ n + cdc % 2 ^ k → counter_bits k cdc ≡ n
highest zero n cdc h g = let p = pow_pos n in absurd (omega arith)
highest (suc k) n cdc h g =
    let p = pow-suc 2 k in let l = mod-lt cdc (pow_pos k) in
    ⊎_elim
    (λ z. let z' : cdc / 2 ^ k % 2 ≡ 0 = omega arith in let d = rw z' at (digit k cdc) in ends k cdc z' ∙ between {m = k} {n = n} (omega arith) (omega arith))
    (λ o. let o' : cdc / 2 ^ k % 2 ≡ 1 = omega arith in let d = rw o' at (digit k cdc) in mask k cdc o' ∙ highest k n cdc (omega arith) (omega arith))
    (lt_or_ge (cdc / 2 ^ k % 2) 1)

-- what counts is below seven ones
pub below : (psw : ℕ) → counts psw ≡ true → psw % 0x80 < 0x7F
unfolding counts
below psw h = let t = both_true (is_set 7 psw) (ltb (psw_cdc psw) 0x7F) h in let l = ltb-true (psw_cdc psw) 0x7F t.1 in omega arith

-- so that it has room to go up
pub room : (psw : ℕ) (t : Bool) → t ≡ counts psw → psw % 0x80 + number t < 0x80
room psw true e = let h = below psw (sym e) in omega arith
room psw false e = omega arith

-- what counts has CDE 1
pub cde : (psw : ℕ) → counts psw ≡ true → psw / 0x80 % 2 ≡ 1
unfolding counts is_set bit
cde psw h = let t = both_true (is_set 7 psw) (ltb (psw_cdc psw) 0x7F) h in eqb-true (psw / 0x80 % 2) 1 t.0

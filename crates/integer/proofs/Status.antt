-- What an integer operation leaves in PSW: as it was, or with the flags of its result written.
-- Assumes nothing.
use Prim.Native.Nat.{ℕ}
use mathlib.Core.Bool.{Bool}
use Rattle.fields.specs.Psw.{psw_c, flagged_of, overflowed_of}
use Rattle.arithmetic.specs.Arithmetic.{add_of, sub_of, rsub_of, addx_of, addc_of, subx_of, subc_of, adds_of, addsu_of, subs_of, subsu_of, mul_of, abs_of, absdif_of}
use Rattle.bitwise.specs.Shift.{sha_of}
use Rattle.integer.specs.Integer.{compute_of}
use Rattle.integer.specs.declared.Integer.{Integer}
use Rattle.integer.specs.declared.Integer.TheVariants.{Add, Sub, Rsub, Addx, Addc, Subx, Subc, Adds, AddsU, Subs, SubsU, Mul, And, Or, Xor, Nand, Nor, Xnor, Andn, Orn, Sh, Sha, Min, MinU, Max, MaxU, Abs, Absdif, Eq, Ne, Lt, LtU, Ge, GeU, Clz, Clo, Cls, Mov}

-- what holds of PSW, and of PSW with any flags, holds of it after each operation
module _ (P : ℕ → Type 0) (psw : ℕ) (same : P psw) (overflowed : (v av : Bool) → P (overflowed_of psw v av)) (flagged : (c v av : Bool) → P (flagged_of psw c v av)) where
  pub psw_of : (op : Integer) (a b : ℕ) → P (compute_of op a b psw).psw
  unfolding compute_of
  psw_of Add a b = overflowed (add_of a b).v (add_of a b).av
  psw_of Sub a b = overflowed (sub_of a b).v (sub_of a b).av
  psw_of Rsub a b = overflowed (rsub_of a b).v (rsub_of a b).av
  psw_of Addx a b = flagged (addx_of a b).c (addx_of a b).v (addx_of a b).av
  psw_of Addc a b = flagged (addc_of a b (psw_c psw)).c (addc_of a b (psw_c psw)).v (addc_of a b (psw_c psw)).av
  psw_of Subx a b = flagged (subx_of a b).c (subx_of a b).v (subx_of a b).av
  psw_of Subc a b = flagged (subc_of a b (psw_c psw)).c (subc_of a b (psw_c psw)).v (subc_of a b (psw_c psw)).av
  psw_of Adds a b = overflowed (adds_of a b).v (adds_of a b).av
  psw_of AddsU a b = overflowed (addsu_of a b).v (addsu_of a b).av
  psw_of Subs a b = overflowed (subs_of a b).v (subs_of a b).av
  psw_of SubsU a b = overflowed (subsu_of a b).v (subsu_of a b).av
  psw_of Mul a b = overflowed (mul_of a b).v (mul_of a b).av
  psw_of And a b = same
  psw_of Or a b = same
  psw_of Xor a b = same
  psw_of Nand a b = same
  psw_of Nor a b = same
  psw_of Xnor a b = same
  psw_of Andn a b = same
  psw_of Orn a b = same
  psw_of Sh a b = same
  psw_of Sha a b = flagged (sha_of a b).c (sha_of a b).v (sha_of a b).av
  psw_of Min a b = same
  psw_of MinU a b = same
  psw_of Max a b = same
  psw_of MaxU a b = same
  psw_of Abs a b = overflowed (abs_of a).v (abs_of a).av
  psw_of Absdif a b = overflowed (absdif_of a b).v (absdif_of a b).av
  psw_of Eq a b = same
  psw_of Ne a b = same
  psw_of Lt a b = same
  psw_of LtU a b = same
  psw_of Ge a b = same
  psw_of GeU a b = same
  psw_of Clz a b = same
  psw_of Clo a b = same
  psw_of Cls a b = same
  psw_of Mov a b = same

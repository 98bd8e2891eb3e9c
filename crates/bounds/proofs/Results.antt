-- The integer operations answer words.
-- Assumes nothing.
use Prim.Native.Nat.{ℕ, zero, suc, ◌+◌, ◌-◌, ◌*◌, ◌/◌, ◌%◌, ◌^◌, ◌≤◌, ◌<◌}
use native.Mathlib.Nat.{lt_of_le_of_lt}
use native.Mathlib.Omega.{arith}
use mathlib.Core.Bool.{Bool, true, false, not, cond}
use lib.Bits.{bit_and, bit_or, bit_xor}
use lib.Dec.{eqb, leb, ltb}
use lib.IntN.{pos, nat_abs, ◌+ℤ◌, ◌-ℤ◌, ◌*ℤ◌}
use lib.Pow.{shr_le}
use lib.Signed.{lt_z, shr_z}
use Rattle.words.specs.Bits.{number, complement, bit}
use Rattle.words.specs.Value.{signed, shift_count, least, largest, largest_unsigned}
use Rattle.fields.specs.Psw.{psw_c}
use Rattle.arithmetic.specs.Arithmetic.{add_of, sub_of, rsub_of, addx_of, addc_of, subx_of, subc_of, adds_of, addsu_of, subs_of, subsu_of, mul_of, abs_of, absdif_of}
use Rattle.bitwise.specs.Shift.{sh_of, sha_of, sha_left, sha_right}
use Rattle.bitwise.specs.Leading.{run, clz_of, clo_of, cls_of}
use Rattle.compare.specs.Compare.{equals, less_signed, less_unsigned}
use Rattle.integer.specs.Integer.{compute_of}
use Rattle.integer.specs.declared.Integer.{Integer}
use Rattle.integer.specs.declared.Integer.TheVariants.{Add, Sub, Rsub, Addx, Addc, Subx, Subc, Adds, AddsU, Subs, SubsU, Mul, And, Or, Xor, Nand, Nor, Xnor, Andn, Orn, Sh, Sha, Min, MinU, Max, MaxU, Abs, Absdif, Eq, Ne, Lt, LtU, Ge, GeU, Clz, Clo, Cls, Mov}
use Rattle.integer.proofs.Status.{psw_of}
use Rattle.bounds.proofs.Words.{wrapped_word, carried_word, saturated_word, number_word, complement_word, cond_word}
use Rattle.bounds.proofs.Fields.{flagged_psw, overflowed_psw, and_word, or_word, xor_word}

-- a run is no longer than the bits that it is looked for in
run_next : (t : Bool) (i n : ℕ) → n ≤ i → cond t (suc n) zero ≤ suc i
run_next true i n h = omega arith
run_next false i n h = omega arith

pub run_le : (i b w : ℕ) → run i b w ≤ i
unfolding run
run_le zero b w = omega arith
run_le (suc i) b w = run_next (eqb (bit i w) b) i (run i b w) (run_le i b w)

pub clz_le : (a : ℕ) → clz_of a ≤ 32
unfolding clz_of
clz_le a = run_le 32 0 a

pub clo_le : (a : ℕ) → clo_of a ≤ 32
unfolding clo_of
clo_le a = run_le 32 1 a

pub cls_le : (a : ℕ) → cls_of a ≤ 31
unfolding cls_of
cls_le a = run_le 31 (bit 31 a) a

-- shifts
pub sh_word : (a b : ℕ) → a < 2 ^ 32 → sh_of a b < 2 ^ 32
unfolding sh_of
sh_word a b h =
    cond_word (lt_z (shift_count b) (pos 0)) (a / 2 ^ nat_abs (shift_count b)) (a * 2 ^ nat_abs (shift_count b) % 2 ^ 32) (lt_of_le_of_lt (shr_le a (nat_abs (shift_count b))) h) (omega arith)

sha_either : (t : Bool) (a n : ℕ) → (cond t (sha_right a n) (sha_left a n)).word < 2 ^ 32
unfolding sha_right sha_left
sha_either true a n = carried_word (ltb 0 (a % 2 ^ n)) (shr_z (signed a) (2 ^ n))
sha_either false a n = carried_word (ltb 0 (a / 2 ^ (32 - n))) (signed a *ℤ pos (2 ^ n))

pub sha_word : (a b : ℕ) → (sha_of a b).word < 2 ^ 32
unfolding sha_of
sha_word a b = sha_either (lt_z (shift_count b) (pos 0)) a (nat_abs (shift_count b))

pub compute_word : (op : Integer) (a b psw : ℕ) → a < 2 ^ 32 → b < 2 ^ 32 → (compute_of op a b psw).word < 2 ^ 32
unfolding compute_of add_of sub_of rsub_of addx_of addc_of subx_of subc_of adds_of addsu_of subs_of subsu_of mul_of abs_of absdif_of
compute_word Add a b psw h k = wrapped_word (signed a +ℤ signed b)
compute_word Sub a b psw h k = wrapped_word (signed a -ℤ signed b)
compute_word Rsub a b psw h k = wrapped_word (signed b -ℤ signed a)
compute_word Addx a b psw h k = carried_word (leb 0x1_0000_0000 (a + b)) (signed a +ℤ signed b)
compute_word Addc a b psw h k = carried_word (leb 0x1_0000_0000 (a + b + number (psw_c psw))) (signed a +ℤ signed b +ℤ pos (number (psw_c psw)))
compute_word Subx a b psw h k = carried_word (leb b a) (signed a -ℤ signed b)
compute_word Subc a b psw h k = carried_word (leb (b + 1) (a + number (psw_c psw))) (signed a -ℤ signed b -ℤ pos 1 +ℤ pos (number (psw_c psw)))
compute_word Adds a b psw h k = saturated_word least largest (signed a +ℤ signed b)
compute_word AddsU a b psw h k = saturated_word (pos 0) largest_unsigned (pos a +ℤ pos b)
compute_word Subs a b psw h k = saturated_word least largest (signed a -ℤ signed b)
compute_word SubsU a b psw h k = saturated_word (pos 0) largest_unsigned (pos a -ℤ pos b)
compute_word Mul a b psw h k = wrapped_word (signed a *ℤ signed b)
compute_word And a b psw h k = and_word a b h k
compute_word Or a b psw h k = or_word a b h k
compute_word Xor a b psw h k = xor_word a b h k
compute_word Nand a b psw h k = complement_word (bit_and a b)
compute_word Nor a b psw h k = complement_word (bit_or a b)
compute_word Xnor a b psw h k = complement_word (bit_xor a b)
compute_word Andn a b psw h k = and_word a (complement b) h (complement_word b)
compute_word Orn a b psw h k = or_word a (complement b) h (complement_word b)
compute_word Sh a b psw h k = sh_word a b h
compute_word Sha a b psw h k = sha_word a b
compute_word Min a b psw h k = cond_word (less_signed a b) a b h k
compute_word MinU a b psw h k = cond_word (less_unsigned a b) a b h k
compute_word Max a b psw h k = cond_word (less_signed b a) a b h k
compute_word MaxU a b psw h k = cond_word (less_unsigned b a) a b h k
compute_word Abs a b psw h k = wrapped_word (pos (nat_abs (signed a)))
compute_word Absdif a b psw h k = wrapped_word (pos (nat_abs (signed a -ℤ signed b)))
compute_word Eq a b psw h k = number_word (equals a b)
compute_word Ne a b psw h k = number_word (not (equals a b))
compute_word Lt a b psw h k = number_word (less_signed a b)
compute_word LtU a b psw h k = number_word (less_unsigned a b)
compute_word Ge a b psw h k = number_word (not (less_signed a b))
compute_word GeU a b psw h k = number_word (not (less_unsigned a b))
compute_word Clz a b psw h k = omega (arith, clz_le a)
compute_word Clo a b psw h k = omega (arith, clo_le a)
compute_word Cls a b psw h k = omega (arith, cls_le a)
compute_word Mov a b psw h k = k

pub compute_psw : (op : Integer) (a b psw : ℕ) → psw < 2 ^ 32 → (compute_of op a b psw).psw < 2 ^ 32
compute_psw op a b psw h = psw_of (λ (p : ℕ). p < 2 ^ 32) psw h (overflowed_psw psw) (flagged_psw psw) op a b

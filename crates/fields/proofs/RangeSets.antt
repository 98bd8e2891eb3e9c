-- What leaves PSW's IO and PRS as they are: the status flags, and a call.
-- Assumes nothing.
use Prim.Native.Nat.{ℕ, ◌+◌, ◌*◌, ◌/◌, ◌%◌, ◌^◌, ◌<◌}
use native.Mathlib.Omega.{arith}
use mathlib.Core.Path.{◌≡◌, refl}
use mathlib.Core.Bool.{Bool, true, false, cond}
use Rattle.words.specs.Bits.{number}
use Rattle.fields.specs.Field.{field}
use Rattle.fields.specs.Psw.{psw_prs, psw_io, status_of, flagged_of, overflowed_of, reset_of}
use Rattle.fields.specs.Depth.{psw_cdc, counts, called_of}
use Rattle.fields.proofs.Counters.{below}

-- both at once: bits 13:10
abbrev pub level : ℕ → ℕ
level psw = field 10 4 psw

pub level_io : (p q : ℕ) → level p ≡ level q → psw_io p ≡ psw_io q
level_io p q e = omega arith

pub level_prs : (p q : ℕ) → level p ≡ level q → psw_prs p ≡ psw_prs q
level_prs p q e = omega arith

-- the bits from 10 on of a word whose bits below 27 are those of another
high : (a b : ℕ) → (a * 2 ^ 27 + b % 2 ^ 27) / 2 ^ 10 % 2 ^ 4 ≡ b / 2 ^ 10 % 2 ^ 4
high a b = omega arith

level_status : (psw : ℕ) (c v sv av sav : Bool) → level (status_of psw c v sv av sav) ≡ level psw
unfolding status_of
level_status psw c v sv av sav =
    let n = number c * 16 + number v * 8 + number sv * 4 + number av * 2 + number sav in
    let e : number c * 2 ^ 31 + number v * 2 ^ 30 + number sv * 2 ^ 29 + number av * 2 ^ 28 + number sav * 2 ^ 27 + psw % 2 ^ 27 ≡ n * 2 ^ 27 + psw % 2 ^ 27 = omega arith in
    rw e (high n psw)

pub level_flagged : (psw : ℕ) (c v av : Bool) → level (flagged_of psw c v av) ≡ level psw
unfolding flagged_of
level_flagged psw c v av = level_status psw _ _ _ _ _

pub level_overflowed : (psw : ℕ) (v av : Bool) → level (overflowed_of psw v av) ≡ level psw
unfolding overflowed_of
level_overflowed psw v av = level_flagged psw _ _ _

pub level_reset : (psw : ℕ) → level (reset_of psw) ≡ level psw
unfolding reset_of
level_reset psw = level_status psw _ _ _ _ _

-- the bits from 8 on
upper : (a b : ℕ) → b < 2 ^ 8 → (a / 2 ^ 8 * 2 ^ 8 + b) / 2 ^ 10 % 2 ^ 4 ≡ a / 2 ^ 10 % 2 ^ 4
upper a b h = omega arith

pub level_called : (psw : ℕ) → level (called_of psw) ≡ level psw
unfolding called_of
level_called psw = by (counts psw) refl
  where
    by : (t : Bool) → counts psw ≡ t → level (psw / 2 ^ 8 * 2 ^ 8 + 2 ^ 7 + (psw_cdc psw + cond t 1 0)) ≡ level psw
    by true e =
        let l = below psw e in
        let s : psw / 2 ^ 8 * 2 ^ 8 + 2 ^ 7 + (psw % 2 ^ 7 + 1) ≡ psw / 2 ^ 8 * 2 ^ 8 + (2 ^ 7 + psw % 2 ^ 7 + 1) = omega arith in
        rw s (upper psw (2 ^ 7 + psw % 2 ^ 7 + 1) (omega arith))
    by false e =
        let s : psw / 2 ^ 8 * 2 ^ 8 + 2 ^ 7 + (psw % 2 ^ 7 + 0) ≡ psw / 2 ^ 8 * 2 ^ 8 + (2 ^ 7 + psw % 2 ^ 7) = omega arith in
        rw s (upper psw (2 ^ 7 + psw % 2 ^ 7) (omega arith))

-- PRS by itself
pub prs_flagged : (psw : ℕ) (c v av : Bool) → psw_prs (flagged_of psw c v av) ≡ psw_prs psw
prs_flagged psw c v av = level_prs _ _ (level_flagged psw c v av)

pub prs_overflowed : (psw : ℕ) (v av : Bool) → psw_prs (overflowed_of psw v av) ≡ psw_prs psw
prs_overflowed psw v av = level_prs _ _ (level_overflowed psw v av)

pub prs_reset : (psw : ℕ) → psw_prs (reset_of psw) ≡ psw_prs psw
prs_reset psw = level_prs _ _ (level_reset psw)

pub prs_called : (psw : ℕ) → psw_prs (called_of psw) ≡ psw_prs psw
prs_called psw = level_prs _ _ (level_called psw)

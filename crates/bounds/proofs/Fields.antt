-- Core registers whose fields are written are words, and PCXI's fields read back.
-- Assumes nothing.
use Prim.Native.Nat.{ℕ, ◌+◌, ◌*◌, ◌/◌, ◌%◌, ◌^◌, ◌≤◌, ◌<◌}
use native.Mathlib.Omega.{arith}
use mathlib.Core.Path.{◌≡◌, refl, ap}
use mathlib.Core.Bool.{Bool, true, false, cond, ◌||◌}
use lib.Bits.{bit_and, bit_or, bit_xor, and_lt, or_lt, xor_lt}
use lib.Dec.{eqb}
use Rattle.words.specs.Bits.{number, bit}
use Rattle.fields.specs.Field.{is_set}
use Rattle.fields.specs.Psw.{psw_c, psw_sv, psw_sav, status_of, flagged_of, overflowed_of, reset_of}
use Rattle.fields.specs.Depth.{counts, called_of}
use Rattle.fields.specs.Icr.{icr_ie, icr_of}
use Rattle.fields.specs.Link.{link_of}
use Rattle.fields.specs.Pcxi.{pcxi_ul, pcxi_of}
use Rattle.fields.proofs.Flags.{number_le}
use Rattle.fields.proofs.Counters.{below}

pub status_word : (psw : ℕ) (c v sv av sav : Bool) → status_of psw c v sv av sav < 2 ^ 32
unfolding status_of
status_word psw c v sv av sav = omega (arith, number_le c, number_le v, number_le sv, number_le av, number_le sav)

pub flagged_psw : (psw : ℕ) (c v av : Bool) → flagged_of psw c v av < 2 ^ 32
unfolding flagged_of
flagged_psw psw c v av = status_word psw c v (v || psw_sv psw) av (av || psw_sav psw)

pub overflowed_psw : (psw : ℕ) (v av : Bool) → overflowed_of psw v av < 2 ^ 32
unfolding overflowed_of
overflowed_psw psw v av = flagged_psw psw (psw_c psw) v av

pub reset_psw : (psw : ℕ) → reset_of psw < 2 ^ 32
unfolding reset_of
reset_psw psw = status_word psw (psw_c psw) false false false false

-- CDC stays in its seven bits
depth : (psw : ℕ) (t : Bool) → counts psw ≡ t → psw % 2 ^ 7 + cond t 1 0 < 2 ^ 7
depth psw true e = let h = below psw e in omega arith
depth psw false e = omega arith

pub called_psw : (psw : ℕ) → psw < 2 ^ 32 → called_of psw < 2 ^ 32
unfolding called_of
called_psw psw h = let d = depth psw (counts psw) refl in omega arith

pub icr_word : (icr : ℕ) (ie : Bool) (ccpn : ℕ) → icr < 2 ^ 32 → icr_of icr ie ccpn < 2 ^ 32
unfolding icr_of
icr_word icr ie ccpn h = omega (arith, number_le ie)

pub pcxi_word : (icr : ℕ) (ul : Bool) (fcx : ℕ) → pcxi_of icr ul (link_of fcx) < 2 ^ 32
unfolding pcxi_of
pcxi_word icr ul fcx = omega (arith, number_le (icr_ie icr), number_le ul)

pub pcxi_link : (icr : ℕ) (ul : Bool) (fcx : ℕ) → link_of (pcxi_of icr ul (link_of fcx)) ≡ link_of fcx
unfolding pcxi_of
pcxi_link icr ul fcx = let e : pcxi_of icr ul (link_of fcx) % 2 ^ 20 ≡ fcx % 2 ^ 20 = omega arith in ap (λ (x : ℕ). record { 0 = x }) e

-- bit 22, over a link and under PIE and PCPN
ul_bit : (p i u l : ℕ) → u ≤ 1 → l < 2 ^ 20 → (p * 2 ^ 24 + i * 2 ^ 23 + u * 2 ^ 22 + l) / 2 ^ 22 % 2 ≡ u
ul_bit p i u l h k = omega arith

-- a truth value as a bit, tested
tested : (b : Bool) → eqb (number b) 1 ≡ b
tested true = refl
tested false = refl

pub pcxi_ul_lem : (icr : ℕ) (ul : Bool) (fcx : ℕ) → pcxi_ul (pcxi_of icr ul (link_of fcx)) ≡ ul
unfolding pcxi_of is_set bit
pcxi_ul_lem icr ul fcx = rw (ul_bit (icr % 2 ^ 8) (number (icr_ie icr)) (number ul) (fcx % 2 ^ 20) (number_le ul) (omega arith)) (tested ul)

pub and_word : (x y : ℕ) → x < 2 ^ 32 → y < 2 ^ 32 → bit_and x y < 2 ^ 32
and_word x y h k = and_lt 32 x y h k

pub or_word : (x y : ℕ) → x < 2 ^ 32 → y < 2 ^ 32 → bit_or x y < 2 ^ 32
or_word x y h k = or_lt 32 x y h k

pub xor_word : (x y : ℕ) → x < 2 ^ 32 → y < 2 ^ 32 → bit_xor x y < 2 ^ 32
xor_word x y h k = xor_lt 32 x y h k

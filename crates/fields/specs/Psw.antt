-- PSW, the Program Status Word (002, 3.3.2 and Table 8): C 31, V 30, SV 29, AV 28, SAV 27, PRS 13:12, IO 11:10, IS 9, GW 8.
use Rattle.std.specs.Prelude.{ℕ, ◌+◌, ◌*◌, ◌%◌, ◌^◌, eqb, leb, Bool, false, ◌||◌}
use Rattle.words.specs.Bits.{number}
use Rattle.fields.specs.Field.{is_set, field}

abbrev pub psw_c : ℕ → Bool
psw_c psw = is_set 31 psw

abbrev pub psw_v : ℕ → Bool
psw_v psw = is_set 30 psw

abbrev pub psw_sv : ℕ → Bool
psw_sv psw = is_set 29 psw

abbrev pub psw_sav : ℕ → Bool
psw_sav psw = is_set 27 psw

-- the protection register set
abbrev pub psw_prs : ℕ → ℕ
psw_prs psw = field 12 2 psw

-- the I/O privilege level: 0 User-0, 1 User-1, 2 and 3 Supervisor
abbrev pub psw_io : ℕ → ℕ
psw_io psw = field 10 2 psw

abbrev pub is_user0 : ℕ → Bool
is_user0 psw = eqb (psw_io psw) 0

abbrev pub is_supervisor : ℕ → Bool
is_supervisor psw = leb 2 (psw_io psw)

-- the interrupt stack is in use
abbrev pub psw_is : ℕ → Bool
psw_is psw = is_set 9 psw

-- the global address registers may be written
abbrev pub psw_gw : ℕ → Bool
psw_gw psw = is_set 8 psw

-- the five status flags, each at its bit, over the 27 bits below
unfoldable pub status_of : ℕ → Bool → Bool → Bool → Bool → Bool → ℕ
status_of psw c v sv av sav =
    number c * 2 ^ 31 + number v * 2 ^ 30 + number sv * 2 ^ 29 + number av * 2 ^ 28 + number sav * 2 ^ 27 + psw % 2 ^ 27

-- a result's C, V and AV are written. SV is set where V is, SAV where AV is, and each stays set
unfoldable pub flagged_of : ℕ → Bool → Bool → Bool → ℕ
flagged_of psw c v av = status_of psw c v (v || psw_sv psw) av (av || psw_sav psw)

-- the same of a result without a carry: C stays
unfoldable pub overflowed_of : ℕ → Bool → Bool → ℕ
overflowed_of psw v av = flagged_of psw (psw_c psw) v av

-- RSTV: PSW.{V, SV, AV, SAV} = {0, 0, 0, 0}
unfoldable pub reset_of : ℕ → ℕ
reset_of psw = status_of psw (psw_c psw) false false false false

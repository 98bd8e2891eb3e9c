-- The registers of the core by their names (002, Table 2), and the registers with one of them written.
use Rattle.std.specs.Prelude.{ℕ, ◌+◌, ◌-◌, ◌*◌, ◌/◌, ◌%◌, ◌^◌, Bool, cond, not, ◌&&◌, ◌||◌, List, ◌==◌, slice_index, slice_set}
use Rattle.fields.specs.Psw.{psw_gw}
use Rattle.registers.specs.Core.{PC, PSW, PCXI, FCX, LCX, ICR, ISP, BIV, BTV, SYSCON}
use Rattle.registers.specs.declared.Registers.{Registers}

abbrev pub registers : List ℕ → List ℕ → List ℕ → Registers
registers d a core = record { d = d; a = a; core = core }

-- D0 to D15
abbrev pub D : Registers → ℕ → ℕ
D r n = slice_index r.d n

-- A0 to A15
abbrev pub A : Registers → ℕ → ℕ
A r n = slice_index r.a n

-- the core register at a place
abbrev pub core : Registers → ℕ → ℕ
core r n = slice_index r.core n

abbrev pub pc : Registers → ℕ
pc r = core r PC

abbrev pub psw : Registers → ℕ
psw r = core r PSW

abbrev pub pcxi : Registers → ℕ
pcxi r = core r PCXI

abbrev pub fcx : Registers → ℕ
fcx r = core r FCX

abbrev pub lcx : Registers → ℕ
lcx r = core r LCX

abbrev pub icr : Registers → ℕ
icr r = core r ICR

abbrev pub isp : Registers → ℕ
isp r = core r ISP

abbrev pub biv : Registers → ℕ
biv r = core r BIV

abbrev pub btv : Registers → ℕ
btv r = core r BTV

abbrev pub syscon : Registers → ℕ
syscon r = core r SYSCON

-- one register written
abbrev pub with_d : ℕ → ℕ → Registers → Registers
with_d n v r = registers (slice_set r.d n v) r.a r.core

abbrev pub with_a : ℕ → ℕ → Registers → Registers
with_a n v r = registers r.d (slice_set r.a n v) r.core

abbrev pub with_core : ℕ → ℕ → Registers → Registers
with_core n v r = registers r.d r.a (slice_set r.core n v)

-- all core registers written
abbrev pub with_cores : List ℕ → Registers → Registers
with_cores core r = registers r.d r.a core

abbrev pub with_pc : ℕ → Registers → Registers
with_pc v r = with_core PC v r

abbrev pub with_psw : ℕ → Registers → Registers
with_psw v r = with_core PSW v r

abbrev pub with_pcxi : ℕ → Registers → Registers
with_pcxi v r = with_core PCXI v r

abbrev pub with_fcx : ℕ → Registers → Registers
with_fcx v r = with_core FCX v r

abbrev pub with_icr : ℕ → Registers → Registers
with_icr v r = with_core ICR v r

-- the second operand: register b of D or A, or the immediate where b is 16
unfoldable pub second_of : List ℕ → ℕ → ℕ → ℕ
second_of xs b imm = cond (b == 16) imm (slice_index xs b)

-- addresses add and subtract modulo 2^32
unfoldable pub plus_of : ℕ → ℕ → ℕ
plus_of x y = (x + y) % 2 ^ 32

unfoldable pub minus_of : ℕ → ℕ → ℕ
minus_of x y = (x + (2 ^ 32 - y)) % 2 ^ 32

-- bit 0 of a new PC is cleared
abbrev pub new_pc : ℕ → ℕ
new_pc pc = pc / 2 * 2

-- the global address registers: A0, A1, A8, A9
unfoldable pub is_global : ℕ → Bool
is_global n = n == 0 || n == 1 || n == 8 || n == 9

-- writing address register n traps: it is global, with GW 0
unfoldable pub guards : ℕ → ℕ → Bool
guards p n = is_global n && not (psw_gw p)

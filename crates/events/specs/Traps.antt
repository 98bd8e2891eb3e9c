-- The traps, class/TIN, in document 01's order. The names are those of 002, Table 7; document 01 has its own traps in class 4.
use Rattle.std.specs.Prelude.{ℕ, ◌%◌, ◌^◌, List, [], ◌∷◌}
use Rattle.events.specs.declared.trap.Trap.{Trap}

abbrev pub trap : ℕ → ℕ → Trap
trap class tin = record { class = class; tin = tin }

-- privilege: MTCR and BISR need Supervisor, ENABLE and DISABLE not User-0
abbrev pub PRIV : Trap
PRIV = trap 1 1

-- read, write, fetch in no permitting range
abbrev pub MPR : Trap
MPR = trap 1 2

abbrev pub MPW : Trap
MPW = trap 1 3

abbrev pub MPX : Trap
MPX = trap 1 4

-- segment E or F from User-0
abbrev pub MPP : Trap
MPP = trap 1 5

-- writing A0, A1, A8 or A9 with GW 0
abbrev pub GRWP : Trap
GRWP = trap 1 7

-- alignment
abbrev pub ALN : Trap
ALN = trap 2 4

-- the free context list is depleted: a save took the area that LCX names
abbrev pub FCD : Trap
FCD = trap 3 1

-- CDC up, CDC down
abbrev pub CDO : Trap
CDO = trap 3 2

abbrev pub CDU : Trap
CDU = trap 3 3

-- link 0 on a return
abbrev pub CSU : Trap
CSU = trap 3 5

-- wrong UL
abbrev pub CTYP : Trap
CTYP = trap 3 6

-- RFE with CDE 1 and a count above 0
abbrev pub NEST : Trap
NEST = trap 3 7

-- no record beginning at PC
abbrev pub CODE : Trap
CODE = trap 4 1

-- data not wholly in one window
abbrev pub DATA : Trap
DATA = trap 4 2

-- TRAPV if V is 1, TRAPSV if SV is 1
abbrev pub OVF : Trap
OVF = trap 5 1

abbrev pub SOVF : Trap
SOVF = trap 5 2

-- SYSCALL: the immediate's low 8 bits
abbrev pub SYS : ℕ → Trap
SYS imm = trap 6 (imm % 2 ^ 8)

-- all but SYS, in that order
abbrev pub traps : List Trap
traps = PRIV ∷ MPR ∷ MPW ∷ MPX ∷ MPP ∷ GRWP ∷ ALN ∷ FCD ∷ CDO ∷ CDU ∷ CSU ∷ CTYP ∷ NEST ∷ CODE ∷ DATA ∷ OVF ∷ SOVF ∷ []

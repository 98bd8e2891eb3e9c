-- The core registers by their offsets. 002's Table 2 lists the registers, and the edition at hand prints no offsets: these are the ones that the later public editions give, and that compilers use.
use Rattle.std.specs.Prelude.{ℕ, ◌<◌, cond, List, [], ◌∷◌, get_or, set, eqb, Option, Some, None}
use Rattle.registers.specs.Core.{CORE, PC, PSW, PCXI, FCX, LCX, ICR, ISP, BIV, BTV, SYSCON}
use Rattle.system.specs.declared.core_registers.Named.{Named}
use Rattle.system.specs.declared.core_registers.Named.TheVariants.{Pc, Register}

-- offset, and what it names; a core register by its place (registers/specs/Core.antt)
pub record Row : Type 0 where
  pub offset : ℕ
  pub named : Named

abbrev pub at : ℕ → Named → Row
at o n = record { offset = o; named = n }

abbrev pub offsets : List Row
offsets =
    at 0xFE00 (Register PCXI)
    ∷ at 0xFE04 (Register PSW)
    ∷ at 0xFE08 Pc
    ∷ at 0xFE14 (Register SYSCON)
    ∷ at 0xFE20 (Register BIV)
    ∷ at 0xFE24 (Register BTV)
    ∷ at 0xFE28 (Register ISP)
    ∷ at 0xFE2C (Register ICR)
    ∷ at 0xFE38 (Register FCX)
    ∷ at 0xFE3C (Register LCX)
    ∷ []

abbrev pub lookup : List Row → ℕ → Option Named
lookup [] offset = None
lookup (row ∷ rows) offset = cond (eqb offset row.offset) (Some row.named) (lookup rows offset)

unfoldable pub named_of : ℕ → Option Named
named_of offset = lookup offsets offset

-- an index is one of the ten
abbrev pub Known : Option Named → Type 0
Known (Some Pc) = Unit {0}
Known (Some (Register k)) = k < CORE
Known None = Unit {0}

abbrev pub read_by : List ℕ → Option Named → ℕ
read_by core (Some Pc) = get_or core PC 0
read_by core (Some (Register k)) = get_or core k 0
read_by core None = 0

-- MFCR: the register at the offset; the rest read 0
unfoldable pub core_at : List ℕ → ℕ → ℕ
core_at core offset = read_by core (named_of offset)

abbrev pub written_by : List ℕ → ℕ → Option Named → List ℕ
written_by core value (Some Pc) = core
written_by core value (Some (Register k)) = set core k value
written_by core value None = core

-- MTCR: the register at the offset is written; writes to PC and to the rest do nothing
unfoldable pub written_of : List ℕ → ℕ → ℕ → List ℕ
written_of core offset value = written_by core value (named_of offset)

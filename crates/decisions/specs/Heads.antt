-- The heads of the lists are FCX and PCXI. An MTCR to one of them that doesn't trap writes it directly.
use Rattle.std.specs.Prelude.{ℕ, List, eqb, Bool, false, ◌&&◌, ◌||◌, Option, Some, None}
use Rattle.fields.specs.Psw.{is_supervisor}
use Rattle.registers.specs.Core.{PCXI, FCX}
use Rattle.registers.specs.Registers.{psw}
use Rattle.registers.specs.declared.Registers.{Registers}
use Rattle.operations.specs.declared.Operation.{Operation}
use Rattle.operations.specs.declared.Operation.TheVariants.{Nop, Integer, Move, Load, Store, Jump, Context, System}
use Rattle.operations.specs.declared.System.TheVariants.{Enable, Disable, Mfcr, Mtcr, Trapv, Trapsv, Rstv}
use Rattle.image.specs.declared.fetch.Instruction.{Instruction}
use Rattle.protection.specs.declared.range.Range.{Range}
use Rattle.system.specs.CoreRegisters.{named_of}
use Rattle.system.specs.declared.core_registers.Named.{Named}
use Rattle.system.specs.declared.core_registers.Named.TheVariants.{Pc, Register}
use Rattle.decisions.specs.Beginning.{Beginning, Interrupts, Traps, Executes, beginning_of}

abbrev pub is_head : Option Named → Bool
is_head (Some Pc) = false
is_head (Some (Register k)) = eqb k PCXI || eqb k FCX
is_head None = false

-- the instruction writes a head directly
abbrev pub writes_head : Operation → Instruction → Registers → Bool
writes_head Nop i r = false
writes_head (Integer op) i r = false
writes_head (Move op) i r = false
writes_head (Load op) i r = false
writes_head (Store op) i r = false
writes_head (Jump op) i r = false
writes_head (Context op) i r = false
writes_head (System Enable) i r = false
writes_head (System Disable) i r = false
writes_head (System Mfcr) i r = false
writes_head (System Mtcr) i r = is_supervisor (psw r) && is_head (named_of i.imm)
writes_head (System Trapv) i r = false
writes_head (System Trapsv) i r = false
writes_head (System Rstv) i r = false

abbrev pub heads_written : Registers → Beginning → Bool
heads_written r (Interrupts b) = false
heads_written r (Traps t) = false
heads_written r (Executes i) = writes_head i.op i r

-- the step writes a head directly
unfoldable pub step_heads : List ℕ → Registers → List ℕ → List Range → Bool
step_heads img r xs rs = heads_written r (beginning_of img r.core xs rs)

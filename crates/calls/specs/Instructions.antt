-- CALL to SYSCALL.
use Rattle.operations.specs.declared.Context.{Context}
use Rattle.operations.specs.declared.Context.TheVariants.{Call, Calli, Ret, Rfe, Svlcx, Rslcx, Bisr, Syscall}
use Rattle.image.specs.declared.fetch.Instruction.{Instruction}
use Rattle.registers.specs.Registers.{A, pc, plus_of}
use Rattle.registers.specs.declared.Registers.{Registers}
use Rattle.events.specs.Traps.{SYS}
use Rattle.acts.specs.Acts.{Act, Ends, TrapsAfter}
use Rattle.calls.specs.Saves.{call_of, svlcx_of, bisr_of}
use Rattle.calls.specs.Returns.{ret_of, rfe_of, rslcx_of}

unfoldable pub context_op : Context → Instruction → Registers → Act
-- CALL goes to PC plus immediate, CALLI to A[a] as before the step
context_op Call i r = call_of (plus_of (pc r) i.imm) i.next r
context_op Calli i r = call_of (A r i.a) i.next r
context_op Ret i r = ret_of r
context_op Rfe i r = rfe_of r
context_op Svlcx i r = svlcx_of i.next
context_op Rslcx i r = rslcx_of i.next r
context_op Bisr i r = bisr_of i.imm i.next r
-- 6/immediate's low 8 bits, with the next instruction as the return address
context_op Syscall i r = Ends (TrapsAfter (SYS i.imm))

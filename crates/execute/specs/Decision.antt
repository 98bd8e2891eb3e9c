-- What is decided is one of four decisions. The entries of interrupts and traps are saves of the upper context.
use Rattle.std.specs.Prelude.{ℕ, Err, Ok, Result, ⊤}
use Rattle.memory.specs.Memory.{Memory, memory}
use Rattle.registers.specs.Registers.{pc}
use Rattle.registers.specs.declared.Registers.{Registers}
use Rattle.events.specs.declared.event.Event.{Event}
use Rattle.events.specs.declared.event.Event.TheVariants as event
use Rattle.operations.specs.declared.Store.{Store}
use Rattle.contexts.specs.Restore.{return_of}
use Rattle.contexts.specs.declared.context.Half.{Half}
use Rattle.contexts.specs.declared.context.Half.TheVariants.{Upper}
use Rattle.entries.specs.Entry.{MadeOf, made, saving_of, cause_event, cause_entry}
use Rattle.entries.specs.declared.entry.Cause.{Cause}
use Rattle.entries.specs.declared.entry.Cause.TheVariants as cause
use Rattle.acts.specs.Acts as acts
use Rattle.acts.specs.Acts.{Act, Effect, stored_of}
use Rattle.events.specs.declared.event.Stop.{Stop}

pub data Decision : Type 0 where
  -- memory stays, with the registers after the step
  Keep : Registers → Decision
  -- a store of a value at a place, with the registers after it
  Write : Store → ℕ → ℕ → Registers → Decision
  -- the event, the half, the saved PC of a lower one, and the registers after it from those with the heads set
  Save : Event → Half → ℕ → (Registers → Registers) → Decision
  -- the half, and the registers after it from those that are loaded
  Return : Half → (Registers → Registers) → Decision

-- an entry by its cause
abbrev pub entry_for : Cause → Decision
entry_for c = Save (cause_event c) Upper 0 (cause_entry c)

-- the trapping instruction is the return address, but the next one for SYSCALL, TRAPV, TRAPSV
abbrev pub effect_decides : ℕ → ℕ → Effect → Decision
effect_decides pc next (acts.Sets q) = Keep q
effect_decides pc next (acts.Traps t) = entry_for (cause.Trap t pc)
effect_decides pc next (acts.TrapsAfter t) = entry_for (cause.Trap t next)

-- an instruction by its act, with the address after it
abbrev pub act_decides : ℕ → Registers → Act → Decision
act_decides next r (acts.Ends e) = effect_decides (pc r) next e
act_decides next r (acts.Write op at v q) = Write op at v q
act_decides next r (acts.Save half saved-pc then) = Save event.Instruction half saved-pc then
act_decides next r (acts.Return half then) = Return half then

abbrev pub returning_by : (Registers → Registers) → Result ⊤ Stop → Registers → Memory → MadeOf
returning_by then (Err s) q m = made (Err s) q m
returning_by then (Ok _) q m = made (Ok event.Instruction) (then q) m

-- a decision performed. This alone changes memory. The heads of the lists are changed by a save and a return; a Keep may have them set by an MTCR
abbrev pub performed_of : Decision → Registers → Memory → MadeOf
performed_of (Keep q) r m = made (Ok event.Instruction) q m
performed_of (Write op at v q) r m = made (Ok event.Instruction) q (memory m.windows (stored_of op m.bytes at v))
performed_of (Save e half saved-pc then) r m = saving_of e half saved-pc then r m
performed_of (Return half then) r m = let v = return_of half r m in returning_by then v.returned v.registers v.memory

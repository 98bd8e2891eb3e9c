-- What an instruction answers: that it is done and steady, or its ending.
use Rattle.std.specs.Prelude.{Bool, true, false, Err, Ok, Result}
use Rattle.registers.specs.declared.Registers.{Registers}
use Rattle.events.specs.declared.event.Event.TheVariants as event
use Rattle.acts.specs.Acts.{control_of, is_same}
use Rattle.execute.specs.declared.Executed.{Executed}
use Rattle.execute.specs.declared.Executed.TheVariants.{Steady, Ended}
use Rattle.events.specs.declared.event.Event.{Event}
use Rattle.events.specs.declared.event.Stop.{Stop}

abbrev pub ending_of : Executed → Result Event Stop
ending_of Steady = Ok event.Instruction
ending_of (Ended e) = e

abbrev pub is_steady : Executed → Bool
is_steady Steady = true
is_steady (Ended e) = false

-- a step that ended so, with the registers before and after it, is steady where there was no entry, and ICR, SYSCON and PSW.PRS are as they were
abbrev pub stays_steady : Result Event Stop → Registers → Registers → Bool
stays_steady (Ok event.Instruction) r q = is_same (control_of r.core) (control_of q.core)
stays_steady (Ok (event.Interrupt source)) r q = false
stays_steady (Ok (event.Trap t)) r q = false
stays_steady (Err s) r q = false

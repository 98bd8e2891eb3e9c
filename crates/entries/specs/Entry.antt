-- The entries of interrupts and traps (002, 5.5 and 6.2), and the FCD entry.
use Rattle.std.specs.Prelude.{ℕ, ◌*◌, false, cond, List, Err, Ok, Result}
use Rattle.std.specs.Int.Bits.{bit_or}
use Rattle.memory.specs.Memory.{Memory, memory}
use Rattle.fields.specs.Psw.{psw_is}
use Rattle.fields.specs.Icr.{icr_ccpn, icr_of}
use Rattle.fields.specs.Link.{link_of}
use Rattle.registers.specs.Registers.{A, pc, psw, fcx, icr, isp, biv, btv, with_d, with_a, with_pc, with_psw, with_icr, with_cores, new_pc}
use Rattle.registers.specs.declared.Registers.{Registers}
use Rattle.events.specs.Traps.{FCD}
use Rattle.events.specs.declared.trap.Trap.{Trap}
use Rattle.events.specs.declared.event.Event.{Event}
use Rattle.events.specs.declared.event.Event.TheVariants as event
use Rattle.contexts.specs.Context.{upper_of, context_of}
use Rattle.contexts.specs.Save.{room_of, take_of, save_of}
use Rattle.contexts.specs.declared.context.Half.{Half}
use Rattle.contexts.specs.declared.context.Half.TheVariants.{Upper}
use Rattle.entries.specs.declared.entry.Cause.{Cause}
use Rattle.entries.specs.declared.entry.Cause.TheVariants as cause
use Rattle.events.specs.declared.event.Stop.{Stop}
use Rattle.contexts.specs.declared.save.Saved.{Saved}
use Rattle.contexts.specs.declared.save.Saved.TheVariants.{Depleted, Done}

-- A10 = ISP if IS was 0
unfoldable pub stack_of : ℕ → ℕ → ℕ → ℕ
stack_of sp psw isp = cond (psw_is psw) sp isp

-- any entry: A10, A11 = the return address, PSW = 00000A80
unfoldable pub entered_of : ℕ → Registers → Registers
entered_of back r = with_psw 0x0000_0A80 (with_a 11 back (with_a 10 (stack_of (A r 10) (psw r) (isp r)) r))

-- a trap: IE = 0, CCPN stays, D15 = TIN, PC = BTV or'ed with 32 times the class
unfoldable pub trap_entry : Trap → ℕ → Registers → Registers
trap_entry t back r =
    let e = entered_of back r in
    let f = with_d 15 t.tin (with_icr (icr_of (icr e) false (icr_ccpn (icr e))) e) in
    with_pc (new_pc (bit_or (btv f) (t.class * 32))) f

-- an interrupt: A11 = PC, IE = 0, CCPN = the priority number, PC = BIV or'ed with 32 times it
unfoldable pub interrupt_entry : ℕ → Registers → Registers
interrupt_entry level r =
    let e = entered_of (pc r) r in
    let f = with_icr (icr_of (icr e) false level) e in
    with_pc (new_pc (bit_or (biv f) (level * 32))) f

-- what a step that is accepted comes to, with the registers and the memory after it
pub record MadeOf : Type 0 where
  pub ending : Result Event Stop
  pub registers : Registers
  pub memory : Memory

abbrev pub made : Result Event Stop → Registers → Memory → MadeOf
made e r m = record { ending = e; registers = r; memory = m }

-- the FCD entry works on the state that the step had reached, with the new PC as its return address; it raises no second one. The save before it has looked for its area
abbrev pub fcd_by : Registers → Memory → Result ℕ Stop → MadeOf
fcd_by r m (Err s) = made (Err s) r m
fcd_by r m (Ok at) =
    let t = take_of Upper (upper_of r) at r.core m.bytes in
    let q = with_cores t.core r in
    made (Ok (event.Trap FCD)) (trap_entry FCD (pc q) q) (memory m.windows t.bytes)

unfoldable pub fcd_of : Registers → Memory → MadeOf
fcd_of r m = fcd_by r m (room_of m (link_of (fcx r)))

-- after a save: `then` are the registers from those with the heads set; an FCD entry follows where the area taken is LCX's
abbrev pub entering : Event → (Registers → Registers) → Registers → Result Saved Stop → List ℕ → Memory → MadeOf
entering e then r (Err s) core m = made (Err s) (with_cores core r) m
entering e then r (Ok Done) core m = made (Ok e) (then (with_cores core r)) m
entering e then r (Ok Depleted) core m = fcd_of (then (with_cores core r)) m

-- a save of a half, with the saved PC of a lower one, then the registers, and the step's event
abbrev pub saving_of : Event → Half → ℕ → (Registers → Registers) → Registers → Memory → MadeOf
saving_of e half saved-pc then r m =
    let v = save_of half (context_of half saved-pc r) r.core m in entering e then r v.saved v.core v.memory

-- the event of an entry's cause, and the registers that it sets
abbrev pub cause_event : Cause → Event
cause_event (cause.Trap t back) = event.Trap t
cause_event (cause.Interrupt source level) = event.Interrupt source

abbrev pub cause_entry : Cause → Registers → Registers
cause_entry (cause.Trap t back) = trap_entry t back
cause_entry (cause.Interrupt source level) = interrupt_entry level

-- an entry: an upper save, then the registers
unfoldable pub enter_of : Cause → Registers → Memory → MadeOf
enter_of c r m = saving_of (cause_event c) Upper 0 (cause_entry c) r m

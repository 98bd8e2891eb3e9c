-- What an instruction does is one of four acts. It is decided from the registers, the ranges, the memory and the record; then it is performed.
use Rattle.std.specs.Prelude.{ℕ, Bool, cond, ◌&&◌, List, get_or, eqb, Err, Ok, Result, ⊤}
use Rattle.fields.specs.Psw.{psw_prs}
use Rattle.memory.specs.Memory.{Memory, memory}
use Rattle.memory.specs.Word.{put_byte, put_half, put_word}
use Rattle.registers.specs.Core.{PSW, ICR, SYSCON}
use Rattle.registers.specs.Registers.{with_cores}
use Rattle.registers.specs.declared.Registers.{Registers}
use Rattle.events.specs.declared.trap.Trap.{Trap}
use Rattle.operations.specs.declared.Store.{Store}
use Rattle.operations.specs.declared.Store.TheVariants.{StB, StH, StW, StA}
use Rattle.contexts.specs.Context.{context_of}
use Rattle.contexts.specs.Save.{save_of}
use Rattle.contexts.specs.Restore.{return_of}
use Rattle.contexts.specs.declared.context.Half.{Half}
use Rattle.acts.specs.declared.Control.{Control}
use Rattle.acts.specs.declared.How.{How}
use Rattle.acts.specs.declared.How.TheVariants as how
use Rattle.contexts.specs.declared.save.Saved.{Saved}
use Rattle.events.specs.declared.event.Stop.{Stop}
use Rattle.contexts.specs.declared.save.Saved.TheVariants.{Depleted, Done}

-- the effect of an instruction that leaves memory alone: it sets registers, or it takes a trap and leaves them too
pub data Effect : Type 0 where
  Sets : Registers → Effect
  -- the return address is the instruction's own
  Traps : Trap → Effect
  -- the return address is the next instruction's
  TrapsAfter : Trap → Effect

-- the four acts
pub data Act : Type 0 where
  -- memory stays
  Ends : Effect → Act
  -- a store of register c's value at a place, with the registers after it
  Write : Store → ℕ → ℕ → Registers → Act
  -- a save of a half, with the saved PC of a lower one, and the registers after it from those with the heads set
  Save : Half → ℕ → (Registers → Registers) → Act
  -- a return to a half, and the registers after it from those that are loaded
  Return : Half → (Registers → Registers) → Act

-- how an instruction ended, and the registers after it
pub record Ended : Type 0 where
  pub how : How
  pub registers : Registers

abbrev pub ended : How → Registers → Ended
ended h r = record { how = h; registers = r }

-- and the memory after it
pub record Did : Type 0 where
  pub how : How
  pub registers : Registers
  pub memory : Memory

abbrev pub did : How → Registers → Memory → Did
did h r m = record { how = h; registers = r; memory = m }

-- ST.B, ST.H, ST.W and ST.A write the low byte, the low halfword, the word
abbrev pub stored_of : Store → List ℕ → ℕ → ℕ → List ℕ
stored_of StB bytes at v = put_byte bytes at v
stored_of StH bytes at v = put_half bytes at v
stored_of StW bytes at v = put_word bytes at v
stored_of StA bytes at v = put_word bytes at v

-- what interrupts are taken by, ICR, and what fetches are checked by, SYSCON and PSW.PRS
abbrev pub control_of : List ℕ → Control
control_of core = record { icr = get_or core ICR 0; syscon = get_or core SYSCON 0; prs = psw_prs (get_or core PSW 0) }

unfoldable pub is_same : Control → Control → Bool
is_same x y = eqb x.icr y.icr && (eqb x.syscon y.syscon && eqb x.prs y.prs)

-- an instruction that is done switches where one of them is another than before
abbrev pub done_by : Bool → How
done_by same = cond same how.Done how.Switched

-- with the registers r before and q after
unfoldable pub done_of : Registers → Registers → How
done_of r q = done_by (is_same (control_of r.core) (control_of q.core))

abbrev pub ended_of : Effect → Registers → Ended
ended_of (Sets q) r = ended (done_of r q) q
ended_of (Traps t) r = ended (how.Trap t) r
ended_of (TrapsAfter t) r = ended (how.TrapAfter t) r

abbrev pub keeping : Ended → Memory → Did
keeping e m = did e.how e.registers m

abbrev pub doing : Registers → Registers → Memory → Did
doing r q m = did (done_of r q) q m

abbrev pub save_did : (Registers → Registers) → Registers → Result Saved Stop → List ℕ → Memory → Did
save_did then r (Err s) core m = did (how.Stopped s) (with_cores core r) m
save_did then r (Ok Done) core m = doing r (then (with_cores core r)) m
save_did then r (Ok Depleted) core m = did how.Depleted (then (with_cores core r)) m

abbrev pub return_did : (Registers → Registers) → Registers → Result ⊤ Stop → Registers → Memory → Did
return_did then r (Err s) q m = did (how.Stopped s) q m
return_did then r (Ok _) q m = doing r (then q) m

-- an act performed, up to the entry of a trap that follows it. This alone changes memory. The heads are changed by a save and a return, and by an MTCR to FCX or PCXI: an act that ends with them set
abbrev pub perform_of : Act → Registers → Memory → Did
perform_of (Ends e) r m = keeping (ended_of e r) m
perform_of (Write op at v q) r m = doing r q (memory m.windows (stored_of op m.bytes at v))
perform_of (Save half pc then) r m =
    let v = save_of half (context_of half pc r) r.core m in save_did then r v.saved v.core v.memory
perform_of (Return half then) r m = let v = return_of half r m in return_did then r v.returned v.registers v.memory

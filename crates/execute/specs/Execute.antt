-- An instruction: its act, by document 01's operations in order, and the entry that may follow.
use Rattle.std.specs.Prelude.{ℕ, List, Err, Ok}
use Rattle.memory.specs.Memory.{Memory}
use Rattle.registers.specs.Registers.{pc, with_pc}
use Rattle.registers.specs.declared.Registers.{Registers}
use Rattle.protection.specs.declared.range.Range.{Range}
use Rattle.operations.specs.declared.Operation.{Operation}
use Rattle.operations.specs.declared.Operation.TheVariants.{Nop, Integer, Move, Load, Store, Jump, Context, System}
use Rattle.image.specs.declared.fetch.Instruction.{Instruction}
use Rattle.events.specs.declared.event.Event.TheVariants as event
use Rattle.entries.specs.Entry.{MadeOf, made, fcd_of, enter_of}
use Rattle.entries.specs.declared.entry.Cause.TheVariants as cause
use Rattle.acts.specs.Acts.{Act, Ends, Sets}
use Rattle.acts.specs.declared.How.{How}
use Rattle.acts.specs.declared.How.TheVariants as how
use Rattle.moves.specs.Moves.{integer_of, move_of}
use Rattle.jumps.specs.Jumps.{jump_of}
use Rattle.system.specs.Instructions.{system_of}
use Rattle.accesses.specs.Load.{load_of}
use Rattle.accesses.specs.Store.{store_of}
use Rattle.calls.specs.Instructions.{context_op}
use Rattle.execute.specs.Decision.{act_decides, performed_of}

abbrev pub act_by : Operation → Instruction → Registers → List Range → Memory → Act
act_by Nop i r rs m = Ends (Sets (with_pc i.next r))
act_by (Integer op) i r rs m = Ends (Sets (integer_of op i r))
act_by (Move op) i r rs m = Ends (move_of op i r)
act_by (Load op) i r rs m = Ends (load_of op i r rs m)
act_by (Store op) i r rs m = store_of op i r rs m
act_by (Jump op) i r rs m = Ends (jump_of op i r)
act_by (Context op) i r rs m = context_op op i r
act_by (System op) i r rs m = Ends (system_of op i r)

-- what the instruction is to do
unfoldable pub act_of : Instruction → Registers → List Range → Memory → Act
act_of i r rs m = act_by i.op i r rs m

-- the instruction is decided and performed, with the entry of its trap
unfoldable pub execute_of : Instruction → Registers → List Range → Memory → MadeOf
execute_of i r rs m = performed_of (act_decides i.next r (act_of i r rs m)) r m

-- the entry that follows an act, by how it ended: performing the act and then this is executing the instruction (proofs/Arms.antt: act-is)
unfoldable pub finish_of : ℕ → How → Registers → Memory → MadeOf
finish_of next how.Done r m = made (Ok event.Instruction) r m
finish_of next how.Switched r m = made (Ok event.Instruction) r m
finish_of next how.Depleted r m = fcd_of r m
finish_of next (how.Trap t) r m = enter_of (cause.Trap t (pc r)) r m
finish_of next (how.TrapAfter t) r m = enter_of (cause.Trap t next) r m
finish_of next (how.Stopped s) r m = made (Err s) r m

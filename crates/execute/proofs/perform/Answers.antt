use Rattle.acts.proofs.Steadiness.{steady_pc, done_did}
use Rattle.execute.proofs.Arms.{performs, keeps_memory, steady_integer}
use Rattle.execute.proofs.perform.Goals as goal

pub execute_jump-requires : goal.execute_jump-requires
execute_jump-requires c = let h = c.requires in (h, λ t. h.3 (rw c.in-Jump.is t))

pub returns-in-Nop : goal.returns-in-Nop
returns-in-Nop c = performs _ _ _ _ c.in-Nop.is (done_did (steady_pc _ _) _)

pub returns-in-Integer : goal.returns-in-Integer
returns-in-Integer c = performs _ _ _ _ c.in-Integer.is (rw (← c.execute_integer.ensures) (done_did (rw c.execute_integer.ensures (steady_integer _ _ _)) _))

pub returns-in-Move : goal.returns-in-Move
returns-in-Move c = performs _ _ _ _ c.in-Move.is (keeps_memory _ c.execute_move.ensures)

pub returns-in-Load : goal.returns-in-Load
returns-in-Load c = performs _ _ _ _ c.in-Load.is (keeps_memory _ c.execute_load.ensures)

pub returns-in-Store : goal.returns-in-Store
returns-in-Store c = performs _ _ _ _ c.in-Store.is c.execute_store.ensures

pub returns-in-Jump : goal.returns-in-Jump
returns-in-Jump c = performs _ _ _ _ c.in-Jump.is (keeps_memory _ c.execute_jump.ensures)

pub returns-in-Context : goal.returns-in-Context
returns-in-Context c = performs _ _ _ _ c.in-Context.is c.execute_context.ensures

pub returns-in-System : goal.returns-in-System
returns-in-System c = performs _ _ _ _ c.in-System.is (keeps_memory _ c.execute_system.ensures)

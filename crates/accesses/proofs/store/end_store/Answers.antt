use Rattle.acts.proofs.Steadiness.{steady_pc, done_ended}
use Rattle.accesses.proofs.store.end_store.Goals as goal

pub returns-in-Ok : goal.returns-in-Ok
returns-in-Ok c = rw c.in-Ok.is (done_ended (steady_pc _ _))

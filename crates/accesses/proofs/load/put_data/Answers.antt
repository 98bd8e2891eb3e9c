use Rattle.acts.proofs.Steadiness.{steady_next, done_ended}
use Rattle.accesses.proofs.load.put_data.Goals as goal

pub returns-in-Ok : goal.returns-in-Ok
returns-in-Ok c = rw c.in-Ok.is (done_ended (steady_next _ _ _ _))

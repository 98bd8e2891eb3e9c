use Rattle.acts.proofs.Steadiness.{steady_then, steady_pc, done_did}
use Rattle.acts.proofs.Heads.{return_steady}
use Rattle.calls.specs.Returns.{rslcx_of}
use Rattle.calls.proofs.returns.rslcx.Goals as goal

pub returns-in-Err : goal.returns-in-Err
unfolding rslcx_of
returns-in-Err c = rw (← c.previous_context.ensures, c.in-Err.is)

pub returns-in-Err-restore : goal.returns-in-Err-restore
unfolding rslcx_of
returns-in-Err-restore c = rw (← c.previous_context.ensures, c.in_default.is, ← c.restore.ensures, c.in-Err-restore.is)

pub returns-in-Ok : goal.returns-in-Ok
unfolding rslcx_of
returns-in-Ok c = rw (← c.previous_context.ensures, c.in_default.is, ← c.restore.ensures, c.in-Ok.is) (done_did (steady_then (return_steady _ c.restore.ensures) (steady_pc _ _)) _)

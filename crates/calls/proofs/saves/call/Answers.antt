use Rattle.acts.proofs.Steadiness.{steady_then, done_did}
use Rattle.acts.proofs.Heads.{save_steady}
use Rattle.calls.specs.Saves.{call_of}
use Rattle.calls.proofs.Switches.{called_steady}
use Rattle.calls.proofs.saves.call.Goals as goal

pub returns-then-overflows : goal.returns-then-overflows
unfolding call_of
returns-then-overflows c = rw (← c.overflows.ensures, c.if-overflows.true)

pub returns-in-Err : goal.returns-in-Err
unfolding call_of
returns-in-Err c = rw (← c.overflows.ensures, c.if-overflows.false, ← c.save.ensures.saved, c.in-Err.is, ← c.save.ensures.others_kept)

pub returns-in-Ok-Done : goal.returns-in-Ok-Done
unfolding call_of
returns-in-Ok-Done c = rw (← c.overflows.ensures, c.if-overflows.false, ← c.save.ensures.saved, c.in-Ok-Done.is, c.in-Ok-Done.field-0-is, ← c.save.ensures.others_kept, ← c.set_called.ensures) (done_did (rw c.set_called.ensures (steady_then (rw c.save.ensures.others_kept (save_steady _ _ _ c.save.ensures.saved)) (called_steady _ _ _))) _)

pub returns-in-Ok-Depleted : goal.returns-in-Ok-Depleted
unfolding call_of
returns-in-Ok-Depleted c = rw (← c.overflows.ensures, c.if-overflows.false, ← c.save.ensures.saved, c.in-Ok-Depleted.is, c.in-Ok-Depleted.field-0-is, ← c.save.ensures.others_kept, ← c.set_called-in-Ok-Depleted.ensures)

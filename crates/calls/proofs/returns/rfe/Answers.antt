use Rattle.acts.specs.Acts.{done_of}
use Rattle.calls.specs.Returns.{rfe_of}
use Rattle.calls.proofs.returns.rfe.Goals as goal

pub returns-then-in_call : goal.returns-then-in_call
unfolding rfe_of
returns-then-in_call c = rw (← c.previous_context.ensures, c.in_default.is, ← c.in_call.ensures, c.if-in_call.true)

pub returns-in-Err : goal.returns-in-Err
unfolding rfe_of
returns-in-Err c = rw (← c.previous_context.ensures, c.in-Err.is)

pub returns-in-Err-restore : goal.returns-in-Err-restore
unfolding rfe_of
returns-in-Err-restore c = rw (← c.previous_context.ensures, c.in_default.is, ← c.in_call.ensures, c.if-in_call.false, ← c.restore.ensures, c.in-Err-restore.is)

pub returns-in-Ok : goal.returns-in-Ok
unfolding rfe_of done_of
returns-in-Ok c =
    let w = rw (c.interrupts.ensures, c.priority.ensures) at c.written-icr.ensures in
    rw (← c.previous_context.ensures, c.in_default.is, ← c.in_call.ensures, c.if-in_call.false, ← c.restore.ensures, c.in-Ok.is, c.settled.ensures, c.control_of-before.ensures, c.new_pc-to.ensures, w)

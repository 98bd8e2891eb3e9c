use Rattle.acts.proofs.Steadiness.{steady_next, done_ended}
use Rattle.jumps.specs.Jumps.{loop_of}
use Rattle.jumps.proofs.execute_loop.Goals as goal

pub returns-then-guarded : goal.returns-then-guarded
unfolding loop_of
returns-then-guarded c = rw (← c.guarded.ensures, c.if-guarded.true)

pub returns : goal.returns
unfolding loop_of
returns c = rw (← c.guarded.ensures, c.if-guarded.false, c.branch-registers.ensures, c.equal.ensures, c.minus.ensures) (done_ended (steady_next _ _ _ _))

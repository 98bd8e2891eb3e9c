use Rattle.acts.proofs.Steadiness.{steady_next, done_ended}
use Rattle.jumps.specs.Jumps.{compare_of}
use Rattle.jumps.proofs.compare_and_jump.Goals as goal

pub returns : goal.returns
unfolding compare_of
returns c = rw (c.branch-registers.ensures, c.condition-taken.ensures) (done_ended (steady_next _ _ _ _))

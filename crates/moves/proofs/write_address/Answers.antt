use Rattle.acts.proofs.Steadiness.{steady_next, done_ended}
use Rattle.moves.specs.Moves.{address_write}
use Rattle.moves.proofs.write_address.Goals as goal

pub returns-then-guarded : goal.returns-then-guarded
unfolding address_write
returns-then-guarded c = rw (← c.guarded.ensures, c.if-guarded.true)

pub returns : goal.returns
unfolding address_write
returns c = rw (← c.guarded.ensures, c.if-guarded.false) (done_ended (steady_next _ _ _ _))

use Rattle.acts.proofs.Steadiness.{steady_next, done_ended}
use Rattle.moves.specs.Moves.{move_of}
use Rattle.moves.proofs.execute_move.Goals as goal

pub returns-in-MovA : goal.returns-in-MovA
unfolding move_of
returns-in-MovA c = rw (c.in-MovA.is, ← c.second-value.ensures) c.write_address.ensures

pub returns-in-MovD : goal.returns-in-MovD
unfolding move_of
returns-in-MovD c = rw c.in-MovD.is (done_ended (steady_next _ _ _ _))

pub returns-in-MovAa : goal.returns-in-MovAa
unfolding move_of
returns-in-MovAa c = rw c.in-MovAa.is c.write_address-in-MovAa.ensures

pub returns-in-AddA : goal.returns-in-AddA
unfolding move_of
returns-in-AddA c = rw (c.in-AddA.is, ← c.second.ensures, ← c.plus-value.ensures) c.write_address-in-AddA.ensures

pub returns-in-SubA : goal.returns-in-SubA
unfolding move_of
returns-in-SubA c = rw (c.in-SubA.is, ← c.second-in-SubA.ensures, ← c.minus-value.ensures) c.write_address-in-SubA.ensures

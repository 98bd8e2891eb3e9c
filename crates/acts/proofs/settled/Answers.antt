use Rattle.acts.proofs.Steadiness.{told_same}
use Rattle.acts.proofs.settled.Goals as goal

pub returns-then-eq : goal.returns-then-eq
returns-then-eq c = rw (← c.control_of-now.ensures) (told_same c.args.before c.control_of-now.result _ c.if-eq.ensures)

pub returns-else-eq : goal.returns-else-eq
returns-else-eq c = rw (← c.control_of-now.ensures) (told_same c.args.before c.control_of-now.result _ c.if-eq.ensures)

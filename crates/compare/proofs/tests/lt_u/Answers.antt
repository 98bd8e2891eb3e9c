use Rattle.compare.proofs.tests.lt_u.Goals as goal

pub returns : goal.returns
returns c = rw c.less_u.ensures

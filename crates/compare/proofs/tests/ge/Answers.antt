use Rattle.compare.proofs.tests.ge.Goals as goal

pub returns : goal.returns
returns c = rw c.less.ensures

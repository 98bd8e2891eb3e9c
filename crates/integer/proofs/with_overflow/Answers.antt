use Rattle.integer.proofs.with_overflow.Goals as goal

pub returns : goal.returns
returns c = rw c.with_overflow.ensures

use Rattle.integer.proofs.with_flags.Goals as goal

pub returns : goal.returns
returns c = rw c.with_flags.ensures

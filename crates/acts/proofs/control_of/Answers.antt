use Rattle.acts.proofs.control_of.Goals as goal

pub returns : goal.returns
returns c = rw (← c.protection_set.ensures.0)

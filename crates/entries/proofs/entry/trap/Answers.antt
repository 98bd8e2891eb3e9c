use Rattle.entries.proofs.entry.trap.Goals as goal

pub returns : goal.returns
returns c = c.enter.ensures

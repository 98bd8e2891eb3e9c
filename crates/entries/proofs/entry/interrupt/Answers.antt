use Rattle.entries.proofs.entry.interrupt.Goals as goal

pub returns : goal.returns
returns c = c.enter.ensures

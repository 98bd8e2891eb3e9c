use Rattle.compare.proofs.choices.min.Goals as goal

pub returns-then-less : goal.returns-then-less
returns-then-less c = rw (← c.less.ensures, c.if-less.true)

pub returns-else-less : goal.returns-else-less
returns-else-less c = rw (← c.less.ensures, c.if-less.false)

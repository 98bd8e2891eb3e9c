use Rattle.compare.proofs.choices.max_u.Goals as goal

pub returns-then-less_u : goal.returns-then-less_u
returns-then-less_u c = rw (← c.less_u.ensures, c.if-less_u.true)

pub returns-else-less_u : goal.returns-else-less_u
returns-else-less_u c = rw (← c.less_u.ensures, c.if-less_u.false)

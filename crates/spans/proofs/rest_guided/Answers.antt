use Rattle.spans.proofs.rest_guided.Goals as goal

pub rest_long-requires : goal.rest_long-requires
rest_long-requires c = (c.requires.0, c.requires.1.all_long c.if-guide.true)

pub returns-then-guide : goal.returns-then-guide
returns-then-guide c = rw (c.rest_long.ensures, c.if-guide.true)

pub returns : goal.returns
returns c = rw (← c.rest_at.ensures.0, c.if-guide.false, ← c.rest_at.ensures.1)

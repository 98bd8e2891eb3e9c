use borrow.Author.Tests.{lt-ltb, le-ltb}
use Rattle.walk.specs.Start.{link_after}
use Rattle.walk.proofs.start.link_after.Goals as goal

pub returns-then-k-lt63 : goal.returns-then-k-lt63
unfolding link_after
returns-then-k-lt63 c = rw (lt-ltb _ _ c.if-k-lt63.true)

pub returns : goal.returns
unfolding link_after
returns c = rw (le-ltb _ _ c.if-k-lt63.false)

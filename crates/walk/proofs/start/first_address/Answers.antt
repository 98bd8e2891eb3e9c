use borrow.Author.Tests.{lt-leb, le-leb}
use Rattle.walk.specs.Start.{first_address}
use Rattle.walk.proofs.start.first_address.Goals as goal

pub returns-then-image-lt8 : goal.returns-then-image-lt8
unfolding first_address
returns-then-image-lt8 c = rw (lt-leb _ _ c.if-image-lt8.true)

pub returns : goal.returns
unfolding first_address
returns c = rw (le-leb _ _ c.if-image-lt8.false) c.word_at.ensures

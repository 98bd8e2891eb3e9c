use Rattle.image.proofs.Marking.{no_marks}
use Rattle.permits.proofs.rest_of.Goals as goal

pub rest_long-requires : goal.rest_long-requires
rest_long-requires c = (c.requires.0, c.requires.1 c.if-long.true)

pub rest_at-requires : goal.rest_at-requires
rest_at-requires c = (c.requires.0, no_marks _ 1)

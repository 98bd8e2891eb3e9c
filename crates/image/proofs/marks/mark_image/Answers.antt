use Rattle.std.proofs.Common.{arith}
use Rattle.image.proofs.Images.{image_right}
use Rattle.image.proofs.Marking.{image_none, image_more}
use Rattle.image.proofs.marks.mark_image.Goals as goal

pub word_at-n-requires : goal.word_at-n-requires
word_at-n-requires c = let g = image_right c.args.image.now c.requires.0 in omega (arith, g.table.counted.word)

pub loop-i-init : goal.loop-i-init
loop-i-init c = (c.requires.1, image_none _ _ _)

pub loop-i-preserved : goal.loop-i-preserved
loop-i-preserved c = (c.mark_body.ensures.marked, image_more _ _ _ _ _ _ c.loop-i.invariant.1 c.mark_body.ensures.written)

use Rattle.std.proofs.Common.{◌∙◌, arith}
use Rattle.image.proofs.Images.{image_right}
use Rattle.image.proofs.Marking.{whole, outside, inside, few, left, walk_marked}
use Rattle.image.proofs.fetch.rest_in.Goals as goal

pub read_entry-e-requires : goal.read_entry-e-requires
read_entry-e-requires c = let g = image_right c.args.image.now c.requires.0 in omega (arith, g.table.counted.whole, c.requires.2)

pub overflow_mul-e : goal.overflow_mul-e
overflow_mul-e c =
    let p = c.requires in
    let w = whole _ (image_right c.args.image.now p.0) _ p.2 c.read_entry-e.result c.read_entry-e.ensures in
    omega (arith, w.1)

pub returns-then-e-pc : goal.returns-then-e-pc
returns-then-e-pc c =
    let p = c.requires in
    outside _ (image_right c.args.image.now p.0) _ p.2 c.read_entry-e.result c.read_entry-e.ensures _ (omega arith) c.if-e-pc.true

pub start_of-s-requires : goal.start_of-s-requires
start_of-s-requires c =
    let p = c.requires in
    let i = inside _ (image_right c.args.image.now p.0) _ p.2 c.read_entry-e.result c.read_entry-e.ensures _ (omega arith) c.if-e-pc.false in
    (p.0, p.1, p.2, c.read_entry-e.ensures, i)

pub overflow_sub-e : goal.overflow_sub-e
overflow_sub-e c =
    let p = c.requires in
    let f = few _ (image_right c.args.image.now p.0) _ p.2 c.read_entry-e.result c.read_entry-e.ensures _ _ c.start_of-s.ensures.1 in
    omega (arith, f)

pub walk_body-requires : goal.walk_body-requires
walk_body-requires c =
    let p = c.requires in
    left _ (image_right c.args.image.now p.0) _ p.2 c.read_entry-e.result c.read_entry-e.ensures _ _ c.start_of-s.ensures.1

pub returns : goal.returns
returns c =
    let p = c.requires in
    c.walk_body.ensures ∙ walk_marked _ (image_right c.args.image.now p.0) _ p.2 c.read_entry-e.result c.read_entry-e.ensures _ _ c.start_of-s.ensures.1 _ c.start_of-s.ensures.2

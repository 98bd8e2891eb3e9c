use Rattle.std.proofs.Common.{◌≡◌, ◌+◌, sym, refl, arith}
use Rattle.image.specs.Lengths.{address_after}
use Rattle.image.proofs.Addresses.{after_none, after_plus, after_less}
use Rattle.image.proofs.Images.{image_right}
use Rattle.image.proofs.Marking.{body_none, body_more, whole}
use Rattle.image.proofs.marks.mark_body.Goals as goal

pub read_entry-e-requires : goal.read_entry-e-requires
read_entry-e-requires c = let g = image_right c.args.image.now c.requires.0 in omega (arith, g.table.counted.whole, c.requires.1)

pub loop-k-init : goal.loop-k-init
loop-k-init c = (rw c.read_entry-e.ensures (sym (after_none _ _ _)), c.requires.2, body_none _ _ _ _)

pub overflow_add-i : goal.overflow_add-i
overflow_add-i c =
    let p = c.requires in
    omega (arith, (image_right c.args.image.now p.0).table.counted.most, p.1)

pub bounds-image-at : goal.bounds-image-at
bounds-image-at c =
    let p = c.requires in
    let w = whole _ (image_right c.args.image.now p.0) _ p.1 c.read_entry-e.result c.read_entry-e.ensures in
    omega (arith, w.2)

pub overflow_add-here : goal.overflow_add-here
overflow_add-here c =
    let p = c.requires in
    let img = c.args.image.now in
    let e = c.read_entry-e.result in
    let l = c.loop-k in
    let w = whole _ (image_right img p.0) _ p.1 e c.read_entry-e.ensures in
    let here : l.here ≡ address_after l.k img e.offset e.load = rw c.read_entry-e.ensures l.invariant.0 in
    omega (arith, w.3, here, after_plus l.k img e.offset e.load, after_less (l.k + 1) e.records img e.offset e.load (omega arith), c.length_of-here.ensures)

pub loop-k-preserved : goal.loop-k-preserved
loop-k-preserved c =
    let l = c.loop-k.invariant in
    (rw (l.0, c.length_of-here.ensures, c.read_entry-e.ensures) (sym (after_plus _ _ _ _)), c.put_mark.ensures.marked, body_more _ _ _ _ _ refl _ _ _ l.0 (rw (c.bias_of-bias.ensures, c.read_entry-e.ensures) at c.slot_of.ensures) _ _ l.2 c.put_mark.ensures.written)

use Rattle.std.proofs.Common.{◌<◌, ◌∙◌, arith}
use native.Mathlib.Nat.{sub-zero}
use Rattle.image.specs.Table.{entries_of}
use Rattle.image.specs.Rest.{rest_of}
use Rattle.image.proofs.Images.{image_right}
use Rattle.image.proofs.Long.{index_here, index_past}
use Rattle.image.proofs.Rests.{turn_here, turn_past, turn_end}
use Rattle.image.proofs.fetch.rest_long.Goals as goal

pub word_at-i-end-requires : goal.word_at-i-end-requires
word_at-i-end-requires c = let g = (image_right c.args.image.now c.requires.0).table in omega (arith, g.counted.word)

pub loop-i-init : goal.loop-i-init
unfolding rest_of
loop-i-init c = rw sub-zero

pub read_entry-e-requires : goal.read_entry-e-requires
read_entry-e-requires c = let g = image_right c.args.image.now c.requires.0 in omega (arith, g.table.counted.whole, c.word_at-i-end.ensures)

pub returns-then-k-e : goal.returns-then-k-e
returns-then-k-e c =
    let p = c.requires in
    let h : c.loop-i.i < entries_of c.args.image.now = omega (arith, c.word_at-i-end.ensures) in
    let r = index_here _ (image_right c.args.image.now p.0) p.1 _ h c.read_entry-e.result c.read_entry-e.ensures _ (omega arith) _ c.index_from-k.ensures.0 c.if-k-e.true in
    turn_here _ _ _ _ h _ r (λ e. omega (arith, c.if-k-e.true)) ∙ c.loop-i.invariant

pub loop-i-preserved : goal.loop-i-preserved
loop-i-preserved c =
    let p = c.requires in
    let h : c.loop-i.i < entries_of c.args.image.now = omega (arith, c.word_at-i-end.ensures) in
    let r = index_past _ (image_right c.args.image.now p.0) p.1 _ h c.read_entry-e.result c.read_entry-e.ensures _ (omega arith) _ c.index_from-k.ensures.0 c.if-k-e.false in
    turn_past _ _ _ _ h _ r (omega arith) ∙ c.loop-i.invariant

pub returns : goal.returns
returns c = turn_end _ _ _ _ (omega (arith, c.word_at-i-end.ensures)) ∙ c.loop-i.invariant

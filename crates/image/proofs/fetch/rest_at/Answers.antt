use Rattle.std.proofs.Common.{◌∙◌, arith}
use native.Mathlib.Nat.{sub-zero}
use Rattle.image.specs.Rest.{rest_of, entry_of}
use Rattle.image.proofs.Images.{image_right}
use Rattle.image.proofs.Rests.{turn_here, turn_past, turn_end, entry_here, entry_past, entry_end}
use Rattle.image.proofs.fetch.rest_at.Goals as goal

pub loop-r-init : goal.loop-r-init
unfolding rest_of entry_of
loop-r-init c = (omega (arith, (image_right c.args.image.now c.requires.0).table.counted.some), rw sub-zero, rw sub-zero)

pub rest_in-r-requires : goal.rest_in-r-requires
rest_in-r-requires c = (c.requires.0, c.requires.1, c.loop-r.invariant.0)

pub returns-then-r-ne0 : goal.returns-then-r-ne0
returns-then-r-ne0 c =
    let l = c.loop-r.invariant in
    let e = c.rest_in-r.ensures in
    (turn_here _ _ _ _ l.0 _ e c.if-r-ne0.true ∙ l.1, entry_here _ _ _ _ l.0 _ e c.if-r-ne0.true ∙ l.2)

pub overflow_add-i : goal.overflow_add-i
overflow_add-i c = let g = (image_right c.args.image.now c.requires.0).table in omega (arith, g.counted.most, c.loop-r.invariant.0)

pub word_at-requires : goal.word_at-requires
word_at-requires c = let g = (image_right c.args.image.now c.requires.0).table in omega (arith, g.counted.word)

pub returns-then-i-word_at : goal.returns-then-i-word_at
returns-then-i-word_at c =
    let l = c.loop-r.invariant in
    let e = c.rest_in-r.ensures in
    let h = c.if-r-ne0.false in
    (turn_end _ _ _ _ (omega (arith, c.if-i-word_at.true, c.word_at.ensures)) ∙ turn_past _ _ _ _ l.0 _ e h ∙ l.1, entry_end _ _ _ _ (omega (arith, c.if-i-word_at.true, c.word_at.ensures)) ∙ entry_past _ _ _ _ l.0 _ e h ∙ l.2)

pub loop-r-smaller : goal.loop-r-smaller
loop-r-smaller c = omega (arith, c.loop-r.invariant.0)

pub loop-r-preserved : goal.loop-r-preserved
loop-r-preserved c =
    let l = c.loop-r.invariant in
    let e = c.rest_in-r.ensures in
    let h = c.if-r-ne0.false in
    (omega (arith, c.if-i-word_at.false, c.word_at.ensures, l.0), turn_past _ _ _ _ l.0 _ e h ∙ l.1, entry_past _ _ _ _ l.0 _ e h ∙ l.2)

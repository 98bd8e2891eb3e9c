use Rattle.std.proofs.Common.{sym, refl, ◌∙◌, arith}
use Rattle.spans.proofs.Spans.{ahead_known, place_end, place_in}
use Rattle.machine.proofs.Turns.{image_holds}
use Rattle.machine.proofs.Walks.{walk_first, walk_is, walk_next, goes_first, goes_read, goes_index, goes_place, ends_stopped, ends_made}
use Rattle.machine.proofs.instructions.steady_steps.Goals as goal

pub next_after-next-requires : goal.next_after-next-requires
next_after-next-requires c =
    let p = c.requires in
    let g = c.args in
    let s = (ahead_known g.image.now g.registers.now.core g.ranges.now g.guide.long g.s (image_holds _ _ _ p.ready.accepted) p.guides.all_long p.lies_ahead).0 in
    omega (arith, s.lies.inside, s.spans.some)

pub loop-left-init : goal.loop-left-init
loop-left-init c =
    let p = c.requires in
    ((refl, refl), goes_first _ _ _ _ _ _ _ (walk_first _ _ _ _ _ _ _ p.n_nonzero p.ready (ahead_known _ _ _ _ _ (image_holds _ _ _ p.ready.accepted) p.guides.all_long p.lies_ahead)) c.next_after-next.ensures)

pub overflow_mul-k : goal.overflow_mul-k
overflow_mul-k c = let g = c.loop-left.invariant.1 in omega (arith, g.stands, g.walk.inside, g.walk.span.lies.inside, c.well_formed.1.1.1.1.0.0)

pub overflow_add-at : goal.overflow_add-at
overflow_add-at c = let g = c.loop-left.invariant.1 in omega (arith, g.stands, g.walk.inside, g.walk.span.lies.inside, c.well_formed.1.1.1.1.0.0)

pub read_record-i-requires : goal.read_record-i-requires
read_record-i-requires c = let g = c.loop-left.invariant.1 in omega (arith, g.stands, g.walk.inside, g.walk.span.lies.inside)

pub execute_instruction-done-requires : goal.execute_instruction-done-requires
execute_instruction-done-requires c =
    let g = c.loop-left.invariant.1 in
    let w = g.walk in
    rw (goes_read _ _ _ _ _ _ _ g c.read_record-i.ensures) (w.span.fields _ w.inside _)

pub returns-in_default : goal.returns-in_default
returns-in_default c =
    let g = c.loop-left.invariant.1 in
    let i = goes_read _ _ _ _ _ _ _ g c.read_record-i.ensures in
    ends_stopped _ _ _ _ _ g.walk.stands (walk_is _ _ _ _ _ _ _ g.walk i c.execute_instruction-done.ensures.performed) _ (sym c.ending_of-ending.ensures) c.in_default.field-0 c.in_default.is

pub overflow_sub-left : goal.overflow_sub-left
overflow_sub-left c = let w = c.loop-left.invariant.1.walk in omega (arith, w.stands.some)

pub returns-then-left-eq0 : goal.returns-then-left-eq0
returns-then-left-eq0 c =
    let g = c.loop-left.invariant.1 in
    let i = goes_read _ _ _ _ _ _ _ g c.read_record-i.ensures in
    ends_made _ _ _ _ _ g.walk.stands (walk_is _ _ _ _ _ _ _ g.walk i c.execute_instruction-done.ensures.performed) _ (sym c.ending_of-ending.ensures) c.in-Ok.field-0 c.in-Ok.is

pub returns-then-not-steady : goal.returns-then-not-steady
returns-then-not-steady c =
    let g = c.loop-left.invariant.1 in
    let i = goes_read _ _ _ _ _ _ _ g c.read_record-i.ensures in
    ends_made _ _ _ _ _ g.walk.stands (walk_is _ _ _ _ _ _ _ g.walk i c.execute_instruction-done.ensures.performed) _ (sym c.ending_of-ending.ensures) c.in-Ok.field-0 c.in-Ok.is

pub loop-left-smaller-then-k-s : goal.loop-left-smaller-then-k-s
loop-left-smaller-then-k-s c = let w = c.loop-left.invariant.1.walk in omega (arith, w.stands.some)

pub loop-left-preserved-then-k-s : goal.loop-left-preserved-then-k-s
loop-left-preserved-then-k-s c =
    let g = c.loop-left.invariant.1 in
    let i = goes_read _ _ _ _ _ _ _ g c.read_record-i.ensures in
    let v = walk_is _ _ _ _ _ _ _ g.walk i c.execute_instruction-done.ensures.performed in (
      (c.execute_instruction-done.auto.window ∙ c.loop-left.invariant.0.0, c.execute_instruction-done.auto.window2 ∙ c.loop-left.invariant.0.1),
      goes_index _ _ _ _ _ _ _ g c.if-k-s.true c.index_from-k.ensures.1 (λ l x. walk_next _ _ _ _ _ _ _ g.walk v c.execute_instruction-done.result refl (sym c.steady.ensures ∙ c.if-not-steady.false) c.execute_instruction-done.ensures.steady (omega (arith, c.if-left-eq0.false)) _ x l) c.wrapping_add_u32-next.ensures.value,
    )

pub place_at-at-requires : goal.place_at-at-requires
place_at-at-requires c = let g = c.loop-left.invariant.1 in (g.walk.span.spans, g.by_record, c.requires.guides.marks_hold)

pub shape_of-window-then-s-at : goal.shape_of-window-then-s-at
shape_of-window-then-s-at c = c.execute_instruction-done.auto.window ∙ c.loop-left.invariant.0.0

pub shape_of-window2-then-s-at : goal.shape_of-window2-then-s-at
shape_of-window2-then-s-at c = c.execute_instruction-done.auto.window2 ∙ c.loop-left.invariant.0.1

pub returns-then-s-at : goal.returns-then-s-at
returns-then-s-at c =
    let g = c.loop-left.invariant.1 in
    let i = goes_read _ _ _ _ _ _ _ g c.read_record-i.ensures in
    ends_made _ _ _ _ _ g.walk.stands (walk_is _ _ _ _ _ _ _ g.walk i c.execute_instruction-done.ensures.performed) _ (sym c.ending_of-ending.ensures) c.in-Ok.field-0 c.in-Ok.is

pub next_after-next-requires-in-loop-left : goal.next_after-next-requires-in-loop-left
next_after-next-requires-in-loop-left c = let g = c.loop-left.invariant.1 in let y = g.walk.span.lies in omega (arith, y.ends, y.inside, c.if-s-at.false)

pub loop-left-smaller : goal.loop-left-smaller
loop-left-smaller c = let w = c.loop-left.invariant.1.walk in omega (arith, w.stands.some)

pub loop-left-preserved : goal.loop-left-preserved
loop-left-preserved c =
    let g = c.loop-left.invariant.1 in
    let i = goes_read _ _ _ _ _ _ _ g c.read_record-i.ensures in
    let v = walk_is _ _ _ _ _ _ _ g.walk i c.execute_instruction-done.ensures.performed in (
      (c.execute_instruction-done.auto.window ∙ c.loop-left.invariant.0.0, c.execute_instruction-done.auto.window2 ∙ c.loop-left.invariant.0.1),
      goes_place _ _ _ _ _ _ _ g.walk.span.lies (place_end c.args.image.now c.args.s c.args.guide g.walk.span.lies c.args.marks.now _ _ _ _ c.place_at-at.ensures) c.if-s-at.false (place_in c.args.image.now c.args.s c.args.guide g.walk.span.lies c.args.marks.now _ _ _ _ c.place_at-at.ensures g.by_record)
          (λ k l x. walk_next _ _ _ _ _ _ _ g.walk v c.execute_instruction-done.result refl (sym c.steady.ensures ∙ c.if-not-steady.false) c.execute_instruction-done.ensures.steady (omega (arith, c.if-left-eq0.false)) k x l)
          c.next_after-next-in-loop-left.ensures,
    )

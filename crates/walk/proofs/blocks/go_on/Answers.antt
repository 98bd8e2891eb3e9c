use mathlib.Core.Path.{sym, ◌∙◌}
use native.Mathlib.Omega.{arith}
use Rattle.walk.proofs.Walks.{turn_start, filled, on, trapped, unmade, ended}
use Rattle.walk.proofs.Promises.{goes, goes_last, window_long}
use Rattle.walk.proofs.blocks.go_on.Goals as goal

pub loop-made-init : goal.loop-made-init
loop-made-init c = turn_start _ _ _ _ _ _ (window_long c.args.w c.well_formed.1.0)

pub returns-then-at-gt-FULL : goal.returns-then-at-gt-FULL
returns-then-at-gt-FULL c =
    let t = c.loop-made.invariant in
    let l = c.loop-made-test.true in
    let t = goes _ _ c.requires (filled _ _ _ _ _ _ t l c.if-at-gt-FULL.true) (λ n. omega (arith, c.if-at-gt-FULL.true, t.wrote.room)) (λ n. omega (arith, l)) in
    record { placed = t.0; part = t.1.0; onward = t.1.1 }

pub put_line-at-requires : goal.put_line-at-requires
put_line-at-requires c = omega (arith, c.if-at-gt-FULL.false)

pub overflow_add-made : goal.overflow_add-made
overflow_add-made c = omega (arith, c.loop-made-test.true)

pub put_end-trapped-requires : goal.put_end-trapped-requires
put_end-trapped-requires c = omega (arith, c.if-at-gt-FULL.false, c.put_line-at.ensures.room, c.put_line-at.ensures.size)

pub returns-then-is_trap : goal.returns-then-is_trap
returns-then-is_trap c = let t = goes_last _ _ c.requires (trapped _ _ _ _ _ _ c.loop-made.invariant c.loop-made-test.true c.if-at-gt-FULL.false c.no_ranges-ranges.ensures c.step_alone-s.ensures c.in-Ok.is c.put_line-at.ensures (sym c.is_trap.ensures ∙ c.if-is_trap.true) c.put_end-trapped.ensures) in record { placed = t.0; part = t.1.0; onward = t.1.1 }

pub loop-made-smaller : goal.loop-made-smaller
loop-made-smaller c = omega (arith, c.loop-made-test.true)

pub loop-made-preserved : goal.loop-made-preserved
loop-made-preserved c = on _ _ _ _ _ _ c.loop-made.invariant c.loop-made-test.true c.if-at-gt-FULL.false c.no_ranges-ranges.ensures c.step_alone-s.ensures c.in-Ok.is c.step_alone-s.auto.window c.put_line-at.ensures (sym c.is_trap.ensures ∙ c.if-is_trap.false)

pub put_unmade-last-requires : goal.put_unmade-last-requires
put_unmade-last-requires c = omega (arith, c.if-at-gt-FULL.false)

pub returns-in-Err : goal.returns-in-Err
returns-in-Err c = let t = goes_last _ _ c.requires (unmade _ _ _ _ _ _ c.loop-made.invariant c.loop-made-test.true c.if-at-gt-FULL.false c.no_ranges-ranges.ensures c.step_alone-s.ensures c.in-Err.is c.put_unmade-last.ensures) in record { placed = t.0; part = t.1.0; onward = t.1.1 }

pub returns : goal.returns
returns c = let t = goes_last _ _ c.requires (ended _ _ _ _ _ _ c.loop-made.invariant c.loop-made-test.false c.put_end-end.ensures) in record { placed = t.0; part = t.1.0; onward = t.1.1 }

pub slice_bounds-step_alone-end : goal.slice_bounds-step_alone-end
slice_bounds-step_alone-end c = sym c.loop-made.invariant.size

pub put_end-end-requires : goal.put_end-end-requires
put_end-end-requires c = omega (arith, c.loop-made.invariant.bound)

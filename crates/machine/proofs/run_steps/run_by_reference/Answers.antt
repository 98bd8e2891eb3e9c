use Rattle.std.proofs.Common.{sym, refl, ◌∙◌, arith}
use Rattle.machine.proofs.Loops.{turn_first, turn_interrupt, stop_interrupt, turn_instructions, stop_instructions, turn_end}
use Rattle.machine.proofs.run_steps.run_by_reference.Goals as goal

pub loop-left-init : goal.loop-left-init
loop-left-init c = ((refl, refl), turn_first _ _ _ _ _ _ _ c.requires.ready c.first_source-best.ensures)

pub overflow_sub-result : goal.overflow_sub-result
overflow_sub-result c = omega (arith, c.loop-left.invariant.1.most)

pub returns-in_default : goal.returns-in_default
returns-in_default c = rw c.in_default.is (stop_interrupt _ _ _ _ _ _ c.loop-left.invariant.1 (omega (arith, c.loop-left-test.true)) (sym c.taken.ensures ∙ c.if-taken.true) c.interrupt.ensures _ (sym c.passed_on-ending.ensures ∙ c.in_default.is))

pub overflow_sub-left : goal.overflow_sub-left
overflow_sub-left c = omega (arith, c.loop-left-test.true)

pub loop-left-smaller-then-taken : goal.loop-left-smaller-then-taken
loop-left-smaller-then-taken c = omega (arith, c.loop-left-test.true)

pub loop-left-preserved-then-taken : goal.loop-left-preserved-then-taken
loop-left-preserved-then-taken c = ((c.interrupt.auto.window ∙ c.loop-left.invariant.0.0, c.interrupt.auto.window2 ∙ c.loop-left.invariant.0.1), turn_interrupt _ _ _ _ _ _ c.loop-left.invariant.1 (omega (arith, c.loop-left-test.true)) (sym c.taken.ensures ∙ c.if-taken.true) c.interrupt.ensures _ (sym c.passed_on-ending.ensures ∙ c.in-Ok.is) _ c.clear.ensures _ c.best_source-best.ensures.0)

pub instructions-p-requires : goal.instructions-p-requires
instructions-p-requires c = record { ready = c.loop-left.invariant.1.ready; guides = c.requires.guides; n_nonzero = omega (arith, c.loop-left-test.true) }

pub overflow_sub-result-in_default-ending : goal.overflow_sub-result-in_default-ending
overflow_sub-result-in_default-ending c = let a = c.instructions-p.ensures.most in omega (arith, c.loop-left.invariant.1.most)

pub returns-in_default-ending : goal.returns-in_default-ending
returns-in_default-ending c = rw c.in_default-ending.is (stop_instructions _ _ _ _ _ _ c.loop-left.invariant.1 (omega (arith, c.loop-left-test.true)) (sym c.taken.ensures ∙ c.if-taken.false) c.instructions-p.ensures _ c.in_default-ending.is)

pub loop-left-smaller : goal.loop-left-smaller
loop-left-smaller c = c.instructions-p.ensures.some _ c.in-Ok-ending.is

pub loop-left-preserved : goal.loop-left-preserved
loop-left-preserved c = ((c.instructions-p.auto.window ∙ c.loop-left.invariant.0.0, c.instructions-p.auto.window2 ∙ c.loop-left.invariant.0.1), turn_instructions _ _ _ _ _ _ c.loop-left.invariant.1 (omega (arith, c.loop-left-test.true)) (sym c.taken.ensures ∙ c.if-taken.false) c.instructions-p.ensures _ c.in-Ok-ending.is)

pub returns : goal.returns
returns c = turn_end _ _ _ _ _ _ c.loop-left.invariant.1 (omega (arith, c.loop-left-test.false))

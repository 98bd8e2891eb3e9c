use mathlib.Core.Path.{refl, sym, ◌∙◌}
use borrow.Author.Count.{below_more}
use Rattle.protection.proofs.Searches.{none, lowest_is, found}
use native.Mathlib.Omega.{arith}
use Rattle.protection.proofs.range.search.Goals as goal
use Rattle.std.specs.Prelude.{None, Some}

pub loop-i-preserved : goal.loop-i-preserved
loop-i-preserved c = below_more _ _ c.loop-i.invariant (sym c.permitting.ensures ∙ c.if-permitting.false)

pub returns-then-permitting : goal.returns-then-permitting
returns-then-permitting c = lowest_is _ _ _ _ (Some _) (found _ _ _ _ _ _ _ c.first-from.ensures.0 c.loop-i-test.true refl (sym c.permitting.ensures ∙ c.if-permitting.true) c.loop-i.invariant)

pub returns-after-loop-i : goal.returns-after-loop-i
returns-after-loop-i c = lowest_is _ _ _ _ None (rw (← c.first-from.ensures.0) (none _ _ _ 4 _ (λ j h. c.loop-i.invariant j (omega arith))))

use mathlib.Core.Path.{◌≡◌, refl, ◌∙◌}
use Rattle.interrupts.specs.Sources.{best_below}
use Rattle.interrupts.proofs.Sources.{turn, best_is}
use native.Mathlib.Omega.{arith}
use Rattle.interrupts.proofs.best_source.Goals as goal

pub loop-i-init : goal.loop-i-init
unfolding best_below
loop-i-init c = refl

pub loop-i-preserved : goal.loop-i-preserved
loop-i-preserved c = c.better-b.ensures ∙ turn _ _ _ c.loop-i.invariant

pub returns : goal.returns
returns c = let e : c.loop-i.i ≡ 16 = omega arith in best_is _ _ cc

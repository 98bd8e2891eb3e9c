use Rattle.std.proofs.Common.{sym, ◌∙◌}
use Rattle.machine.proofs.Loops.{foremost_none, foremost_several, foremost_enabled}
use Rattle.machine.proofs.run_steps.first_source.Goals as goal
use Rattle.machine.proofs.run_steps.first_source.Goals.{then-n-eq1+else-not-enabled, else-n-eq1}

pub returns-then-not-enabled : goal.returns-then-not-enabled
returns-then-not-enabled c = foremost_none _ _ _ c.if-n-eq1.true (sym c.enabled.ensures ∙ c.if-not-enabled.true)

pub returns : goal.returns
returns c =
    c.best_source.ensures.0
    ∙ elim c.if-n-eq1.branch [
      | then-n-eq1+else-not-enabled w ↦ foremost_enabled _ _ _ (sym w.enabled.ensures ∙ w.if-not-enabled.false)
      | else-n-eq1 w ↦ foremost_several _ _ _ w.if-n-eq1.false
    ]

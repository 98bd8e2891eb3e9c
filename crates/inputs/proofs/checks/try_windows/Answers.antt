use mathlib.Core.Path.{sym, ◌∙◌}
use Rattle.inputs.specs.Checks.{windows_verdict}
use Rattle.inputs.proofs.Windows.{window_right, second_most}
use Rattle.inputs.proofs.checks.try_windows.Goals.{then-not-window_holds-via-then-not-window_holds, then-not-window_holds-via-else-not-window_holds+then-not-second_holds}
use Rattle.inputs.proofs.checks.try_windows.Goals as goal

pub returns-then-not-window_holds : goal.returns-then-not-window_holds
unfolding windows_verdict
returns-then-not-window_holds c =
    elim c.then-not-window_holds.branch [
      | then-not-window_holds-via-then-not-window_holds w ↦ rw (← c.window_holds.ensures, w.if-not-window_holds.true)
      | then-not-window_holds-via-else-not-window_holds+then-not-second_holds w ↦ rw (← c.window_holds.ensures, w.if-not-window_holds.false, ← w.second_holds.ensures, w.if-not-second_holds.true)
    ]

pub apart_holds-requires : goal.apart_holds-requires
apart_holds-requires c = (
  (window_right _ _ (sym c.window_holds.ensures ∙ c.if-not-window_holds.false)).most,
  second_most _ _ (sym c.second_holds.ensures ∙ c.if-not-second_holds.false),
)

pub returns-then-not-apart_holds : goal.returns-then-not-apart_holds
unfolding windows_verdict
returns-then-not-apart_holds c = rw (← c.window_holds.ensures, c.if-not-window_holds.false, ← c.second_holds.ensures, c.if-not-second_holds.false, ← c.apart_holds.ensures, c.if-not-apart_holds.true)

pub returns : goal.returns
unfolding windows_verdict
returns c = rw (← c.window_holds.ensures, c.if-not-window_holds.false, ← c.second_holds.ensures, c.if-not-second_holds.false, ← c.apart_holds.ensures, c.if-not-apart_holds.false)

use Rattle.inputs.proofs.Single.{lists_verdict_exactly}
use Rattle.inputs.proofs.checks.check_lists.Goals as goal

pub returns-clause-verdict : goal.returns-clause-verdict
returns-clause-verdict c = lists_verdict_exactly _ _ _ _ (rw (← c.check_windows.ensures.verdict.0, c.in_ok-check_windows.was) c.try_lists.ensures)

use Rattle.std.proofs.Common.{◌≡◌, rules}
use Rattle.std.specs.Prelude.{Err}
use Rattle.memory.specs.Memory.{lent}
use Rattle.image.specs.Records.{without_long}
use Rattle.inputs.specs.Checks.{step_verdict}
use Rattle.inputs.proofs.Verdicts.{step_exactly}
use Rattle.inputs.proofs.checks.scan_step.Goals as goal

pub returns-in_err-check_windows-clause-verdict : goal.returns-in_err-check_windows-clause-verdict
unfolding step_verdict
returns-in_err-check_windows-clause-verdict c =
    let a = c.args in
    let m = lent a.base a.window.now a.base2 a.window2.now in
    let r : c.from_residual.result ≡ Err c.in_err-check_windows.field-0.0 = search rules in
    let e : Err c.in_err-check_windows.field-0.0 ≡ step_verdict m a.image.now a.pc = rw (← c.check_windows.ensures.verdict.0, c.in_err-check_windows.was) in
    let x = step_exactly m a.image.now a.pc _ e in
    rw r (x.0, x.1, tt)

pub returns-clause-verdict : goal.returns-clause-verdict
unfolding step_verdict
returns-clause-verdict c =
    let a = c.args in
    let m = lent a.base a.window.now a.base2 a.window2.now in
    let e : without_long c.try_code.result ≡ step_verdict m a.image.now a.pc = rw (← c.check_windows.ensures.verdict.0, c.in_ok-check_windows.was) c.try_code.ensures.0 in
    let x = step_exactly m a.image.now a.pc _ e in
    (x.0, x.1, c.try_code.ensures.1)

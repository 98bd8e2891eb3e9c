use Rattle.std.proofs.Common.{◌≡◌, rules}
use Rattle.memory.specs.Memory.{lent}
use Rattle.inputs.specs.Checks.{start_verdict}
use Rattle.inputs.proofs.Verdicts.{start_exactly}
use Rattle.inputs.proofs.checks.try_start.Goals as goal

pub returns-in_err-try_step-clause-verdict : goal.returns-in_err-try_step-clause-verdict
unfolding start_verdict
returns-in_err-try_step-clause-verdict c =
    let a = c.args in
    let m = lent a.base a.window.now a.base2 a.window2.now in
    let e : c.from_residual.result ≡ start_verdict m a.image.now a.pc a.fcx a.pcxi = rw (← c.try_step.ensures.verdict.0, c.in_err-try_step.was) (search rules) in
    start_exactly m a.image.now a.pc a.fcx a.pcxi _ e

pub returns-clause-verdict : goal.returns-clause-verdict
unfolding start_verdict
returns-clause-verdict c =
    let a = c.args in
    let m = lent a.base a.window.now a.base2 a.window2.now in
    let e : c.try_lists.result ≡ start_verdict m a.image.now a.pc a.fcx a.pcxi = rw (← c.try_step.ensures.verdict.0, c.in_ok-try_step.was) c.try_lists.ensures in
    start_exactly m a.image.now a.pc a.fcx a.pcxi _ e

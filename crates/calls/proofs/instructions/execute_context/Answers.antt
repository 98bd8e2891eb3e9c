use Rattle.calls.specs.Instructions.{context_op}
use Rattle.calls.proofs.Told.{call_told, lower_told}
use Rattle.calls.proofs.instructions.execute_context.Goals as goal

pub returns-in-Call : goal.returns-in-Call
returns-in-Call c =
    let g = c.args in
    rw (call_told g.i g.registers.now c.target-to.result _ c.target-to.ensures.0 c.target-to.ensures.1 c.in-Call.is, c.passed_on.ensures) c.call.ensures

pub returns-in-Ret : goal.returns-in-Ret
unfolding context_op
returns-in-Ret c = rw (c.in-Ret.is, c.passed_on-in-Ret.ensures) c.ret.ensures

pub returns-in-Rfe : goal.returns-in-Rfe
unfolding context_op
returns-in-Rfe c = rw c.in-Rfe.is c.rfe.ensures

pub returns-in-Svlcx : goal.returns-in-Svlcx
returns-in-Svlcx c = rw (lower_told _ _ c.is_bisr.result _ c.is_bisr.ensures.0 c.is_bisr.ensures.1 c.in-Svlcx.is, c.passed_on-in-Svlcx.ensures) c.save_lower_half.ensures

pub returns-in-Rslcx : goal.returns-in-Rslcx
unfolding context_op
returns-in-Rslcx c = rw (c.in-Rslcx.is, c.passed_on-in-Rslcx.ensures) c.rslcx.ensures

pub returns-in-Syscall : goal.returns-in-Syscall
unfolding context_op
returns-in-Syscall c = rw (c.in-Syscall.is, c.system_call.ensures)

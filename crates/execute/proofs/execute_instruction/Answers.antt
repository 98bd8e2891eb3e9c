use mathlib.Core.Path.{sym, ◌∙◌}
use Rattle.execute.specs.Execute.{finish_of}
use Rattle.execute.proofs.Arms.{executed_as, told, entered}
use Rattle.execute.proofs.execute_instruction.Goals as goal

pub returns-in_default : goal.returns-in_default
returns-in_default c =
    let is = c.perform-how.ensures in
    record { performed = c.finish.ensures ∙ executed_as _ _ _ _ is; steady = entered _ _ _ _ is c.finish.ensures c.in_default.not-Done }

pub returns : goal.returns
unfolding finish_of
returns c =
    let is = c.perform-how.ensures in
    let e = c.in-Done.is in
    record { performed = rw e at (executed_as _ _ _ _ is); steady = sym (rw e at (told _ _ _ _ is)) }

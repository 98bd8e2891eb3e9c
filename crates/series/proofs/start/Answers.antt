use mathlib.Core.Path.{sym, ◌∙◌}
use Rattle.memory.specs.Memory.{lent}
use Rattle.series.specs.Calls.{State, state}
use Rattle.decisions.proofs.Known.{valid_of, bytes_of, joined_bytes}
use Rattle.series.proofs.Starts.{follows, start_even}
use Rattle.series.proofs.start.Goals as goal

pub returns : goal.returns
returns c =
    let s : State = state c.args.registers (lent c.args.base c.args.window.now c.args.base2 c.args.window2.now) in
    let e = c.try_start.ensures.verdict.0 in
    record { verdict = c.try_start.ensures.verdict; follows = λ a. follows s _ (sym e ∙ a) (valid_of c.well_formed.1.1.1.1.1.0 (start_even s _ (sym e ∙ a))) (joined_bytes c.args.window.now c.args.window2.now (bytes_of c.type_inv.window) (bytes_of c.type_inv.window2)) }

use native.Mathlib.Omega.{arith}
use mathlib.Core.Path.{sym, ◌∙◌}
use Rattle.areas.proofs.Places.{lies_first, lies_second}
use Rattle.areas.proofs.Parts.{part_64, first_is, second_is, neither_is}
use Rattle.areas.proofs.area.area.Goals as goal

pub overflow_add-result : goal.overflow_add-result
overflow_add-result c =
    let a = c.args in
    let h = lies_first a.window.now a.window2.now _ _ _ _ _ (sym c.in-First.is ∙ c.spot_of.ensures) in
    omega arith

pub slice_bounds-result-end : goal.slice_bounds-result-end
slice_bounds-result-end c =
    let a = c.args in
    lies_first a.window.now a.window2.now _ _ _ _ _ (sym c.in-First.is ∙ c.spot_of.ensures)

pub returns-in-First : goal.returns-in-First
returns-in-First c =
    let a = c.args in
    part_64 c.in-First.at a.window.now ∙ first_is a.window.now a.window2.now _ _ _ _ (sym c.in-First.is ∙ c.spot_of.ensures)

pub overflow_add-result-in-Second : goal.overflow_add-result-in-Second
overflow_add-result-in-Second c =
    let a = c.args in
    let h = (lies_second a.window.now a.window2.now _ _ _ _ _ (sym c.in-Second.is ∙ c.spot_of.ensures)).0 in
    omega arith

pub slice_bounds-result-end-in-Second : goal.slice_bounds-result-end-in-Second
slice_bounds-result-end-in-Second c =
    let a = c.args in
    (lies_second a.window.now a.window2.now _ _ _ _ _ (sym c.in-Second.is ∙ c.spot_of.ensures)).0

pub returns-in-Second : goal.returns-in-Second
returns-in-Second c =
    let a = c.args in
    part_64 c.in-Second.at a.window2.now ∙ second_is a.window.now a.window2.now _ _ _ _ (sym c.in-Second.is ∙ c.spot_of.ensures)

pub returns-in-Neither : goal.returns-in-Neither
returns-in-Neither c =
    let a = c.args in
    neither_is a.window.now a.window2.now _ _ _ (sym c.in-Neither.is ∙ c.spot_of.ensures)

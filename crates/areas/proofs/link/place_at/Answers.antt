use native.Mathlib.Omega.{arith}
use mathlib.Core.Path.{sym, ◌∙◌}
use Rattle.areas.proofs.Places.{place_of_spot, lies_second}
use Rattle.areas.proofs.link.place_at.Goals as goal

pub overflow_add-result : goal.overflow_add-result
overflow_add-result c =
    let p = c in
    let f = lies_second p.args.window.now p.args.window2.now _ _ _ _ _ (sym c.in-Second.is ∙ c.spot_at.ensures) in
    omega (arith, f.1, p.well_formed)

pub returns-in-First : goal.returns-in-First
returns-in-First c =
    let a = c.args in
    place_of_spot a.window.now a.window2.now _ _ _ _ _ (sym c.in-First.is ∙ c.spot_at.ensures)

pub returns-in-Second : goal.returns-in-Second
returns-in-Second c =
    let a = c.args in
    place_of_spot a.window.now a.window2.now _ _ _ _ _ (sym c.in-Second.is ∙ c.spot_at.ensures)

pub returns-in-Neither : goal.returns-in-Neither
returns-in-Neither c =
    let a = c.args in
    place_of_spot a.window.now a.window2.now _ _ _ _ _ (sym c.in-Neither.is ∙ c.spot_at.ensures)

use mathlib.Core.Path.{sym, ◌∙◌}
use Rattle.areas.proofs.Places.{spot_first, spot_second, spot_neither}
use Rattle.areas.proofs.link.spot_at.Goals as goal

pub returns-in-Some : goal.returns-in-Some
returns-in-Some c =
    let a = c.args in
    spot_first a.window.now a.window2.now _ _ _ _ _ (sym c.place_in.ensures ∙ c.in-Some.is)

pub returns-in-Some-place_in : goal.returns-in-Some-place_in
returns-in-Some-place_in c =
    let a = c.args in
    spot_second a.window.now a.window2.now _ _ _ _ _
    (sym c.place_in.ensures ∙ c.in_default.is)
    (sym c.place_in-in_default.ensures ∙ c.in-Some-place_in.is)

pub returns-in_default-place_in : goal.returns-in_default-place_in
returns-in_default-place_in c =
    let a = c.args in
    spot_neither a.window.now a.window2.now _ _ _ _
    (sym c.place_in.ensures ∙ c.in_default.is)
    (sym c.place_in-in_default.ensures ∙ c.in_default-place_in.is)

use mathlib.Core.Path.{sym, ap, ◌∙◌}
use mathlib.Core.List.{◌++◌}
use Rattle.std.proofs.Common.{Ok}
use Rattle.accesses.proofs.Reaches.{reach_spot}
use Rattle.accesses.proofs.load.read.Goals as goal

pub load-requires : goal.load-requires
load-requires g c =
    let e = rw c.SIZE.ensures at (sym c.reach_data.ensures ∙ c.in_ok-reach_data.was) in
    let x = rw c.SIZE-2.ensures at c.spot_at-at.ensures in
    (reach_spot c.args.window.now c.args.window2.now _ _ _ _ _ _ _ _ _ _ _ x e).0

pub returns-clause-value : goal.returns-clause-value
returns-clause-value g c =
    let e = rw c.SIZE.ensures at (sym c.reach_data.ensures ∙ c.in_ok-reach_data.was) in
    let x = rw c.SIZE-2.ensures at c.spot_at-at.ensures in
    rw e (ap Ok (c.load.ensures.0 ∙ ap (g.W.Width.read (c.args.window.now ++ c.args.window2.now)) (reach_spot c.args.window.now c.args.window2.now _ _ _ _ _ _ _ _ _ _ _ x e).1))

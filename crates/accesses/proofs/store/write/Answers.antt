use mathlib.Core.Path.{sym, ◌∙◌}
use mathlib.Core.List.{◌++◌}
use Rattle.accesses.proofs.Reaches.{reach_spot, put_at}
use Rattle.accesses.proofs.store.write.Goals as goal

pub store-requires : goal.store-requires
store-requires g c =
    let e = rw c.SIZE.ensures at (sym c.reach_data.ensures ∙ c.in_ok-reach_data.was) in
    let x = rw c.SIZE-2.ensures at c.spot_at-at.ensures in
    (reach_spot c.args.window.now c.args.window2.now _ _ _ _ _ _ _ _ _ _ _ x e).0

pub returns-clause-written : goal.returns-clause-written
returns-clause-written g c =
    let e = rw c.SIZE.ensures at (sym c.reach_data.ensures ∙ c.in_ok-reach_data.was) in
    let x = rw c.SIZE-2.ensures at c.spot_at-at.ensures in
    rw e (put_at g.W.Width.put (c.args.window.now ++ c.args.window2.now) c.store.ensures.written (reach_spot c.args.window.now c.args.window2.now _ _ _ _ _ _ _ _ _ _ _ x e).1)

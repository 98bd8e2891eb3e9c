use mathlib.Core.Path.{sym, ap, ◌∙◌}
use Rattle.areas.proofs.Places.{spot_at_place}
use Rattle.contexts.specs.Restore.{return_of}
use Rattle.contexts.proofs.Returns.{return_made}
use Rattle.contexts.proofs.restore.restore.Goals as goal
use Rattle.std.specs.Prelude.{Some}

pub load-requires : goal.load-requires
load-requires c =
    let p = rw c.link_of-link.ensures at (sym c.locate.ensures ∙ c.in-Some.is) in
    let r = spot_at_place c.args.window.now c.args.window2.now c.args.base c.args.base2 _ _ (rw c.link_of-link.ensures at c.spot_of-at.ensures) _ p in
    record { lies = r.0; found = p ∙ ap Some (sym r.1) }

pub returns-in_default : goal.returns-in_default
unfolding return_of
returns-in_default c = rw (sym (rw c.link_of-link.ensures at c.locate.ensures) ∙ c.in_default.is)

pub returns : goal.returns
returns c =
    let p = rw c.link_of-link.ensures at (sym c.locate.ensures ∙ c.in-Some.is) in
    let r = spot_at_place c.args.window.now c.args.window2.now c.args.base c.args.base2 _ _ (rw c.link_of-link.ensures at c.spot_of-at.ensures) _ p in
    return_made _ _ c.args.window.now c.args.window2.now _ _ _ c.spot_of-at.result p r.1 _ _ _ c.load.ensures.loaded c.load.ensures.length_kept

use mathlib.Core.Path.{◌≡◌, refl, sym, ap, ◌∙◌}
use lib.ListN.{length}
use Rattle.walk.specs.Start.{linked, start_bytes}
use Rattle.walk.proofs.Starts.{linked_length, link_turn}
use native.Mathlib.Omega.{arith}
use Rattle.walk.proofs.start.start_window.Goals as goal

pub loop-k-init : goal.loop-k-init
unfolding linked
loop-k-init c = refl

pub slice_bounds-put_word-end : goal.slice_bounds-put_word-end
slice_bounds-put_word-end c = sym (ap length c.loop-k.invariant ∙ linked_length _)

pub put_word-requires : goal.put_word-requires
put_word-requires c =
    let e = ap length c.loop-k.invariant ∙ linked_length _ in
    omega arith

pub loop-k-preserved : goal.loop-k-preserved
loop-k-preserved c = link_turn _ _ _ _ c.loop-k.invariant c.link_after.ensures c.put_word.ensures

pub returns : goal.returns
unfolding start_bytes
returns c = let e : c.loop-k.k ≡ 64 = omega arith in c.loop-k.invariant ∙ ap linked e

use Prim.Native.Nat.{◌/◌}
use mathlib.Core.Path.{◌≡◌, refl, sym, ap, ◌∙◌}
use mathlib.Core.Bool.{true}
use native.Mathlib.Omega.{arith}
use lib.ListN.{length, set, length-set}
use Rattle.memory.specs.Memory.{lent}
use Rattle.fields.specs.Link.{link_of}
use Rattle.areas.specs.Link.{area_address}
use Rattle.areas.specs.Place.{place_of}
use Rattle.lists.specs.Walk.{list_walk}
use Rattle.fields.specs.declared.link.Link.{Link}
use Rattle.areas.proofs.Places.{placed_at_lem}
use Rattle.areas.proofs.Parts.{first_word_placed}
use Rattle.lists.proofs.Walks.{walk_whole, walk_outside, walk_again}
use Rattle.lists.proofs.Fuel.{unmet_set, mark_in, walk_next}
use Rattle.lists.proofs.walk.Goals as goal
use Rattle.std.specs.Prelude.{None, Some}

pub returns-in_default : goal.returns-in_default
returns-in_default c =
    let a = c.args in
    let l = c.loop-l in
    let m = lent a.base a.window.now a.base2 a.window2.now in
    let p : place_of m l.l ≡ None = cc in
    sym (walk_outside 2048 m l.l l.met c.loop-l-test.true p) ∙ l.invariant.1

pub returns-then-met-k : goal.returns-then-met-k
returns-then-met-k c =
    let m = lent c.args.base c.args.window.now c.args.base2 c.args.window2.now in
    let l = c.loop-l in
    let p = c.in-Some.at in
    let found : place_of m l.l ≡ Some p = cc in
    sym (walk_again 2048 m l.l l.met c.loop-l-test.true p found c.if-met-k.true) ∙ l.invariant.1

pub loop-l-smaller : goal.loop-l-smaller
loop-l-smaller c =
    let m = lent c.args.base c.args.window.now c.args.base2 c.args.window2.now in
    let l = c.loop-l in
    let p = c.in-Some.at in
    let found : place_of m l.l ≡ Some p = cc in
    omega (arith, unmet_set l.met (p / 64) (mark_in m l.l l.met p c.requires.0 l.invariant.0 found) c.if-met-k.false)

pub loop-l-preserved : goal.loop-l-preserved
loop-l-preserved c =
    let m = lent c.args.base c.args.window.now c.args.base2 c.args.window2.now in
    let l = c.loop-l in
    let p = c.in-Some.at in
    let found : place_of m l.l ≡ Some p = cc in
    let on = walk_next m l.l l.met p c.requires.0 l.invariant.0 c.loop-l-test.true found c.if-met-k.false in (
      simp length-set l.invariant.0,
      ap (λ (k : Link). list_walk 2049 m k (set l.met (p / 64) true)) (c.next_link-l.ensures ∙ ap link_of (first_word_placed m l.l p found)) ∙ sym on ∙ l.invariant.1,
    )

pub returns : goal.returns
returns c =
    let a = c.args in
    let l = c.loop-l in
    sym (walk_whole 2048 (lent a.base a.window.now a.base2 a.window2.now) l.l l.met c.loop-l-test.false) ∙ l.invariant.1

pub loop-l-init : goal.loop-l-init
loop-l-init c = (c.requires.1, refl)

pub bounds-met-k : goal.bounds-met-k
bounds-met-k c =
    let m = lent c.args.base c.args.window.now c.args.base2 c.args.window2.now in
    let l = c.loop-l in
    let p = c.in-Some.at in
    let found : place_of m l.l ≡ Some p = cc in
    omega (arith, (placed_at_lem m.windows (length m.bytes) (area_address l.l) p found).inside, c.requires.0)

pub bounds-met-k-in-loop-l : goal.bounds-met-k-in-loop-l
bounds-met-k-in-loop-l c =
    let m = lent c.args.base c.args.window.now c.args.base2 c.args.window2.now in
    let l = c.loop-l in
    let p = c.in-Some.at in
    let found : place_of m l.l ≡ Some p = cc in
    omega (arith, (placed_at_lem m.windows (length m.bytes) (area_address l.l) p found).inside, c.requires.0)

pub next_link-l-requires : goal.next_link-l-requires
next_link-l-requires c =
    let m = lent c.args.base c.args.window.now c.args.base2 c.args.window2.now in
    let l = c.loop-l in
    let p = c.in-Some.at in
    let found : place_of m l.l ≡ Some p = cc in
    (p, found)

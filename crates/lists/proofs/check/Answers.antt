use Rattle.std.proofs.Common.{rules}
use mathlib.Core.Path.{◌≡◌, ap, ◌∙◌}
use mathlib.Core.Bool.{Bool, false}
use Prim.Native.Nat.{ℕ}
use Rattle.std.specs.Prelude.{List, Ok, Result, ⊤}
use lib.ListN.{length, replicate}
use Rattle.memory.specs.Memory.{Memory, lent}
use Rattle.fields.specs.Link.{link_of}
use Rattle.fields.specs.declared.link.Link.{Link}
use Rattle.lists.specs.Walk.{Walked, walked, list_walk, lists_of}
use Rattle.lists.proofs.Fuel.{walk_length}
use Rattle.lists.proofs.Lists.{lists_exactly}
use Rattle.lists.proofs.check.Goals as goal
use Rattle.lists.specs.declared.ListFault.{ListFault}

pub walk-requires-2 : goal.walk-requires-2
walk-requires-2 c =
    let a = c.args in
    let n = walk_length 2049 (lent a.base a.window.now a.base2 a.window2.now) c.link_of.result (replicate 2048 false) in
    (c.requires, ap (λ (w : Walked). length w.met) c.walk.ensures ∙ n)

-- where the free list is whole, the used one says what the lists come to
both_walked : (m : Memory) (fcx pcxi : ℕ) (first second : Result ⊤ ListFault) (met met2 : List Bool) (free used : Link) → free ≡ link_of fcx → walked first met ≡ list_walk 2049 m free (replicate 2048 false) → first ≡ Ok tt → used ≡ link_of pcxi → walked second met2 ≡ list_walk 2049 m used met → second ≡ lists_of m fcx pcxi
unfolding lists_of
both_walked m fcx pcxi first second met met2 free used f w is u v = rw (← f, ← w, is) (ap (λ (x : Walked). x.end) v ∙ ap (λ (k : Link). (list_walk 2049 m k met).end) u)

pub returns-in_err-walk : goal.returns-in_err-walk
unfolding lists_of
returns-in_err-walk c =
    let a = c.args in
    lists_exactly (lent a.base a.window.now a.base2 a.window2.now) c.requires a.fcx a.pcxi _ (rw (← c.link_of.ensures, ← c.walk.ensures, c.in_err-walk.was) (search rules))

pub returns : goal.returns
returns c =
    let a = c.args in
    let m = lent a.base a.window.now a.base2 a.window2.now in
    lists_exactly m c.requires a.fcx a.pcxi _ (both_walked m a.fcx a.pcxi _ _ _ _ _ _ c.link_of.ensures c.walk.ensures c.in_ok-walk.was c.link_of-2.ensures c.walk-2.ensures)

-- The check of the lists, link by link. Of each area of the two windows `met` says whether it was met.
use Rattle.std.specs.Prelude.{ℕ, zero, suc, ◌/◌, Bool, true, false, cond, List, get_or, set, replicate, eqb, Err, None, Ok, Option, Result, Some, ⊤}
use Rattle.memory.specs.Memory.{Memory}
use Rattle.memory.specs.Word.{word_at}
use Rattle.fields.specs.Link.{link_of}
use Rattle.areas.specs.Place.{place_of}
use Rattle.fields.specs.declared.link.Link.{Link}
use Rattle.lists.specs.declared.ListFault.{ListFault}
use Rattle.lists.specs.declared.ListFault.TheVariants.{LinkOutside, MetAgain}

-- what a list comes to, and the areas met
pub record Walked : Type 0 where
  pub end : Result ⊤ ListFault
  pub met : List Bool

abbrev pub walked : Result ⊤ ListFault → List Bool → Walked
walked e met = record { end = e; met = met }

-- the link's area: 5 is tried before 6, and `on` goes on from the next link
abbrev pub walk_at : Memory → List Bool → (Link → List Bool → Walked) → Option ℕ → Walked
walk_at m met on None = walked (Err LinkOutside) met
walk_at m met on (Some at) =
    cond (get_or met (at / 64) false) (walked (Err MetAgain) met) (on (link_of (word_at m.bytes at)) (set met (at / 64) true))

-- the list from the link l on, over at most n links. Two windows have 2,048 areas at most, so 2,049 links never run out (proofs/Fuel.antt)
unfoldable pub list_walk : ℕ → Memory → Link → List Bool → Walked
list_walk zero m l met = walked (Err MetAgain) met
list_walk (suc n) m l met = cond (eqb l.0 0) (walked (Ok tt) met) (walk_at m met (list_walk n m) (place_of m l))

-- the used list is followed only where the free one is whole
abbrev pub then_used : Memory → ℕ → Result ⊤ ListFault → List Bool → Result ⊤ ListFault
then_used m pcxi (Ok _) met = (list_walk 2049 m (link_of pcxi) met).end
then_used m pcxi (Err fault) met = Err fault

-- first the free list, from FCX, then the used one, from PCXI, with the areas that the free one met
unfoldable pub lists_of : Memory → ℕ → ℕ → Result ⊤ ListFault
lists_of m fcx pcxi =
    let free = list_walk 2049 m (link_of fcx) (replicate 2048 false) in
    then_used m pcxi free.end free.met

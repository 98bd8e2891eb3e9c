-- The lists in memory, as plain statements. proofs/Lists.antt shows that the check answers exactly these.
use Rattle.std.specs.Prelude.{ℕ, ◌+◌, ◌≤◌, ◌≡◌, cond, List, [], ◌∷◌, eqb, Err, None, Ok, Result, Some, ⊤}
use Rattle.memory.specs.Memory.{Memory}
use Rattle.memory.specs.Word.{word_at}
use Rattle.fields.specs.Link.{link_of}
use Rattle.areas.specs.Place.{place_of}
use Rattle.fields.specs.declared.link.Link.{Link}
use Rattle.lists.specs.declared.ListFault.{ListFault}
use Rattle.lists.specs.declared.ListFault.TheVariants.{LinkOutside, MetAgain}

-- from the link l the links ls are met, in order, and then the link r: one of the windows has each of ls, and the first word of its area has the link after it
abbrev pub Leads : Memory → Link → List Link → Link → Type 0
Leads m l [] r = l ≡ r
Leads m l (k ∷ ks) r =
    (l ≡ k) × (l.0 ≡ 0 → ⊥) × (at : ℕ) × (place_of m l ≡ Some at) × Leads m (link_of (word_at m.bytes at)) ks r

-- how often a link stands in a list
unfoldable pub one : Link → Link → ℕ
one l k = cond (eqb l.0 k.0) 1 0

abbrev pub count : Link → List Link → ℕ
count l [] = 0
count l (k ∷ ks) = one l k + count l ks

-- rules 5 and 6 hold: each list ends at link 0, with every link before it in one of the windows, and no area stands on them twice
pub record Sound (m : Memory) (fcx pcxi : ℕ) : Type 0 where
  pub free : List Link
  pub used : List Link
  pub free_linked : (r : Link) × Leads m (link_of fcx) free r × (r.0 ≡ 0)
  pub used_linked : (r : Link) × Leads m (link_of pcxi) used r × (r.0 ≡ 0)
  pub once : (l : Link) → count l free + count l used ≤ 1

-- why a walk ends at the link r, after the links of `before` and `met`
abbrev pub Why : Memory → List Link → List Link → Link → Result ⊤ ListFault → Type 0
Why m before met r (Ok _) = r.0 ≡ 0
Why m before met r (Err LinkOutside) = (r.0 ≡ 0 → ⊥) × (place_of m r ≡ None)
Why m before met r (Err MetAgain) = (r.0 ≡ 0 → ⊥) × (at : ℕ) × (place_of m r ≡ Some at) × (1 ≤ count r before + count r met)

-- what the list from the link l comes to, with the areas of `before` met already: all areas up to there are met for the first time, so this is the first link at fault
pub record Comes (m : Memory) (before : List Link) (l : Link) (e : Result ⊤ ListFault) : Type 0 where
  pub met : List Link
  pub last : Link
  pub leads : Leads m l met last
  pub first : (k : Link) → count k before + count k met ≤ 1
  pub why : Why m before met last e

-- what the two lists come to: a fault of the free one, or, where that is whole, what the used one comes to after it
pub data ListsCome (m : Memory) (fcx pcxi : ℕ) (e : Result ⊤ ListFault) : Type 0 where
  at_free : (e ≡ (Ok tt) → ⊥) → Comes m [] (link_of fcx) e → ListsCome m fcx pcxi e
  at_used : (free : Comes m [] (link_of fcx) (Ok tt)) → Comes m free.met (link_of pcxi) e → ListsCome m fcx pcxi e

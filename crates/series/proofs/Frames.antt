-- Lists whose areas are as they were are linked as they were.
-- Assumes nothing.
use Prim.Native.Nat.{ℕ, ◌+◌, ◌^◌, ◌≤◌, ◌<◌}
use native.Mathlib.Omega.{arith}
use mathlib.Core.Path.{◌≡◌, sym, ap, ◌∙◌}
use mathlib.Core.List.{List, [], ◌∷◌, ◌++◌}
use lib.ListN.{length}
use Rattle.memory.specs.Memory.{Memory}
use Rattle.memory.specs.Word.{word_at}
use Rattle.fields.specs.Link.{link_of}
use Rattle.fields.proofs.Links.{link_below}
use Rattle.areas.specs.Place.{place_of}
use Rattle.areas.specs.Area.{area_at}
use Rattle.fields.specs.declared.link.Link.{Link}
use Rattle.lists.specs.Lists.{Leads, count}
use Rattle.lists.proofs.Counts.{one_self}
use Rattle.series.specs.Abstract.{SavedContext, held, links}
use Rattle.series.specs.Claim.{end, Stacked}
use Rattle.series.proofs.Areas.{first_same}
use Rattle.std.specs.Prelude.{Some}

pub count_self : (k : Link) (ks : List Link) → 1 ≤ count k (k ∷ ks)
count_self k ks = omega (arith, one_self k)

pub count_both : (l : Link) (ks js : List Link) → count l (ks ++ js) ≡ count l ks + count l js
count_both l [] js = omega arith
count_both l (k ∷ ks) js = omega (arith, count_both l ks js)

module _ (m n : Memory) (base : n.windows ≡ m.windows) (len : length n.bytes ≡ length m.bytes) where
  pub place_same : (l : Link) → place_of n l ≡ place_of m l
  place_same l = rw (base, len)

  -- the areas of some links are as they were
  abbrev pub Unchanged : List Link → Type 0
  Unchanged ks = (k : Link) → k.0 < 2 ^ 20 → 1 ≤ count k ks → (at : ℕ) → place_of m k ≡ Some at → area_at n.bytes at ≡ area_at m.bytes at

  tail : (k : Link) (ks : List Link) → Unchanged (k ∷ ks) → Unchanged ks
  tail k ks f j b c at p = f j b (omega arith) at p

  pub leads_frame : (ks : List Link) (w : ℕ) → Unchanged ks → Leads m (link_of w) ks end → Leads n (link_of w) ks end
  leads_frame [] w f h = h
  leads_frame (k ∷ ks) w f (e, z, at, p, t) =
      let a = f k (link_below w e) (count_self k ks) at (ap (place_of m) (sym e) ∙ p) in
      let g : word_at n.bytes at ≡ word_at m.bytes at = first_same m.bytes n.bytes at a in
      (e, z, at, place_same (link_of w) ∙ p, rw g (leads_frame ks (word_at m.bytes at) (tail k ks f) t))

  pub stacked_frame : (cs : List SavedContext) (w : ℕ) → Unchanged (links cs) → Stacked m w cs → Stacked n w cs
  stacked_frame [] w f h = h
  stacked_frame (c ∷ cs) w f (e, z, u, at, p, v, t) =
      let a = f c.link (link_below w e) (count_self c.link (links cs)) at p in
      let g : word_at n.bytes at ≡ word_at m.bytes at = first_same m.bytes n.bytes at a in
      (e, z, u, at, place_same c.link ∙ p, ap (held c.half) a ∙ v, rw g (stacked_frame cs (word_at m.bytes at) (tail c.link (links cs) f) t))

-- the links of the saved contexts are met in order
pub stacked_leads : (m : Memory) (cs : List SavedContext) (w : ℕ) → Stacked m w cs → Leads m (link_of w) (links cs) end
stacked_leads m [] w h = h
stacked_leads m (c ∷ cs) w (e, z, u, at, p, v, t) =
    (e, (λ q. z (ap (λ (l : Link). l.0) (sym e) ∙ q)), at, ap (place_of m) e ∙ p, stacked_leads m cs (word_at m.bytes at) t)

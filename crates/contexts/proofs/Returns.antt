-- A return as the code makes it: the area read through the lookup is the one that PCXI names.
-- Assumes nothing.
use Prim.Native.Nat.{ℕ}
use mathlib.Core.Path.{◌≡◌, ap, ap₂, ◌∙◌}
use mathlib.Core.List.{List, ◌++◌}
use lib.ListN.{length}
use Rattle.memory.specs.Memory.{windows, Memory, memory, lent}
use Rattle.fields.specs.Link.{link_of}
use Rattle.areas.specs.Place.{place_of, offset}
use Rattle.areas.specs.Area.{area_at, area_of}
use Rattle.fields.specs.declared.link.Link.{Link}
use Rattle.memory.specs.declared.address.Address.{Address}
use Rattle.areas.specs.declared.link.Spot.{Spot}
use Rattle.areas.proofs.Parts.{area_placed, area_64}
use Rattle.registers.specs.Registers.{pcxi}
use Rattle.registers.specs.declared.Registers.{Registers}
use Rattle.contexts.specs.Restore.{Loaded, loaded, loaded_of, returning, return_of}
use Rattle.contexts.specs.declared.context.Half.{Half}
use Rattle.std.specs.Prelude.{Ok, Some}

-- the bytes that are read
module _ (m : Memory) (l k : Link) (at : ℕ) (bytes : List ℕ) (is : bytes ≡ area_of m k) (e : k ≡ l) (p : place_of m l ≡ Some at) where
  pub read_area : bytes ≡ area_at m.bytes at
  read_area = is ∙ ap (area_of m) e ∙ area_placed m l at p

  pub read_64 : length bytes ≡ 64
  read_64 = ap length (is ∙ ap (area_of m) e) ∙ area_64 m l at p

pub return_made : (half : Half) (r : Registers) (s t : List ℕ) (b c : Address) (at : ℕ) (x : Spot) → place_of (lent b s c t) (link_of (pcxi r)) ≡ Some at → offset (length s) x ≡ at
    → (q : Registers) (bytes' : List ℕ) (k : ℕ) → loaded q bytes' ≡ loaded_of half (offset (length s) x) r (s ++ t) → k ≡ length s
    → returning (Ok tt) q (memory (windows b k c) bytes') ≡ return_of half r (lent b s c t)
unfolding return_of
return_made half r s t b c at x p o q bytes' k e h =
    rw p (ap₂ (λ (j : ℕ) (z : Loaded). returning (Ok tt) z.registers (memory (windows b j c) z.bytes)) h (e ∙ ap (λ (i : ℕ). loaded_of half i r (s ++ t)) o))

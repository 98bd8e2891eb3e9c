-- Where bytes lie in the two windows.
use Rattle.std.specs.Prelude.{ℕ, ◌+◌, ◌-◌, ◌≤◌, ◌≡◌, cond, length, ltb, None, Option, Some}
use Rattle.memory.specs.Memory.{Windows, Memory, first_length, second_length}
use Rattle.areas.specs.Link.{area_address}
use Rattle.fields.specs.declared.link.Link.{Link}
use Rattle.memory.specs.declared.address.Address.{Address}
use Rattle.areas.specs.declared.link.Spot.{Spot}
use Rattle.areas.specs.declared.link.Spot.TheVariants.{First, Second, Neither}

-- some bytes from an address on, in one window of len bytes at base: wholly in it, or outside
unfoldable pub placed_in : Address → ℕ → ℕ → Address → Option ℕ
placed_in base len size a =
    cond (ltb a.0 base.0) None (cond (ltb len (a.0 - base.0 + size)) None (Some (a.0 - base.0)))

-- whichever window has them wholly: the first, the second, or neither
abbrev pub either_spot : Option ℕ → Option ℕ → Spot
either_spot (Some at) other = First at
either_spot None (Some at) = Second at
either_spot None None = Neither

-- in which of two windows of len bytes in all they lie, and where in it
unfoldable pub spot_at : Windows → ℕ → ℕ → Address → Spot
spot_at w len size a =
    either_spot (placed_in w.first (first_length w len) size a) (placed_in w.second (second_length w len) size a)

-- their place among the bytes of both windows: the second one's come after the `split` bytes of the first
abbrev pub joined_place : ℕ → Spot → Option ℕ
joined_place split (First at) = Some at
joined_place split (Second at) = Some (split + at)
joined_place split Neither = None

unfoldable pub placed_at : Windows → ℕ → ℕ → Address → Option ℕ
placed_at w len size a = joined_place (first_length w len) (spot_at w len size a)

-- the 64 bytes of an area
abbrev pub placed : Windows → ℕ → Address → Option ℕ
placed w len a = placed_at w len 64 a

-- the window that has the area that a link names, and its place
abbrev pub spot_of : Memory → Link → Spot
spot_of m l = spot_at m.windows (length m.bytes) 64 (area_address l)

abbrev pub place_of : Memory → Link → Option ℕ
place_of m l = placed m.windows (length m.bytes) (area_address l)

-- one of the windows has the area
abbrev pub Lies : Memory → Link → Type 0
Lies m l = (at : ℕ) × (place_of m l ≡ Some at)

-- `size` bytes from a spot lie wholly in the window that it names, the windows being len and len2 bytes long
abbrev pub LiesIn : ℕ → ℕ → ℕ → Spot → Type 0
LiesIn len len2 size (First at) = at + size ≤ len
LiesIn len len2 size (Second at) = at + size ≤ len2
LiesIn len len2 size Neither = ⊥

-- the first of them among the bytes of both windows
abbrev pub offset : ℕ → Spot → ℕ
offset split (First at) = at
offset split (Second at) = split + at
offset split Neither = 0

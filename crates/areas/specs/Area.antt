-- The area that a link names: 64 bytes of the lent memory.
use Rattle.std.specs.Prelude.{ℕ, List, [], take, drop, None, Option, Some}
use Rattle.memory.specs.Memory.{Memory}
use Rattle.areas.specs.Place.{place_of}
use Rattle.fields.specs.declared.link.Link.{Link}

-- the 64 bytes from byte `at` on
abbrev pub area_at : List ℕ → ℕ → List ℕ
area_at s at = take 64 (drop at s)

-- none where neither window has it
abbrev pub area_by : List ℕ → Option ℕ → List ℕ
area_by bytes (Some at) = area_at bytes at
area_by bytes None = []

-- the area that a link names
unfoldable pub area_of : Memory → Link → List ℕ
area_of m l = area_by m.bytes (place_of m l)

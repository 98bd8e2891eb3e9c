-- The lengths of records: a record covers 4 addresses; a short form, whose operation byte has 128 added, covers 2 (02, point 5).
use Rattle.std.specs.Prelude.{ℕ, zero, suc, ◌+◌, ◌*◌, cond, List, slice_index}
use Rattle.operations.specs.Forms.{is_short}

-- how many addresses a record with that operation byte covers
unfoldable pub length_of : ℕ → ℕ
length_of byte = cond (is_short byte) 2 4

-- of the record at byte `at` of the image
abbrev pub length_at : List ℕ → ℕ → ℕ
length_at img at = length_of (slice_index img at)

-- records follow each other by their own lengths: the address after n of them, of which the first stands at byte `at` and begins at `from`
unfoldable pub address_after : ℕ → List ℕ → ℕ → ℕ → ℕ
address_after zero img at from = from
address_after (suc n) img at from = address_after n img at from + length_at img (at + 8 * n)

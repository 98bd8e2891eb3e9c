-- A service request control register, one for each interrupt source (002, 5.1, Figure 39): SR 10, SRE 9, SRPN 7:0. The other bits have no effect.
use Rattle.std.specs.Prelude.{ℕ, ◌+◌, ◌*◌, ◌/◌, ◌%◌, ◌^◌, Bool, ◌&&◌}
use Rattle.fields.specs.Field.{is_set}

-- the service request priority number
abbrev pub src_srpn : ℕ → ℕ
src_srpn src = src % 2 ^ 8

-- enabled, and requesting
unfoldable pub requests : ℕ → Bool
requests src = is_set 9 src && is_set 10 src

-- the request cleared
unfoldable pub cleared_of : ℕ → ℕ
cleared_of src = src / 2 ^ 11 * 2 ^ 11 + src % 2 ^ 10

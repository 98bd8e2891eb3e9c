-- The operation byte of a record: the operation's number, to which a short form adds 128 (02, point 5).
use Rattle.std.specs.Prelude.{ℕ, ◌-◌, Bool, cond, leb}

abbrev pub is_short : ℕ → Bool
is_short byte = leb 128 byte

-- the operation's number: the byte, of a short form less 128
unfoldable pub operation_number : ℕ → ℕ
operation_number byte = cond (is_short byte) (byte - 128) byte

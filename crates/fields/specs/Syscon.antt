-- SYSCON, the System Configuration Register (002, 3.7.1): PROTEN 1.
use Rattle.std.specs.Prelude.{ℕ, Bool}
use Rattle.fields.specs.Field.{is_set}

-- memory protection is on
abbrev pub syscon_proten : ℕ → Bool
syscon_proten syscon = is_set 1 syscon

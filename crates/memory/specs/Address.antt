-- Addresses of bytes.
use Rattle.std.specs.Prelude.{ℕ}
use Rattle.memory.specs.declared.address.Address.{Address}

-- a word as an address
abbrev pub as_address : ℕ → Address
as_address w = record { 0 = w }

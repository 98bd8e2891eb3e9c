-- ICR, the Interrupt Control Register (002, 3.6.1): IE 8, CCPN 7:0.
use Rattle.std.specs.Prelude.{ℕ, ◌+◌, ◌*◌, ◌/◌, ◌%◌, ◌^◌, Bool}
use Rattle.words.specs.Bits.{number}
use Rattle.fields.specs.Field.{is_set}

-- the interrupt system is enabled
abbrev pub icr_ie : ℕ → Bool
icr_ie icr = is_set 8 icr

-- the current CPU priority number
abbrev pub icr_ccpn : ℕ → ℕ
icr_ccpn icr = icr % 2 ^ 8

-- ICR with IE and CCPN written, the latter from a number's low 8 bits
unfoldable pub icr_of : ℕ → Bool → ℕ → ℕ
icr_of icr ie ccpn = icr / 2 ^ 9 * 2 ^ 9 + number ie * 2 ^ 8 + ccpn % 2 ^ 8

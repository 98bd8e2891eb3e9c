-- PCXI, the Previous Context Information (002, 3.3.3): PCPN 31:24, PIE 23, UL 22, link 19:0.
use Rattle.std.specs.Prelude.{ℕ, ◌+◌, ◌*◌, ◌^◌, Bool}
use Rattle.words.specs.Bits.{number}
use Rattle.fields.specs.Field.{is_set, field}
use Rattle.fields.specs.Icr.{icr_ie, icr_ccpn}
use Rattle.fields.specs.declared.link.Link.{Link}

-- the previous CPU priority number
abbrev pub pcxi_pcpn : ℕ → ℕ
pcxi_pcpn pcxi = field 24 8 pcxi

-- the previous interrupt enable
abbrev pub pcxi_pie : ℕ → Bool
pcxi_pie pcxi = is_set 23 pcxi

-- upper (1) or lower (0) context
abbrev pub pcxi_ul : ℕ → Bool
pcxi_ul pcxi = is_set 22 pcxi

-- what a save sets: PCPN = CCPN, PIE = IE, UL, and the link of the area taken
unfoldable pub pcxi_of : ℕ → Bool → Link → ℕ
pcxi_of icr ul l = icr_ccpn icr * 2 ^ 24 + number (icr_ie icr) * 2 ^ 23 + number ul * 2 ^ 22 + l.0

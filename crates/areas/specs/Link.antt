-- Links and addresses (002, 3.4, Figure 15, and 4.1).
use Rattle.std.specs.Prelude.{◌+◌, ◌*◌, ◌/◌, ◌%◌, ◌^◌}
use Rattle.fields.specs.declared.link.Link.{Link}
use Rattle.memory.specs.declared.address.Address.{Address}

-- the address of a link's area: link bits 19:16 are address bits 31:28, link bits 15:0 are address bits 21:6
abbrev pub area_address : Link → Address
area_address l = record { 0 = l.0 / 2 ^ 16 % 16 * 2 ^ 28 + l.0 % 2 ^ 16 * 64 }

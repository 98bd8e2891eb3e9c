-- Links (002, 3.4, Figure 15): 19:0 of FCX, LCX, PCXI and of the first word of an area.
use Rattle.std.specs.Prelude.{ℕ, ◌%◌, ◌^◌}
use Rattle.fields.specs.declared.link.Link.{Link}

-- the link in a word
abbrev pub link_of : ℕ → Link
link_of w = record { 0 = w % 2 ^ 20 }

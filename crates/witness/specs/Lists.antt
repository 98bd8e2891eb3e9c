-- The abstract lists of the series, as it begins, where no area is left, and as it ends.
use Rattle.std.specs.Prelude.{ℕ, [], ◌∷◌}
use Rattle.fields.specs.declared.link.Link.{Link}
use Rattle.contexts.specs.declared.context.Half.TheVariants.{Upper, Lower}
use Rattle.series.specs.Abstract.{SavedContext, context, AbstractLists, lists}

-- the links of the listed areas, in the lists' order: free ones in the first, the second and the first window, used ones in the second and the first
abbrev pub area0 : Link
area0 = record { 0 = 0xD_0000 }

abbrev pub area1 : Link
area1 = record { 0 = 0xC_0000 }

abbrev pub area2 : Link
area2 = record { 0 = 0xD_0001 }

abbrev pub area3 : Link
area3 = record { 0 = 0xC_0001 }

abbrev pub area4 : Link
area4 = record { 0 = 0xD_0002 }

-- the contexts that were saved before the series: PCXI, PSW, A10 to A15, D8 to D15; PCXI, A2 to A7, D0 to D7
abbrev pub used_upper : SavedContext
used_upper = context area3 Upper (0x010D_0002 ∷ 0x0000_0B80 ∷ 0x41 ∷ 0x42 ∷ 0x43 ∷ 0x44 ∷ 0x45 ∷ 0x46 ∷ 0x51 ∷ 0x52 ∷ 0x53 ∷ 0x54 ∷ 0x55 ∷ 0x56 ∷ 0x57 ∷ 0x58 ∷ [])

abbrev pub used_lower : SavedContext
used_lower = context area4 Lower (0 ∷ 0x61 ∷ 0x62 ∷ 0x63 ∷ 0x64 ∷ 0x65 ∷ 0x66 ∷ 0x71 ∷ 0x72 ∷ 0x73 ∷ 0x74 ∷ 0x75 ∷ 0x76 ∷ 0x77 ∷ 0x78 ∷ [])

-- an upper context that the series saves: A12 to A15 and D8 to D15 are as at the start
abbrev pub saved : Link → ℕ → ℕ → ℕ → ℕ → SavedContext
saved l pcxi psw a10 a11 = context l Upper (pcxi ∷ psw ∷ a10 ∷ a11 ∷ 0x2D ∷ 0x2E ∷ 0x2F ∷ 0x30 ∷ 0x09 ∷ 0x0A ∷ 0x0B ∷ 0x0C ∷ 0x0D ∷ 0x0E ∷ 0x0F ∷ 0x10 ∷ [])

abbrev pub begun : AbstractLists
begun = lists (area0 ∷ area1 ∷ area2 ∷ []) (used_upper ∷ used_lower ∷ [])

-- after the interrupt, the CALL, and the FCD entry, which finds PSW with the call counted, A11 of the call, and the call's PCXI
abbrev pub depleted : AbstractLists
depleted =
    lists []
    (saved area2 0x094C_0000 0x0000_0A81 0x9000_0000 0x8000_0122
    ∷ saved area1 0x05CD_0000 0x0000_0A80 0x9000_0000 0x8000_0000
    ∷ saved area0 0x02CC_0001 0x0000_0981 0x2B 0x8000_0004
    ∷ used_upper
    ∷ used_lower
    ∷ [])

-- after five returns, two of them beyond the series' own saves
abbrev pub all_free : AbstractLists
all_free = lists (area4 ∷ area3 ∷ area0 ∷ area1 ∷ area2 ∷ []) []

-- after BISR and the trap. The trap's save finds the PCXI that BISR's set: PCPN is 5, the priority number before BISR
abbrev pub ended : AbstractLists
ended =
    lists (area0 ∷ area1 ∷ area2 ∷ [])
    (context area3 Upper (0x058D_0002 ∷ 0x0000_0B80 ∷ 0x41 ∷ 0x42 ∷ 0x43 ∷ 0x44 ∷ 0x45 ∷ 0x46 ∷ 0x51 ∷ 0x52 ∷ 0x53 ∷ 0x54 ∷ 0x55 ∷ 0x56 ∷ 0x57 ∷ 0x58 ∷ [])
    ∷ context area4 Lower (0 ∷ 0x61 ∷ 0x62 ∷ 0x63 ∷ 0x64 ∷ 0x65 ∷ 0x66 ∷ 0x71 ∷ 0x72 ∷ 0x73 ∷ 0x74 ∷ 0x75 ∷ 0x76 ∷ 0x77 ∷ 0x78 ∷ [])
    ∷ [])

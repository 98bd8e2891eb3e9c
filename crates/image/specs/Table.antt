-- The table of contents: word n, then n entries of load address, records, and offset from the image's start.
use Rattle.std.specs.Prelude.{ℕ, zero, suc, ◌+◌, ◌*◌, ◌%◌, Bool, cond, ◌&&◌, ◌||◌, List, length, ◌==◌, nat_le, nat_lt, Err, Ok, Result, ⊤}
use Rattle.memory.specs.Word.{word_at}
use Rattle.image.specs.Lengths.{address_after}
use Rattle.image.specs.declared.table.Entry.{Entry}
use Rattle.image.specs.declared.table.ImageFault.{ImageFault}
use Rattle.image.specs.declared.table.ImageFault.TheVariants.{Table}

abbrev pub entries_of : List ℕ → ℕ
entries_of img = word_at img 0

-- the entry at place i, from 0
unfoldable pub entry_at : List ℕ → ℕ → Entry
entry_at img i =
    record { load = word_at img (4 + 12 * i); records = word_at img (4 + 12 * i + 4); offset = word_at img (4 + 12 * i + 8) }

-- where the bodies begin: right after the table
abbrev pub bodies_of : List ℕ → ℕ
bodies_of img = 4 + 12 * entries_of img

-- where the code range of an entry ends: after its records, each by its own length
abbrev pub range_end : List ℕ → Entry → ℕ
range_end img e = address_after e.records img e.offset e.load

-- an entry's words: its load address is a multiple of 4, it has 1 to 65,536 records, its body begins at `start` and ends within
-- an image of that length
unfoldable pub entry_fits : Entry → ℕ → ℕ → Bool
entry_fits e start len =
    (e.load % 4 == 0)
    && nat_le 1 e.records
    && nat_le e.records 0x1_0000
    && e.offset == start
    && nat_le (e.offset + 8 * e.records) len

-- an entry holds: its words do, and its code range begins not below `floor` and stays below E0000000
abbrev pub entry_holds : List ℕ → Entry → ℕ → ℕ → Bool
entry_holds img e start floor = entry_fits e start (length img) && nat_le floor e.load && nat_le (range_end img e) 0xE000_0000

-- k entries from place i on. Bodies follow without gaps in table order, code ranges ascend, and the last body ends the image
unfoldable pub entries_from : ℕ → List ℕ → ℕ → ℕ → ℕ → Result ⊤ ImageFault
entries_from zero img i start floor = cond (start == length img) (Ok tt) (Err (Table i))
entries_from (suc k) img i start floor =
    cond (entry_holds img (entry_at img i) start floor)
    (entries_from k img (i + 1) (start + 8 * (entry_at img i).records) (range_end img (entry_at img i)))
    (Err (Table (i + 1)))

-- rule 2: 1 to 16 entries, a table that is not cut short, then the entries
unfoldable pub table_of : List ℕ → Result ⊤ ImageFault
table_of img =
    cond (nat_lt (length img) 4 || nat_lt (entries_of img) 1 || nat_lt 16 (entries_of img) || nat_lt (length img) (bodies_of img)) (Err (Table 0))
    (entries_from (entries_of img) img 0 (bodies_of img) 0)

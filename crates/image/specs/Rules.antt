-- Rules 2 and 3 as plain statements. The checks answer exactly these.
use Rattle.std.specs.Prelude.{◌≡◌, ℕ, zero, suc, ◌+◌, ◌*◌, ◌%◌, ◌<◌, ◌≤◌, true, List, length, ◌≢◌, slice_index, Err, Ok, Result, ⊤}
use Rattle.operations.specs.Operations.{operations, operation_of, compares}
use Rattle.operations.specs.Forms.{operation_number}
use Rattle.image.specs.Table.{entries_of, entry_at, bodies_of, range_end}
use Rattle.image.specs.Records.{total_of}
use Rattle.image.specs.declared.table.Entry.{Entry}
use Rattle.image.specs.declared.table.ImageFault.{ImageFault}
use Rattle.image.specs.declared.table.ImageFault.TheVariants.{Record, Table}

-- how many records the bodies before entry i have; entries are counted from place 0 here
abbrev pub records_before : List ℕ → ℕ → ℕ
records_before img zero = 0
records_before img (suc i) = records_before img i + (entry_at img i).records

-- bodies follow the table, and each other, without gaps
abbrev pub start_of : List ℕ → ℕ → ℕ
start_of img i = bodies_of img + 8 * records_before img i

-- where the code range before entry i ends
abbrev pub floor_of : List ℕ → ℕ → ℕ
floor_of img zero = 0
floor_of img (suc i) = range_end img (entry_at img i)

-- an entry e whose body has to begin at `start` and whose code range not below `floor`
pub record EntryRight (img : List ℕ) (e : Entry) (start floor : ℕ) : Type 0 where
  pub aligned : e.load % 4 ≡ 0
  pub some : 1 ≤ e.records
  pub most : e.records ≤ 0x1_0000
  pub begins : e.offset ≡ start
  pub ascends : floor ≤ e.load
  pub below : range_end img e ≤ 0xE000_0000
  pub ends : e.offset + 8 * e.records ≤ length img

abbrev pub EntryAt : List ℕ → ℕ → Type 0
EntryAt img i = EntryRight img (entry_at img i) (start_of img i) (floor_of img i)

-- the count is 1 to 16, and the table is not cut short
pub record Counted (img : List ℕ) : Type 0 where
  pub word : 4 ≤ length img
  pub some : 1 ≤ entries_of img
  pub most : entries_of img ≤ 16
  pub whole : bodies_of img ≤ length img

-- rule 2: the entries are right, and the last body ends the image
pub record TableRight (img : List ℕ) : Type 0 where
  pub counted : Counted img
  pub entries : (i : ℕ) → i < entries_of img → EntryAt img i
  pub ends : start_of img (entries_of img) ≡ length img

-- the first fault of the table, with its place
pub data TableFault (img : List ℕ) : ℕ → Type 0 where
  uncounted : (Counted img → ⊥) → TableFault img 0
  at_entry : {p : ℕ} → Counted img → (i : ℕ) → i < entries_of img → ((j : ℕ) → j < i → EntryAt img j) → (EntryAt img i → ⊥) → p ≡ i + 1 → TableFault img p
  left_over : {p : ℕ} → Counted img → ((j : ℕ) → j < entries_of img → EntryAt img j) → (start_of img (entries_of img) ≢ length img) → p ≡ entries_of img → TableFault img p

abbrev pub TableSays : List ℕ → Result ⊤ ImageFault → Type 0
TableSays img (Ok _) = TableRight img
TableSays img (Err (Table p)) = TableFault img p
TableSays img (Err (Record k)) = ⊥

-- a record's operation by its number, and its other bytes, are in their bounds; the operations that compare two registers refuse b = 16
pub record RecordRight (op c a b : ℕ) : Type 0 where
  pub operation : op < length operations
  pub result : c ≤ 15
  pub first : a ≤ 15
  pub second : b ≤ 16
  pub compared : compares (operation_of op) ≡ true → b ≤ 15

-- the record with index k over all bodies
abbrev pub RecordAt : List ℕ → ℕ → Type 0
RecordAt img k =
    let at = bodies_of img + 8 * k in
    RecordRight (operation_number (slice_index img at)) (slice_index img (at + 1)) (slice_index img (at + 2)) (slice_index img (at + 3))

-- rules 2 and 3
pub record ImageRight (img : List ℕ) : Type 0 where
  pub table : TableRight img
  pub records : (k : ℕ) → k < total_of img → RecordAt img k

-- rule 3 is the first at fault, at the record with index k
pub record RecordFault (img : List ℕ) (k : ℕ) : Type 0 where
  pub table : TableRight img
  pub inside : k < total_of img
  pub before : (j : ℕ) → j < k → RecordAt img j
  pub fault : RecordAt img k → ⊥

abbrev pub ImageSays : List ℕ → Result ⊤ ImageFault → Type 0
ImageSays img (Ok _) = ImageRight img
ImageSays img (Err (Table p)) = TableFault img p
ImageSays img (Err (Record k)) = RecordFault img k

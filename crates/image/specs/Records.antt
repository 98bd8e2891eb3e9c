-- The records: 8 bytes each.
use Rattle.std.specs.Prelude.{◌≡◌, ℕ, zero, suc, ◌+◌, ◌-◌, ◌/◌, Bool, cond, not, ◌&&◌, ◌||◌, List, length, nat_le, nat_lt, slice_index, Err, Ok, Result, ⊤}
use Rattle.operations.specs.Operations.{operations, operation_of, compares}
use Rattle.operations.specs.Forms.{operation_number}
use Rattle.image.specs.Table.{bodies_of, table_of}
use Rattle.image.specs.declared.table.ImageFault.{ImageFault}
use Rattle.image.specs.declared.table.ImageFault.TheVariants.{Record}

-- the operation is one of the table, c and a are 0 to 15, b is 0 to 16; JEQ to JGE.U refuse 16
unfoldable pub record_holds : ℕ → ℕ → ℕ → ℕ → Bool
record_holds op c a b =
    nat_lt op (length operations) && nat_le c 15 && nat_le a 15 && nat_le b 16 && (nat_le b 15 || not (compares (operation_of op)))

-- the record at byte `at`: of a short form the operation byte less 128 is checked
abbrev pub record_at : List ℕ → ℕ → Bool
record_at img at = record_holds (operation_number (slice_index img at)) (slice_index img (at + 1)) (slice_index img (at + 2)) (slice_index img (at + 3))

-- n records from the one with index k on, which stands at byte `at`
unfoldable pub records_from : ℕ → List ℕ → ℕ → ℕ → Result ⊤ ImageFault
records_from zero img at k = Ok tt
records_from (suc n) img at k = cond (record_at img at) (records_from n img (at + 8) (k + 1)) (Err (Record k))

-- how many records the bodies have: they fill the image after the table
abbrev pub total_of : List ℕ → ℕ
total_of img = (length img - bodies_of img) / 8

abbrev pub image_by : List ℕ → Result ⊤ ImageFault → Result ⊤ ImageFault
image_by img (Ok _) = records_from (total_of img) img (bodies_of img) 0
image_by img (Err f) = Err f

-- rule 2, then rule 3
unfoldable pub image_of : List ℕ → Result ⊤ ImageFault
image_of img = image_by img (table_of img)

-- rules 2 and 3 hold
abbrev pub ImageHolds : List ℕ → Type 0
ImageHolds img = image_of img ≡ Ok tt

-- the answer of a check that also tells whether no record is a short form, without that
abbrev pub without_long : {E : Type 0} → Result Bool E → Result ⊤ E
without_long (Ok long) = Ok tt
without_long (Err f) = Err f

-- What is looked up of an image beforehand, so that a fetch need not walk a whole body: whether it has short forms, and marks. The fetch's definition knows none of it.
use Rattle.std.specs.Prelude.{◌≡◌, ℕ, zero, suc, ◌+◌, ◌*◌, ◌/◌, ◌%◌, ◌^◌, ◌<◌, Bool, true, cond, not, ◌&&◌, List, length, ◌==◌, nat_le, nat_lt, slice_index, slice_index_or, slice_set}
use Rattle.operations.specs.Forms.{is_short}
use Rattle.image.specs.Table.{bodies_of, entry_at}
use Rattle.image.specs.Records.{total_of}
use Rattle.image.specs.Rest.{far_of, record_address, Begins}
use Rattle.image.specs.declared.table.Entry.{Entry}
use Rattle.image.specs.declared.fetch.Start.{Start}
use Rattle.image.specs.declared.marks.Guide.{Guide}

-- n records from byte `at` on have no short form among them
unfoldable pub long_from : ℕ → List ℕ → ℕ → Bool
long_from zero img at = true
long_from (suc n) img at = not (is_short (slice_index img at)) && long_from n img (at + 8)

-- an image without short forms
unfoldable pub long_only : List ℕ → Bool
long_only img = long_from (total_of img) img (bodies_of img)

-- a mark names an entry, counted from 1, and the index and address of a record of its body
abbrev pub mark_entry : ℕ → ℕ
mark_entry m = m % 2 ^ 32 / 2 ^ 16

abbrev pub mark_index : ℕ → ℕ
mark_index m = m % 2 ^ 16

abbrev pub mark_address : ℕ → ℕ
mark_address m = m / 2 ^ 32

-- where the mark for pc stands: for each body as many places as its records would need if none were short, 2 ^ shift addresses for each
unfoldable pub slot_of : ℕ → ℕ → ℕ → ℕ → ℕ
slot_of bias entry shift pc = (pc + bias) % 2 ^ 32 / 2 ^ (shift % 32) + entry

-- what is added to an address of a body for its place among the marks: a record has 8 bytes in the image, and up to 4 addresses
abbrev pub bias_of : Entry → ℕ
bias_of e = far_of e.load (e.offset / 2)

-- the least shift from `shift` on with which marks for so many bytes of an image stand in 4,096 places, a place more for each entry; n are tried
unfoldable pub shift_from : ℕ → ℕ → ℕ → ℕ
shift_from zero shift bytes = shift
shift_from (suc n) shift bytes = cond (nat_lt (bytes / 2 / 2 ^ shift) 4080) shift (shift_from n (shift + 1) bytes)

abbrev pub shift_of : ℕ → ℕ
shift_of bytes = shift_from 30 1 bytes

-- the mark of the record with index k of the body of entry i, both from 0, that begins at an address
abbrev pub mark_of : ℕ → ℕ → ℕ → ℕ
mark_of i k address = address * 2 ^ 32 + (i + 1) * 2 ^ 16 + k

-- it is put in a place that has no mark of this body: of the records with one place the first is marked
unfoldable pub put_mark : List ℕ → ℕ → ℕ → ℕ → ℕ → List ℕ
put_mark marks slot i k address =
    cond (nat_lt slot 4096 && not (mark_entry (slice_index marks slot) == i + 1)) (slice_set marks slot (mark_of i k address)) marks

-- marks of the first k records of the body of entry i
unfoldable pub body_marks : ℕ → List ℕ → ℕ → ℕ → List ℕ → List ℕ
body_marks zero img shift i marks = marks
body_marks (suc k) img shift i marks =
    let address = record_address img i k in
    put_mark (body_marks k img shift i marks) (slot_of (bias_of (entry_at img i)) (i + 1) shift address) i k address

-- marks of the first n bodies
unfoldable pub image_marks : ℕ → List ℕ → ℕ → List ℕ → List ℕ
image_marks zero img shift marks = marks
image_marks (suc i) img shift marks = body_marks (entry_at img i).records img shift i (image_marks i img shift marks)

-- where a walk to pc starts in the body of entry i, from 0: at the record that the mark in the place for pc names, if it is one of this body and not past pc; otherwise at the body's first
unfoldable pub marked_start : List ℕ → ℕ → ℕ → Entry → ℕ → Start
marked_start marks shift i e pc =
    let m = slice_index_or marks (slot_of (bias_of e) (i + 1) shift pc) 0 in
    cond (mark_entry m == i + 1 && nat_le (mark_address m) pc) (record { index = mark_index m; address = mark_address m }) (record { index = 0; address = e.load })

-- what a mark says is so; entry 0 says nothing
abbrev pub MarkHolds : List ℕ → ℕ → Type 0
MarkHolds img m = (i : ℕ) → mark_entry m ≡ i + 1 → Begins img (mark_address m) i (mark_index m)

pub record MarksHold (img marks : List ℕ) : Type 0 where
  pub each : (s : ℕ) → s < length marks → MarkHolds img (slice_index marks s)

-- the array of marks that a run has
pub record Marked (img marks : List ℕ) : Type 0 where
  pub marks_hold : MarksHold img marks
  pub size : length marks ≡ 4096

-- what a guide and marks say of an image is so
pub record Guides (img : List ℕ) (guide : Guide) (marks : List ℕ) : Type 0 where
  pub all_long : guide.long ≡ true → long_only img ≡ true
  pub marks_hold : MarksHold img marks

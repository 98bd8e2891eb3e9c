-- Document 01's number and place of each refusal, and what an image and the lists are refused for.
use Rattle.std.specs.Prelude.{ℕ}
use Rattle.image.specs.declared.table.ImageFault.{ImageFault}
use Rattle.image.specs.declared.table.ImageFault.TheVariants as image
use Rattle.lists.specs.declared.ListFault.{ListFault}
use Rattle.lists.specs.declared.ListFault.TheVariants as list
use Rattle.inputs.specs.declared.verdict.Refusal.{Refusal}
use Rattle.inputs.specs.declared.verdict.Refusal.TheVariants.{Window, Overlap, Table, Record, OddPc, LinkOutside, MetAgain}

abbrev pub number_of : Refusal → ℕ
number_of Window = 1
number_of Overlap = 13
number_of (Table entry) = 2
number_of (Record index) = 3
number_of OddPc = 4
number_of LinkOutside = 5
number_of MetAgain = 6

-- the entry of a table, the index of a record over all bodies, otherwise 0
abbrev pub fault_of : Refusal → ℕ
fault_of Window = 0
fault_of Overlap = 0
fault_of (Table entry) = entry
fault_of (Record index) = index
fault_of OddPc = 0
fault_of LinkOutside = 0
fault_of MetAgain = 0

-- 2 and 3
abbrev pub image_refusal : ImageFault → Refusal
image_refusal (image.Table entry) = Table entry
image_refusal (image.Record index) = Record index

-- 5 and 6
abbrev pub lists_refusal : ListFault → Refusal
lists_refusal list.LinkOutside = LinkOutside
lists_refusal list.MetAgain = MetAgain

-- The rules as plain statements, and what each verdict says: the first rule at fault, those before it holding.
use Rattle.std.specs.Prelude.{ℕ, ◌+◌, ◌/◌, ◌%◌, ◌^◌, ◌≤◌, ◌≡◌, ◌⊎◌, List, length, Err, Ok, Result, ⊤}
use Rattle.memory.specs.Memory.{Memory, first_length, second_length}
use Rattle.memory.specs.declared.address.Address.{Address}
use Rattle.lists.specs.Lists.{Sound, ListsCome}
use Rattle.image.specs.Rules.{ImageRight, TableFault, RecordFault}
use Rattle.lists.specs.declared.ListFault.TheVariants as list
use Rattle.inputs.specs.declared.verdict.Refusal.TheVariants.{Window, Overlap, Table, Record, OddPc, LinkOutside, MetAgain}
use Rattle.inputs.specs.declared.verdict.Refusal.{Refusal}

-- rule 1, of one window. A segment is all addresses with the same bits 31:28
pub record WindowRight (base : Address) (len : ℕ) : Type 0 where
  pub aligned : base.0 % 64 ≡ 0
  pub areas : len % 64 ≡ 0
  pub some : 1 ≤ len
  pub most : len ≤ 0x1_0000
  pub below_E : base.0 / 2 ^ 28 ≤ 13
  pub one_segment : base.0 % 2 ^ 28 + len ≤ 2 ^ 28

-- of both: the second may have no bytes
pub record WindowsRight (base : Address) (len : ℕ) (base2 : Address) (len2 : ℕ) : Type 0 where
  pub first : WindowRight base len
  pub second : (len2 ≡ 0) ⊎ WindowRight base2 len2

-- rule 13: the second window has no bytes, or the last byte of one lies before the first byte of the other
abbrev pub WindowsApart : Address → ℕ → Address → ℕ → Type 0
WindowsApart base len base2 len2 = (len2 ≡ 0) ⊎ (base.0 + len ≤ base2.0) ⊎ (base2.0 + len2 ≤ base.0)

-- of the windows of a memory
abbrev pub RightOf : Memory → Type 0
RightOf m =
    let w = m.windows in
    let len = length m.bytes in
    WindowsRight w.first (first_length w len) w.second (second_length w len)

abbrev pub ApartOf : Memory → Type 0
ApartOf m =
    let w = m.windows in
    let len = length m.bytes in
    WindowsApart w.first (first_length w len) w.second (second_length w len)

-- rules 1 and 13 hold
pub record WindowsHold (m : Memory) : Type 0 where
  pub right : RightOf m
  pub apart : ApartOf m

-- rule 4
abbrev pub Even : ℕ → Type 0
Even pc = pc % 2 ≡ 0

-- rules 1, 13 and 2 to 4 hold
pub record StepRight (m : Memory) (img : List ℕ) (pc : ℕ) : Type 0 where
  pub windows : WindowsHold m
  pub image : ImageRight img
  pub even : Even pc

-- what a verdict says of rules 1 and 13
abbrev pub WindowsSay : Memory → Result ⊤ Refusal → Type 0
WindowsSay m (Ok _) = WindowsHold m
WindowsSay m (Err Window) = RightOf m → ⊥
WindowsSay m (Err Overlap) = RightOf m × (ApartOf m → ⊥)
WindowsSay m (Err _) = ⊥

-- of rules 2 and 3
abbrev pub ContentsSay : List ℕ → Result ⊤ Refusal → Type 0
ContentsSay img (Ok _) = ImageRight img
ContentsSay img (Err (Table entry)) = TableFault img entry
ContentsSay img (Err (Record index)) = RecordFault img index
ContentsSay img (Err _) = ⊥

-- of rule 4
abbrev pub PcSays : ℕ → Result ⊤ Refusal → Type 0
PcSays pc (Ok _) = Even pc
PcSays pc (Err OddPc) = Even pc → ⊥
PcSays pc (Err _) = ⊥

-- of rules 5 and 6, of windows that rules 1 and 13 accept
abbrev pub ListsSay : Memory → ℕ → ℕ → Result ⊤ Refusal → Type 0
ListsSay m fcx pcxi (Ok _) = WindowsHold m × Sound m fcx pcxi
ListsSay m fcx pcxi (Err Window) = RightOf m → ⊥
ListsSay m fcx pcxi (Err Overlap) = RightOf m × (ApartOf m → ⊥)
ListsSay m fcx pcxi (Err LinkOutside) = WindowsHold m × ListsCome m fcx pcxi (Err list.LinkOutside)
ListsSay m fcx pcxi (Err MetAgain) = WindowsHold m × ListsCome m fcx pcxi (Err list.MetAgain)
ListsSay m fcx pcxi (Err _) = ⊥

-- of rules 1, 13 and 2 to 4, in their order
abbrev pub StepSays : Memory → List ℕ → ℕ → Result ⊤ Refusal → Type 0
StepSays m img pc (Ok _) = StepRight m img pc
StepSays m img pc (Err Window) = RightOf m → ⊥
StepSays m img pc (Err Overlap) = RightOf m × (ApartOf m → ⊥)
StepSays m img pc (Err (Table entry)) = WindowsHold m × TableFault img entry
StepSays m img pc (Err (Record index)) = WindowsHold m × RecordFault img index
StepSays m img pc (Err OddPc) = WindowsHold m × ImageRight img × (Even pc → ⊥)
StepSays m img pc (Err _) = ⊥

-- and of all seven
abbrev pub StartSays : Memory → List ℕ → ℕ → ℕ → ℕ → Result ⊤ Refusal → Type 0
StartSays m img pc fcx pcxi (Ok _) = StepRight m img pc × Sound m fcx pcxi
StartSays m img pc fcx pcxi (Err Window) = RightOf m → ⊥
StartSays m img pc fcx pcxi (Err Overlap) = RightOf m × (ApartOf m → ⊥)
StartSays m img pc fcx pcxi (Err (Table entry)) = WindowsHold m × TableFault img entry
StartSays m img pc fcx pcxi (Err (Record index)) = WindowsHold m × RecordFault img index
StartSays m img pc fcx pcxi (Err OddPc) = WindowsHold m × ImageRight img × (Even pc → ⊥)
StartSays m img pc fcx pcxi (Err LinkOutside) = StepRight m img pc × ListsCome m fcx pcxi (Err list.LinkOutside)
StartSays m img pc fcx pcxi (Err MetAgain) = StepRight m img pc × ListsCome m fcx pcxi (Err list.MetAgain)

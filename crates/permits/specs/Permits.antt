-- The ranges that permit a step's fetch and its data access: of set PRS the lowest (02, point 2).
use Rattle.std.specs.Prelude.{ℕ, ◌≡◌, true, false, List, ◌⊎◌, get_or, Option, Some, None}
use Rattle.fields.specs.Psw.{psw_prs}
use Rattle.memory.specs.Address.{as_address}
use Rattle.memory.specs.declared.address.Address.{Address}
use Rattle.registers.specs.Core.{PC, PSW}
use Rattle.protection.specs.Range.{Lowest}
use Rattle.protection.specs.Access.{asks, permit_of}
use Rattle.protection.specs.declared.range.Range.{Range}
use Rattle.protection.specs.declared.range.Right.{Right}
use Rattle.protection.specs.declared.range.Right.TheVariants.{Read, Write, Execute}
use Rattle.operations.specs.Operations.{access_of}
use Rattle.operations.specs.declared.Access.{Access}
use Rattle.operations.specs.declared.Access.TheVariants as data-access
use Rattle.image.specs.declared.fetch.Instruction.{Instruction}
use Rattle.accesses.specs.Load.{address_in}
use Rattle.decisions.specs.Beginning.{Beginning, Interrupts, Traps, Executes, beginning_of}
use Rattle.permits.specs.declared.Permits.{Permits}

-- an access that a step makes: a right and an address
pub data Asked : Type 0 where
  none : Asked
  access : Right → Address → Asked

-- a load's or a store's, at A[a] plus immediate
abbrev pub data_by : Option Access → Address → Asked
data_by None address = none
data_by (Some data-access.Read) address = access Read address
data_by (Some data-access.Write) address = access Write address

abbrev pub data_in : Instruction → List ℕ → Asked
data_in i a = data_by (access_of i.op) (address_in i a)

-- by a step's beginning, with the PC and the address registers before it: the fetch's access, none where an interrupt is taken; and the instruction's
abbrev pub fetch_asked : ℕ → Beginning → Asked
fetch_asked pc (Interrupts b) = none
fetch_asked pc (Traps t) = access Execute (as_address pc)
fetch_asked pc (Executes i) = access Execute (as_address pc)

abbrev pub data_asked : List ℕ → Beginning → Asked
data_asked a (Interrupts b) = none
data_asked a (Traps t) = none
data_asked a (Executes i) = data_in i a

-- the range named for it
unfoldable pub permit_asked : List ℕ → List Range → Asked → Option ℕ
permit_asked core rs none = None
permit_asked core rs (access right address) = permit_of core rs right address

abbrev pub permits_by : Option ℕ → Option ℕ → Permits
permits_by f d = record { fetch = f; access = d }

-- no range is named
abbrev pub no_permits : Permits
no_permits = permits_by None None

abbrev pub begun_permits : List ℕ → List ℕ → List Range → Beginning → Permits
begun_permits a core rs s = permits_by (permit_asked core rs (fetch_asked (get_or core PC 0) s)) (permit_asked core rs (data_asked a s))

-- both of a step with these address and core registers and these requests
unfoldable pub permits_of : List ℕ → List ℕ → List ℕ → List ℕ → List Range → Permits
permits_of img a core xs rs = begun_permits a core rs (beginning_of img core xs rs)

-- what is named for an access. The ranges are asked: a range of set PRS that permits it and before which none does, or no range where none permits. They are not: no range
abbrev pub NamedFor : List ℕ → List Range → Asked → Option ℕ → Type 0
NamedFor core rs none p = p ≡ None
NamedFor core rs (access right address) p = ((asks core address ≡ true) × Lowest rs (psw_prs (get_or core PSW 0)) right address p) ⊎ ((asks core address ≡ false) × (p ≡ None))

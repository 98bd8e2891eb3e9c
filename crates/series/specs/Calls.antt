-- A series of calls, of steps and runs, each with its own image, ranges and requests; and the arguments of its steps.
use Rattle.std.specs.Prelude.{ℕ, zero, suc, List, [], ◌∷◌, ◌++◌, Err, Ok, Result}
use Rattle.memory.specs.Memory.{Memory}
use Rattle.registers.specs.declared.Registers.{Registers}
use Rattle.protection.specs.declared.range.Range.{Range}
use Rattle.decisions.specs.Valid.{Bytes}
use Rattle.machine.specs.Step.{StepOf, step_of}
use Rattle.machine.specs.Run.{RunOf, run_of}
use Rattle.events.specs.declared.event.Event.{Event}
use Rattle.machine.specs.declared.answer.Unmade.{Unmade}
use Rattle.machine.specs.declared.answer.Unmade.TheVariants.{Refused, Stopped}

-- a string of bytes
pub record Image : Type 0 where
  pub bytes : List ℕ
  pub are : Bytes bytes

pub data Kind : Type 0 where
  step : Kind
  run : ℕ → Kind

-- the ranges and the requests are as the host sets them before the call
pub record Call : Type 0 where
  pub kind : Kind
  pub image : Image
  pub requests : List ℕ
  pub ranges : List Range

-- what a call leaves to the next one
pub record State : Type 0 where
  pub registers : Registers
  pub memory : Memory

abbrev pub state : Registers → Memory → State
state r m = record { registers = r; memory = m }

abbrev pub after_step : StepOf → State
after_step s = state s.registers s.memory

abbrev pub after_run : RunOf → State
after_run v = state v.registers v.memory

abbrev pub after_kind : Kind → Call → State → State
after_kind step c s = after_step (step_of c.image.bytes s.registers c.requests c.ranges s.memory)
after_kind (run n) c s = after_run (run_of n c.image.bytes s.registers c.requests c.ranges s.memory)

abbrev pub after : Call → State → State
after c s = after_kind c.kind c s

abbrev pub after_all : List Call → State → State
after_all [] s = s
after_all (c ∷ cs) s = after_all cs (after c s)

-- a step's arguments
pub record Args : Type 0 where
  pub image : Image
  pub registers : Registers
  pub requests : List ℕ
  pub ranges : List Range
  pub memory : Memory

abbrev pub args : Image → Registers → List ℕ → List Range → Memory → Args
args img r xs rs m = record { image = img; registers = r; requests = xs; ranges = rs; memory = m }

abbrev pub step_at : Args → StepOf
step_at a = step_of a.image.bytes a.registers a.requests a.ranges a.memory

abbrev pub only_made : Result Event Unmade → List Args → List Args
only_made (Ok e) rest = rest
only_made (Err (Stopped x)) rest = []
only_made (Err (Refused x)) rest = []

-- a run counts as its steps: each with what the one before left, to the first that is not made
unfoldable pub run_args : ℕ → Image → List Range → Registers → List ℕ → Memory → List Args
run_args zero img rs r xs m = []
run_args (suc n) img rs r xs m =
    let a = args img r xs rs m in
    let s = step_at a in
    a ∷ only_made s.outcome (run_args n img rs s.registers s.requests s.memory)

abbrev pub kind_args : Kind → Call → State → List Args
kind_args step c s = args c.image s.registers c.requests c.ranges s.memory ∷ []
kind_args (run n) c s = run_args n c.image c.ranges s.registers c.requests s.memory

-- the arguments of the series' steps
abbrev pub all_args : List Call → State → List Args
all_args [] s = []
all_args (c ∷ cs) s = kind_args c.kind c s ++ all_args cs (after c s)

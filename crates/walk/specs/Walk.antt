-- What a walk prints, whole: it is defined by the steps.
use Rattle.std.specs.Prelude.{ℕ, zero, suc, ◌+◌, Bool, true, false, cond, List, [], ◌++◌, length, replicate, ltb, Err, Ok, Result, ⊤}
use Rattle.registers.specs.Registers.{pc, fcx, pcxi}
use Rattle.registers.specs.declared.Registers.{Registers}
use Rattle.events.specs.declared.event.Event.{Event}
use Rattle.events.specs.declared.event.Event.TheVariants.{Instruction, Interrupt, Trap}
use Rattle.machine.specs.Step.{StepOf, step_of}
use Rattle.walk.specs.Start.{window_of, start_bytes, start_registers, start_verdict_of, no_ranges}
use Rattle.walk.specs.Text.{header_text, line_of, stop_of, end_of, refused_of, long_text}
use Rattle.inputs.specs.declared.verdict.Refusal.{Refusal}
use Rattle.machine.specs.declared.answer.Unmade.{Unmade}
use Rattle.machine.specs.declared.answer.Unmade.TheVariants.{Refused, Stopped}

-- bytes of the longest image
abbrev pub longest : ℕ
longest = 65536

-- the most steps of a walk
abbrev pub all_steps : ℕ
all_steps = 100000

-- the walk ends after a trap
abbrev pub is_trap : Event → Bool
is_trap Instruction = false
is_trap (Interrupt source) = false
is_trap (Trap t) = true

-- and with a stop or a refusal
abbrev pub is_last : Result Event Unmade → Bool
is_last (Ok e) = is_trap e
is_last (Err u) = true

-- the step that registers r, requests xs and the window's bytes w make
abbrev pub step_from : List ℕ → Registers → List ℕ → List ℕ → StepOf
step_from img r xs w = step_of img r xs no_ranges (window_of w)

-- what a step that is not made prints, after `made` steps
abbrev pub unmade_of : ℕ → Unmade → List ℕ
unmade_of made (Stopped x) = stop_of x ++ end_of made
unmade_of made (Refused x) = refused_of x

-- what a step with that outcome prints, from PC `at` on and `made` steps before it
abbrev pub printed : Result Event Unmade → ℕ → ℕ → Registers → List ℕ
printed (Ok e) made at r = line_of e at (pc r) (fcx r) (pcxi r) ++ cond (is_trap e) (end_of (made + 1)) []
printed (Err u) made at r = unmade_of made u

-- what at most n steps more print, after `made`
unfoldable pub walk_from : ℕ → List ℕ → ℕ → Registers → List ℕ → List ℕ → List ℕ
walk_from zero img made r xs w = end_of made
walk_from (suc n) img made r xs w =
    let s = step_from img r xs w in
    printed s.outcome made (pc r) s.registers ++ cond (is_last s.outcome) [] (walk_from n img (made + 1) s.registers s.requests s.memory.bytes)

abbrev pub walk_by : List ℕ → Result ⊤ Refusal → List ℕ
walk_by img (Err x) = refused_of x
walk_by img (Ok _) = header_text ++ walk_from all_steps img 0 (start_registers img) (replicate 16 0) start_bytes

-- what the program prints for an image
unfoldable pub walk_of : List ℕ → List ℕ
walk_of img = cond (ltb longest (length img)) long_text (walk_by img (start_verdict_of img))

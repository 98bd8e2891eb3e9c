-- What is shown: the start is accepted, the series meets the two conditions, and this is what happens in it.
use Rattle.std.specs.Prelude.{◌≡◌, List, [], ◌∷◌, ◌++◌, Ok, Err, Result}
use Rattle.memory.specs.Memory.{Memory}
use Rattle.memory.specs.Word.{word_at}
use Rattle.areas.specs.Place.{spot_of}
use Rattle.fields.specs.declared.link.Link.{Link}
use Rattle.areas.specs.declared.link.Spot.{Spot}
use Rattle.areas.specs.declared.link.Spot.TheVariants.{First, Second}
use Rattle.registers.specs.Registers.{registers, pc, fcx, pcxi}
use Rattle.registers.specs.declared.Registers.{Registers}
use Rattle.events.specs.Traps.{FCD, MPX}
use Rattle.events.specs.declared.event.Event.TheVariants.{Instruction, Interrupt, Trap}
use Rattle.events.specs.declared.event.Stop.TheVariants.{NoArea}
use Rattle.inputs.specs.Checks.{start_verdict}
use Rattle.inputs.specs.declared.verdict.Refusal.TheVariants.{Table}
use Rattle.series.specs.Calls.{after_all, Args, step_at, all_args}
use Rattle.series.specs.Conditions.{moved_all, AllQuiet}
use Rattle.series.specs.Claim.{Agree, listed, Claim}
use Rattle.witness.specs.Start.{start}
use Rattle.witness.specs.Series.{interrupted, saving_calls, returning_calls, calls}
use Rattle.witness.specs.Lists.{begun, depleted, all_free, ended}
use Rattle.events.specs.declared.event.Event.{Event}
use Rattle.machine.specs.declared.answer.Unmade.{Unmade}
use Rattle.machine.specs.declared.answer.Unmade.TheVariants.{Refused, Stopped}

abbrev pub outcomes : List Args → List (Result Event Unmade)
outcomes [] = []
outcomes (a ∷ rest) = (step_at a).outcome ∷ outcomes rest

-- the interrupt of source 3; the CALL, which ends in trap 3/1, the store, and stop 11; refusal 2; RFE, RET, RFE, RET, RSLCX; BISR; trap 1/4
abbrev pub happening : List (Result Event Unmade)
happening =
    Ok (Interrupt 3)
    ∷ Ok (Trap FCD) ∷ Ok Instruction ∷ Err (Stopped NoArea)
    ∷ Err (Refused (Table 0))
    ∷ Ok Instruction ∷ Ok Instruction ∷ Ok Instruction ∷ Ok Instruction ∷ Ok Instruction
    ∷ Ok Instruction
    ∷ Ok (Trap MPX) ∷ []

-- after the returns: D, A and PSW are those of the contexts that were saved before the series
abbrev pub loaded : Registers
loaded =
    registers
    (0x71 ∷ 0x72 ∷ 0x73 ∷ 0x74 ∷ 0x75 ∷ 0x76 ∷ 0x77 ∷ 0x78 ∷ 0x51 ∷ 0x52 ∷ 0x53 ∷ 0x54 ∷ 0x55 ∷ 0x56 ∷ 0x57 ∷ 0x58 ∷ [])
    (0x21 ∷ 0x22 ∷ 0x61 ∷ 0x62 ∷ 0x63 ∷ 0x64 ∷ 0x65 ∷ 0x66 ∷ 0x29 ∷ 0x2A ∷ 0x41 ∷ 0x42 ∷ 0x43 ∷ 0x44 ∷ 0x45 ∷ 0x46 ∷ [])
    (0x8000_0008 ∷ 0x0000_0B80 ∷ 0 ∷ 0x000D_0002 ∷ 0x000C_0000 ∷ 0x0000_0105 ∷ 0x9000_0000 ∷ 0x8000_0000 ∷ 0x8000_0000 ∷ 2 ∷ [])

-- the windows that the areas lie in
abbrev pub spots : Memory → List Link → List Spot
spots m [] = []
spots m (l ∷ ls) = spot_of m l ∷ spots m ls

pub record Witness : Type 0 where
  pub accepted : start_verdict start.memory interrupted.bytes (pc start.registers) (fcx start.registers) (pcxi start.registers) ≡ (Ok tt)
  pub agree : Agree start begun
  -- the free list crosses from the first window to the second and back, the used one from the second to the first
  pub crossing : spots start.memory (listed begun) ≡ First 0 ∷ Second 0 ∷ First 64 ∷ Second 64 ∷ First 128 ∷ []
  pub quiet : AllQuiet (listed begun) (all_args calls start)
  pub happened : outcomes (all_args calls start) ≡ happening
  -- the abstract lists, as they come to be
  pub no_area_left : moved_all (all_args saving_calls start) begun ≡ depleted
  pub no_area_used : moved_all (all_args (saving_calls ++ returning_calls) start) begun ≡ all_free
  pub after : moved_all (all_args calls start) begun ≡ ended
  pub restored : (after_all (saving_calls ++ returning_calls) start).registers ≡ loaded
  -- the word that was stored is there
  pub stored : word_at (after_all calls start).memory.bytes 320 ≡ 1
  -- and so demand 3 has this case
  pub claim : Claim start begun calls

-- The claim of demand 3.
use Rattle.std.specs.Prelude.{ℕ, ◌≤◌, ◌≡◌, List, [], ◌∷◌, ◌++◌, Err, Ok, Result, Some, ⊤}
use Rattle.memory.specs.Memory.{Memory}
use Rattle.memory.specs.Word.{word_at}
use Rattle.fields.specs.Pcxi.{pcxi_ul}
use Rattle.registers.specs.Registers.{fcx, pcxi}
use Rattle.registers.specs.declared.Registers.{Registers}
use Rattle.fields.specs.Link.{link_of}
use Rattle.areas.specs.Place.{place_of}
use Rattle.areas.specs.Area.{area_at}
use Rattle.fields.specs.declared.link.Link.{Link}
use Rattle.lists.specs.Lists.{Leads, count}
use Rattle.contexts.specs.Context.{ul_of}
use Rattle.execute.specs.Decision.{Decision, Keep, Write, Save, Return}
use Rattle.series.specs.Abstract.{named, held, SavedContext, AbstractLists, links}
use Rattle.series.specs.Calls.{Call, State, after_all, Args, step_at, all_args}
use Rattle.series.specs.Conditions.{verdict_at, decision_at, moved_at, moved_all, AllQuiet}
use Rattle.inputs.specs.declared.verdict.Refusal.{Refusal}
use Rattle.events.specs.declared.event.Event.{Event}
use Rattle.machine.specs.declared.answer.Unmade.{Unmade}
use Rattle.machine.specs.declared.answer.Unmade.TheVariants.{Refused, Stopped}

-- link 0 ends a list
abbrev pub end : Link
end = record { 0 = 0 }

-- from the word w the saved contexts are met, in order, and then link 0: one of the windows has each area, the word that links to it has its half as UL, and it holds its registers
abbrev pub Stacked : Memory → ℕ → List SavedContext → Type 0
Stacked m w [] = link_of w ≡ end
Stacked m w (c ∷ cs) =
    (link_of w ≡ c.link)
    × (c.link.0 ≡ 0 → ⊥)
    × (pcxi_ul w ≡ ul_of c.half)
    × (at : ℕ)
    × (place_of m c.link ≡ Some at)
    × (held c.half (area_at m.bytes at) ≡ c.registers)
    × Stacked m (word_at m.bytes at) cs

-- the lists in memory are the abstract ones: the links met from FCX, in order, and the saved contexts from PCXI
pub record Agree (s : State) (b : AbstractLists) : Type 0 where
  pub free : Leads s.memory (link_of (fcx s.registers)) b.free end
  pub saved : Stacked s.memory (pcxi s.registers) b.saved

-- the areas listed at the start
abbrev pub listed : AbstractLists → List Link
listed b = b.free ++ links b.saved

-- a return has the half of the context that comes off, and after it each register of the half is as entered
abbrev pub RestoredBy : Decision → Registers → AbstractLists → Type 0
RestoredBy (Keep p) q b = Unit {0}
RestoredBy (Write op at v p) q b = Unit {0}
RestoredBy (Save e half saved-pc then) q b = Unit {0}
RestoredBy (Return half then) q b = (c : SavedContext) × (cs : List SavedContext) × (b.saved ≡ c ∷ cs) × (c.half ≡ half) × (named half q ≡ c.registers)

-- a step that is not made moves nothing
abbrev pub StopsBy : Result Event Unmade → AbstractLists → AbstractLists → Type 0
StopsBy (Ok e) before now = Unit {0}
StopsBy (Err (Stopped x)) before now = now ≡ before
StopsBy (Err (Refused x)) before now = now ≡ before

abbrev pub StepBy : Result ⊤ Refusal → Args → AbstractLists → Type 0
StepBy (Err x) a b = Unit {0}
StepBy (Ok _) a b = RestoredBy (decision_at a) (step_at a).registers b

-- of each step: its return, if it has one, restores; and if it is refused or stopped, the abstract lists are as before
abbrev pub EachStep : List Args → AbstractLists → Type 0
EachStep [] b = Unit {0}
EachStep (a ∷ rest) b = StepBy (verdict_at a) a b × StopsBy (step_at a).outcome b (moved_at a b) × EachStep rest (moved_at a b)

-- of a series from the state s, with the abstract lists b there
pub record Claim (s : State) (b : AbstractLists) (cs : List Call) : Type 0 where
  pub agree : Agree (after_all cs s) (moved_all (all_args cs s) b)
  -- every area listed at the start stands exactly once on the two lists together, and no other does
  pub same : (l : Link) → count l (listed (moved_all (all_args cs s) b)) ≡ count l (listed b)
  pub once : (l : Link) → count l (listed b) ≤ 1
  pub steps : EachStep (all_args cs s) b

-- demand 3 from one start: the lists at the start have their abstract lists, and for any of these and any series that meets the two conditions the claim holds
pub record Follows (s : State) : Type 0 where
  pub begins : (b : AbstractLists) × Agree s b
  pub holds : (b : AbstractLists) → Agree s b → (cs : List Call) → AllQuiet (listed b) (all_args cs s) → Claim s b cs

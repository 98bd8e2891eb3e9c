-- Demand 3's two conditions, of each step of a series, and the abstract lists over it.
use Rattle.std.specs.Prelude.{ℕ, ◌+◌, ◌≤◌, ◌<◌, ◌≡◌, false, List, [], ◌∷◌, Err, Ok, Result, Some, ⊤}
use Rattle.memory.specs.Memory.{Memory}
use Rattle.registers.specs.Registers.{pc}
use Rattle.areas.specs.Place.{place_of}
use Rattle.fields.specs.declared.link.Link.{Link}
use Rattle.operations.specs.declared.Store.{Store}
use Rattle.accesses.specs.Store.{size_of}
use Rattle.lists.specs.Lists.{count}
use Rattle.inputs.specs.Checks.{step_verdict}
use Rattle.decisions.specs.Heads.{step_heads}
use Rattle.execute.specs.Decision.{Decision, Keep, Write, Save, Return}
use Rattle.decisions.specs.Decision.{decision_of}
use Rattle.series.specs.Abstract.{AbstractLists, ListMove, none, list_move_of, moved}
use Rattle.series.specs.Calls.{Args}
use Rattle.inputs.specs.declared.verdict.Refusal.{Refusal}

-- a step is decided where the rules 1, 13 and 2 to 4 accept it
abbrev pub verdict_at : Args → Result ⊤ Refusal
verdict_at a = step_verdict a.memory a.image.bytes (pc a.registers)

abbrev pub decision_at : Args → Decision
decision_at a = decision_of a.image.bytes a.registers a.requests a.ranges a.memory

abbrev pub move_by : Result ⊤ Refusal → Args → ListMove
move_by (Err x) a = none
move_by (Ok _) a = list_move_of (decision_at a) a.registers

-- the abstract lists after a step: fed the step's arguments
unfoldable pub moved_at : Args → AbstractLists → AbstractLists
moved_at a b = moved (move_by (verdict_at a) a) b

abbrev pub moved_all : List Args → AbstractLists → AbstractLists
moved_all [] b = b
moved_all (a ∷ rest) b = moved_all rest (moved_at a b)

-- no byte that is stored is one of a listed area
abbrev pub Apart : List Link → Memory → Store → ℕ → Type 0
Apart listed m op at =
    (l : Link) → 1 ≤ count l listed → (area : ℕ) → place_of m l ≡ Some area → (k : ℕ) → at ≤ k → k < at + size_of op → area ≤ k → k < area + 64 → ⊥

-- a store that doesn't trap is decided as a write
abbrev pub StoreApart : List Link → Memory → Decision → Type 0
StoreApart listed m (Keep q) = Unit {0}
StoreApart listed m (Write op at v q) = Apart listed m op at
StoreApart listed m (Save e half saved-pc then) = Unit {0}
StoreApart listed m (Return half then) = Unit {0}

-- no store that doesn't trap reaches a listed area, and no MTCR that doesn't trap writes FCX or PCXI
pub record Quiet (listed : List Link) (a : Args) : Type 0 where
  pub stores : StoreApart listed a.memory (decision_at a)
  pub heads : step_heads a.image.bytes a.registers a.requests a.ranges ≡ false

abbrev pub QuietBy : Result ⊤ Refusal → List Link → Args → Type 0
QuietBy (Err x) listed a = Unit {0}
QuietBy (Ok _) listed a = Quiet listed a

abbrev pub AllQuiet : List Link → List Args → Type 0
AllQuiet listed [] = Unit {0}
AllQuiet listed (a ∷ rest) = QuietBy (verdict_at a) listed a × AllQuiet listed rest

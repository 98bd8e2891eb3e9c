-- What the inner loop works with: an accepted machine whose values are those that the code can hold.
use Rattle.std.specs.Prelude.{◌≡◌, ℕ, ◌+◌, ◌-◌, ◌<◌, ◌≤◌, false, cond, not, ◌&&◌, List, ◌==◌, Err, Ok, Result}
use Rattle.memory.specs.Memory.{Memory}
use Rattle.fields.specs.Icr.{icr_ie}
use Rattle.registers.specs.Registers.{pc, icr}
use Rattle.registers.specs.declared.Registers.{Registers}
use Rattle.events.specs.declared.event.Event.{Event}
use Rattle.protection.specs.declared.range.Range.{Range}
use Rattle.interrupts.specs.Sources.{best, best_of, takes}
use Rattle.interrupts.specs.declared.Best.{Best}
use Rattle.inputs.specs.Checks.{step_verdict}
use Rattle.decisions.specs.Valid.{Valid, Bytes}
use Rattle.machine.specs.Run.{RunOf, ran, run_from}
use Rattle.machine.specs.declared.instructions.Paced.{Paced}
use Rattle.events.specs.declared.event.Stop.{Stop}
use Rattle.machine.specs.declared.answer.Unmade.TheVariants.{Stopped}

-- the source that n steps from that ICR on begin with: the best one; none, which is 16 and 0, for a single step with IE 0
unfoldable pub foremost_of : ℕ → ℕ → List ℕ → Best
foremost_of n icr xs = cond (n == 1 && not (icr_ie icr)) (best 16 0) (best_of xs)

pub record Ready (img : List ℕ) (r : Registers) (m : Memory) : Type 0 where
  pub accepted : step_verdict m img (pc r) ≡ (Ok tt)
  pub image : Bytes img
  pub valid : Valid r
  pub bytes : Bytes m.bytes

abbrev pub paced : Result Event Stop → ℕ → Paced
paced e left = record { ending = e; left = left }

-- one step of n that ended so: a stop is no step made
abbrev pub paced_after : Result Event Stop → ℕ → Paced
paced_after (Ok e) n = paced (Ok e) (n - 1)
paced_after (Err s) n = paced (Err s) n

-- what is left of a run after some steps of which the last ended so
abbrev pub left_by : Result Event Stop → ℕ → List ℕ → List Range → ℕ → Registers → List ℕ → Memory → RunOf
left_by (Ok e) left img rs made r xs m = run_from left img rs (Ok e) made r xs m
left_by (Err s) left img rs made r xs m = ran (Err (Stopped s)) made r xs m

-- some steps of n from (r, m) on lead to (q, w), with requests of which none is taken before the first: at least one, unless it stops
pub record Paces (n : ℕ) (img : List ℕ) (rs : List Range) (r : Registers) (m : Memory) (p : Paced) (q : Registers) (w : Memory) : Type 0 where
  pub most : p.left ≤ n
  pub some : (e : Event) → p.ending ≡ Ok e → p.left < n
  pub ready : (xs : List ℕ) → takes (icr r) (best_of xs).level ≡ false → Ready img q w
  pub run : (xs : List ℕ) → takes (icr r) (best_of xs).level ≡ false → (last : Event) (made : ℕ)
      → left_by p.ending p.left img rs (made + (n - p.left)) q xs w ≡ run_from n img rs (Ok last) made r xs m

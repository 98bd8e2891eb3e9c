-- A step by its beginning: an interrupt, a trap of the fetch, an instruction.
-- Assumes nothing.
use Prim.Native.Nat.{ℕ}
use mathlib.Core.Path.{◌≡◌, refl}
use mathlib.Core.Bool.{true, false}
use mathlib.Core.List.{List}
use Rattle.memory.specs.Address.{as_address}
use Rattle.memory.specs.Memory.{Memory}
use Rattle.registers.specs.Registers.{pc, icr}
use Rattle.registers.specs.declared.Registers.{Registers}
use Rattle.events.specs.declared.trap.Trap.{Trap}
use Rattle.protection.specs.declared.range.Range.{Range}
use Rattle.protection.specs.declared.range.Right.TheVariants.{Execute}
use Rattle.protection.specs.Access.{check_of}
use Rattle.interrupts.specs.Sources.{best_of, takes, cleared_at}
use Rattle.image.specs.Fetch.{fetch_of}
use Rattle.image.specs.declared.fetch.Instruction.{Instruction}
use Rattle.entries.specs.Entry.{MadeOf, enter_of}
use Rattle.entries.specs.declared.entry.Cause.TheVariants as cause
use Rattle.execute.specs.Decision.{performed_of}
use Rattle.execute.specs.Execute.{execute_of}
use Rattle.decisions.specs.Beginning.{Traps, Executes, check_begins, fetching_at, beginning_of}
use Rattle.decisions.specs.Decision.{decided_by, decision_of, one_of, cleared_by, requests_of}
use Rattle.std.specs.Prelude.{Err, None, Ok, Option, Result, Some, ⊤}

-- a fetch clears no request
clears_none : (xs : List ℕ) (c : Result ⊤ Trap) (f : Option Instruction) → cleared_by xs (check_begins c f) ≡ xs
clears_none xs (Err t) f = refl
clears_none xs (Ok _) None = refl
clears_none xs (Ok _) (Some i) = refl

fetch_clears : (xs img core : List ℕ) (rs : List Range) (pc : ℕ) → cleared_by xs (fetching_at img core rs pc) ≡ xs
unfolding fetching_at
fetch_clears xs img core rs pc = clears_none xs (check_of core rs Execute (as_address pc)) (fetch_of img pc)

-- a step that takes no interrupt
unfoldable pub fetched_step : List ℕ → Registers → List Range → Memory → MadeOf
fetched_step img r rs m = performed_of (decided_by r rs m (fetching_at img r.core rs (pc r))) r m

module _ (img : List ℕ) (r : Registers) (rs : List Range) (m : Memory) where
  pub executes : (i : Instruction) → fetching_at img r.core rs (pc r) ≡ Executes i → execute_of i r rs m ≡ fetched_step img r rs m
  unfolding execute_of fetched_step
  executes i e = rw e

  pub traps : (t : Trap) → fetching_at img r.core rs (pc r) ≡ Traps t → enter_of (cause.Trap t (pc r)) r m ≡ fetched_step img r rs m
  unfolding enter_of fetched_step
  traps t e = rw e

  -- ---- with the requests xs none is taken, or the best source
  module _ (xs : List ℕ) where
    pub quiet_one : takes (icr r) (best_of xs).level ≡ false → fetched_step img r rs m ≡ one_of img r xs rs m
    unfolding fetched_step one_of decision_of beginning_of
    quiet_one e = rw e

    pub quiet_requests : takes (icr r) (best_of xs).level ≡ false → requests_of img r xs rs ≡ xs
    unfolding requests_of beginning_of
    quiet_requests e = rw e (fetch_clears xs img r.core rs (pc r))

    pub taken_one : takes (icr r) (best_of xs).level ≡ true → (let b = best_of xs in enter_of (cause.Interrupt b.source b.level) r m) ≡ one_of img r xs rs m
    unfolding one_of decision_of beginning_of enter_of
    taken_one e = rw e

    pub taken_requests : takes (icr r) (best_of xs).level ≡ true → cleared_at xs (best_of xs).source ≡ requests_of img r xs rs
    unfolding requests_of beginning_of
    taken_requests e = rw e

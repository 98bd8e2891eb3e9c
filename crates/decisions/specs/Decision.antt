-- A step of an accepted machine: what is decided, from its beginning, is performed.
use Rattle.std.specs.Prelude.{ℕ, List}
use Rattle.memory.specs.Memory.{Memory}
use Rattle.registers.specs.Registers.{pc}
use Rattle.registers.specs.declared.Registers.{Registers}
use Rattle.protection.specs.declared.range.Range.{Range}
use Rattle.interrupts.specs.Sources.{cleared_at}
use Rattle.entries.specs.Entry.{MadeOf}
use Rattle.entries.specs.declared.entry.Cause.TheVariants as cause
use Rattle.execute.specs.Decision.{Decision, entry_for, act_decides, performed_of}
use Rattle.execute.specs.Execute.{act_of}
use Rattle.decisions.specs.Beginning.{Beginning, Interrupts, Traps, Executes, beginning_of}

abbrev pub decided_by : Registers → List Range → Memory → Beginning → Decision
decided_by r rs m (Interrupts b) = entry_for (cause.Interrupt b.source b.level)
decided_by r rs m (Traps t) = entry_for (cause.Trap t (pc r))
decided_by r rs m (Executes i) = act_decides i.next r (act_of i r rs m)

-- what the step is to do
unfoldable pub decision_of : List ℕ → Registers → List ℕ → List Range → Memory → Decision
decision_of img r xs rs m = decided_by r rs m (beginning_of img r.core xs rs)

-- the step
unfoldable pub one_of : List ℕ → Registers → List ℕ → List Range → Memory → MadeOf
one_of img r xs rs m = performed_of (decision_of img r xs rs m) r m

-- the request of an interrupt that is taken clears
abbrev pub cleared_by : List ℕ → Beginning → List ℕ
cleared_by xs (Interrupts b) = cleared_at xs b.source
cleared_by xs (Traps t) = xs
cleared_by xs (Executes i) = xs

unfoldable pub requests_of : List ℕ → Registers → List ℕ → List Range → List ℕ
requests_of img r xs rs = cleared_by xs (beginning_of img r.core xs rs)

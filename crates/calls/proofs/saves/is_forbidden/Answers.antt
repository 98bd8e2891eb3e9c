use Rattle.calls.specs.Saves.{forbids}
use Rattle.calls.proofs.saves.is_forbidden.Goals as goal

pub returns-then-bisr : goal.returns-then-bisr
unfolding forbids
returns-then-bisr c = rw (c.if-bisr.true, c.supervisor.ensures)

pub returns-else-bisr : goal.returns-else-bisr
unfolding forbids
returns-else-bisr c = rw c.if-bisr.false

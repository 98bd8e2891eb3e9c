use Rattle.calls.specs.Saves.{bisr_then}
use Rattle.calls.proofs.saves.set_after.Goals as goal
use Rattle.calls.proofs.saves.set_after.Goals.{then-bisr, else-bisr}

pub returns : goal.returns
unfolding bisr_then
returns c =
    elim c.if-bisr.branch [
      | then-bisr w ↦ rw (w.registers-is, w.if-bisr.true, w.written.ensures)
      | else-bisr w ↦ rw (w.registers-is, w.if-bisr.false)
    ]

use native.Mathlib.Omega.{arith}
use Rattle.walk.proofs.Texts.{then}
use Rattle.walk.proofs.lines.put_unmade.Goals as goal

pub put_end-requires : goal.put_end-requires
put_end-requires c = omega (arith, c.put_stop-stopped.ensures.room, c.put_stop-stopped.ensures.size)

pub returns-in-Stopped : goal.returns-in-Stopped
returns-in-Stopped c = rw c.in-Stopped.is (then c.put_stop-stopped.ensures c.put_end.ensures)

pub returns-in-Refused : goal.returns-in-Refused
returns-in-Refused c = rw c.in-Refused.is (let w = c.put_refused.ensures in record { bytes = w.bytes; ends = w.ends; size = w.size; room = omega (arith, w.room); fits = w.fits })

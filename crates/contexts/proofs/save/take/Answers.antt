use native.Mathlib.Omega.{arith}
use Rattle.contexts.proofs.save.take.Goals as goal

pub saved-requires : goal.saved-requires
saved-requires c = rw c.link_of.ensures (omega arith)

pub returns : goal.returns
returns c = record { taken = rw (c.saved.ensures, c.link_of.ensures, c.ul.ensures, c.write_area.ensures.written); length_kept = c.write_area.ensures.length_kept }

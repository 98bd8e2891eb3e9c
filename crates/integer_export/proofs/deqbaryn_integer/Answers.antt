use Rattle.integer_export.specs.Export.{export_of}
use Rattle.integer_export.proofs.deqbaryn_integer.Goals as goal

pub returns-in-Integer : goal.returns-in-Integer
unfolding export_of
returns-in-Integer c = rw (← c.decode.ensures, c.in-Integer.is, ← c.compute.ensures, ← c.packed.ensures)

pub returns-in-Nop : goal.returns-in-Nop
unfolding export_of
returns-in-Nop c = rw (← c.decode.ensures, c.in-Nop.is)

pub returns-in-Move : goal.returns-in-Move
unfolding export_of
returns-in-Move c = rw (← c.decode.ensures, c.in-Move.is)

pub returns-in-Load : goal.returns-in-Load
unfolding export_of
returns-in-Load c = rw (← c.decode.ensures, c.in-Load.is)

pub returns-in-Store : goal.returns-in-Store
unfolding export_of
returns-in-Store c = rw (← c.decode.ensures, c.in-Store.is)

pub returns-in-Jump : goal.returns-in-Jump
unfolding export_of
returns-in-Jump c = rw (← c.decode.ensures, c.in-Jump.is)

pub returns-in-Context : goal.returns-in-Context
unfolding export_of
returns-in-Context c = rw (← c.decode.ensures, c.in-Context.is)

pub returns-in-System : goal.returns-in-System
unfolding export_of
returns-in-System c = rw (← c.decode.ensures, c.in-System.is)

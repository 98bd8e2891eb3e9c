use mathlib.Core.Path.{sym, ◌∙◌}
use Rattle.fields.proofs.RangeSets.{prs_reset}
use Rattle.acts.specs.Acts.{done_of}
use Rattle.acts.proofs.Steadiness.{steady_next, steady_flags, done_ended}
use Rattle.system.specs.Instructions.{system_of}
use Rattle.system.proofs.instructions.execute_system.Goals as goal

pub returns-then-not-supervisor : goal.returns-then-not-supervisor
unfolding system_of
returns-then-not-supervisor c = rw (c.in-Mtcr.is, sym c.supervisor.ensures ∙ c.if-not-supervisor.true)

pub returns-then-overflow : goal.returns-then-overflow
unfolding system_of
returns-then-overflow c = rw (c.in-Trapv.is, ← c.overflow.ensures, c.if-overflow.true)

pub returns-then-sticky_overflow : goal.returns-then-sticky_overflow
unfolding system_of
returns-then-sticky_overflow c = rw (c.in-Trapsv.is, ← c.sticky_overflow.ensures, c.if-sticky_overflow.true)

pub returns-in-Enable : goal.returns-in-Enable
unfolding system_of
returns-in-Enable c = rw c.in-Enable.is c.set_enable.ensures

pub returns-in-Disable : goal.returns-in-Disable
unfolding system_of
returns-in-Disable c = rw c.in-Disable.is c.set_enable-in-Disable.ensures

pub returns-in-Mfcr : goal.returns-in-Mfcr
unfolding system_of
returns-in-Mfcr c = rw (c.in-Mfcr.is, c.read_core.ensures) (done_ended (steady_next _ _ _ _))

pub returns-else-not-supervisor : goal.returns-else-not-supervisor
unfolding system_of done_of
returns-else-not-supervisor c = rw (c.in-Mtcr.is, sym c.supervisor.ensures ∙ c.if-not-supervisor.false, c.settled.ensures, c.control_of-before.ensures, ← c.write_core.ensures)

pub returns-else-overflow : goal.returns-else-overflow
unfolding system_of
returns-else-overflow c = rw (c.in-Trapv.is, ← c.overflow.ensures, c.if-overflow.false) (done_ended (steady_next _ _ _ _))

pub returns-else-sticky_overflow : goal.returns-else-sticky_overflow
unfolding system_of
returns-else-sticky_overflow c = rw (c.in-Trapsv.is, ← c.sticky_overflow.ensures, c.if-sticky_overflow.false) (done_ended (steady_next _ _ _ _))

pub returns-in-Rstv : goal.returns-in-Rstv
unfolding system_of
returns-in-Rstv c = rw (c.in-Rstv.is, c.reset.ensures) (done_ended (steady_flags _ _ _ _ _ (prs_reset _)))

use Rattle.entries.specs.Entry.{interrupt_entry}
use Rattle.entries.proofs.setting.enter_interrupt.Goals as goal

pub returns : goal.returns
unfolding interrupt_entry
returns c = rw (← c.enter.ensures, c.new_pc.ensures, c.written.ensures)

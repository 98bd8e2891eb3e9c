use Rattle.entries.specs.Entry.{trap_entry}
use Rattle.entries.proofs.setting.enter_trap.Goals as goal

pub returns : goal.returns
unfolding trap_entry
returns c = rw (← c.enter.ensures, c.new_pc.ensures, c.written.ensures, c.priority.ensures)

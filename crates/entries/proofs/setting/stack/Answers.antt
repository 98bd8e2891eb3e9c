use Rattle.entries.specs.Entry.{stack_of}
use Rattle.entries.proofs.setting.stack.Goals as goal

pub returns-then-interrupt_stack : goal.returns-then-interrupt_stack
unfolding stack_of
returns-then-interrupt_stack c = rw (← c.interrupt_stack.ensures, c.if-interrupt_stack.true)

pub returns : goal.returns
unfolding stack_of
returns c = rw (← c.interrupt_stack.ensures, c.if-interrupt_stack.false)

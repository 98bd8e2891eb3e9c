use Rattle.entries.specs.Entry.{entered_of}
use Rattle.entries.proofs.setting.enter.Goals as goal

pub returns : goal.returns
unfolding entered_of
returns c = rw c.stack.ensures

use Rattle.fields.specs.Psw.{overflowed_of}
use Rattle.fields.proofs.psw.with_overflow.Goals as goal

pub returns : goal.returns
unfolding overflowed_of
returns c = rw (← c.carry.ensures) c.with_flags.ensures

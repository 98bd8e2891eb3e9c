use Rattle.walk.specs.Text.{refused_of}
use Rattle.walk.proofs.Texts.{then}
use Rattle.walk.proofs.lines.put_refused.Goals as goal

pub returns : goal.returns
unfolding refused_of
returns c = rw (← c.number.ensures, ← c.fault.ensures) (then (then (then (then c.put-named.ensures c.put_decimal-next.ensures) c.put-space.ensures) c.put_decimal-last.ensures) c.put.ensures)

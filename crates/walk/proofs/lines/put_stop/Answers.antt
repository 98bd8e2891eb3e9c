use Rattle.walk.specs.Text.{stop_of}
use Rattle.walk.proofs.Texts.{then}
use Rattle.walk.proofs.lines.put_stop.Goals as goal

pub returns : goal.returns
unfolding stop_of
returns c = rw (← c.stop_number.ensures) (then (then c.put-named.ensures c.put_decimal-next.ensures) c.put.ensures)

use Rattle.walk.specs.Text.{end_of}
use Rattle.walk.proofs.Texts.{then}
use Rattle.walk.proofs.lines.put_end.Goals as goal

pub returns : goal.returns
unfolding end_of
returns c = (then (then c.put-named.ensures c.put_decimal-next.ensures) c.put.ensures)

use Rattle.walk.specs.Text.{line_of}
use Rattle.walk.proofs.Texts.{then}
use Rattle.walk.proofs.lines.put_line.Goals as goal

pub returns : goal.returns
unfolding line_of
returns c = (then (then (then (then (then c.put_name-named.ensures c.put_field-one.ensures) c.put_field-two.ensures) c.put_field-three.ensures) c.put_field-four.ensures) c.put.ensures)

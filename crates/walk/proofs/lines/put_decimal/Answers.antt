use Rattle.walk.specs.Text.{decimal_of}
use Rattle.walk.proofs.Texts.{then}
use native.Mathlib.Omega.{arith}
use Rattle.walk.proofs.lines.put_decimal.Goals as goal

pub put_digit-i-requires : goal.put_digit-i-requires
put_digit-i-requires c =
    let w = (then (then (then (then (then (then (then c.put_digit-a.ensures c.put_digit-b.ensures) c.put_digit-c.ensures) c.put_digit-d.ensures) c.put_digit-e.ensures) c.put_digit-f.ensures) c.put_digit-g.ensures) c.put_digit-h.ensures) in
    (omega arith, omega (arith, c.requires, w.room, w.size))

pub put-requires : goal.put-requires
put-requires c =
    let w = (then (then (then (then (then (then (then (then c.put_digit-a.ensures c.put_digit-b.ensures) c.put_digit-c.ensures) c.put_digit-d.ensures) c.put_digit-e.ensures) c.put_digit-f.ensures) c.put_digit-g.ensures) c.put_digit-h.ensures) c.put_digit-i.ensures) in
    omega (arith, c.requires, w.room, w.size)

pub shape_of-out : goal.shape_of-out
shape_of-out c = (then (then (then (then (then (then (then (then (then c.put_digit-a.ensures c.put_digit-b.ensures) c.put_digit-c.ensures) c.put_digit-d.ensures) c.put_digit-e.ensures) c.put_digit-f.ensures) c.put_digit-g.ensures) c.put_digit-h.ensures) c.put_digit-i.ensures) c.put.ensures).size

pub returns : goal.returns
unfolding decimal_of
returns c = rw (← c.digit.ensures) (then (then (then (then (then (then (then (then (then c.put_digit-a.ensures c.put_digit-b.ensures) c.put_digit-c.ensures) c.put_digit-d.ensures) c.put_digit-e.ensures) c.put_digit-f.ensures) c.put_digit-g.ensures) c.put_digit-h.ensures) c.put_digit-i.ensures) c.put.ensures)

use mathlib.Core.Path.{ap, ◌∙◌}
use lib.ListN.{length}
use Rattle.walk.specs.Text.{field_of}
use Rattle.walk.proofs.Texts.{then, roomier, hex_length}
use native.Mathlib.Omega.{arith}
use Rattle.walk.proofs.lines.put_field.Goals as goal

pub returns : goal.returns
unfolding field_of
returns c =
    let e = ap length c.hex-digits.ensures ∙ hex_length _ in
    rw (← c.hex-digits.ensures) (roomier (omega arith) (then c.put-next.ensures c.put.ensures))

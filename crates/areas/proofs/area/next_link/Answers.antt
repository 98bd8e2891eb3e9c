use native.Mathlib.Omega.{arith}
use mathlib.Core.Path.{ap, ◌∙◌}
use lib.ListN.{length}
use Rattle.memory.specs.Memory.{lent}
use Rattle.areas.proofs.Parts.{area_64}
use Rattle.areas.proofs.area.next_link.Goals as goal

pub word_at-requires : goal.word_at-requires
word_at-requires c =
    let p = c in
    let m = lent p.args.base p.args.window.now p.args.base2 p.args.window2.now in
    omega (arith, ap length c.area.ensures ∙ area_64 m p.args.l p.requires.0 p.requires.1)

pub returns : goal.returns
returns c = rw (c.link_of.ensures, c.word_at.ensures, c.area.ensures)

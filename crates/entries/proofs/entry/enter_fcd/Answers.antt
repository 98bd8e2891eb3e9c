use mathlib.Core.Path.{◌≡◌, sym, ◌∙◌}
use Rattle.std.proofs.Common.{rules}
use Rattle.std.specs.Prelude.{Err}
use Rattle.contexts.specs.declared.context.Half.TheVariants.{Upper}
use Rattle.contexts.proofs.Saves.{area_lies, spot_in, taken_is}
use Rattle.entries.specs.Entry.{fcd_of}
use Rattle.entries.proofs.entry.enter_fcd.Goals as goal

pub returns-in_err-find : goal.returns-in_err-find
unfolding fcd_of
returns-in_err-find c =
    let p : c.from_residual.result ≡ Err c.in_err-find.field-0.0 = search rules in
    rw (p, ← (rw c.link_of-l.ensures at c.find.ensures), c.in_err-find.was)

pub next_link-next-requires : goal.next_link-next-requires
next_link-next-requires c = rw c.link_of-l.ensures (area_lies c.args.registers.now.core c.args.window.now c.args.window2.now c.args.base c.args.base2 _ (sym (rw c.link_of-l.ensures at c.find.ensures) ∙ c.in_ok-find.was))

pub take-requires : goal.take-requires
take-requires c = spot_in c.args.registers.now.core c.args.window.now c.args.window2.now c.args.base c.args.base2 _ (sym (rw c.link_of-l.ensures at c.find.ensures) ∙ c.in_ok-find.was) _ (rw c.link_of-l.ensures at c.spot_of-at.ensures)

pub returns : goal.returns
unfolding fcd_of
returns c =
    let t = taken_is c.args.registers.now.core c.args.window.now c.args.window2.now c.args.base c.args.base2 _ (sym (rw c.link_of-l.ensures at c.find.ensures) ∙ c.in_ok-find.was) Upper c.upper-words.result _ (rw c.link_of-l.ensures at c.next_link-next.ensures) c.spot_of-at.result (rw c.link_of-l.ensures at c.spot_of-at.ensures) in
    let u = c.take.ensures.taken ∙ t in
    rw (← (rw c.link_of-l.ensures at c.find.ensures), c.in_ok-find.was, ← c.upper-words.ensures, ← u, c.take.ensures.length_kept, ← c.enter_trap.ensures)

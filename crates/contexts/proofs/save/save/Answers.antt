use mathlib.Core.Path.{◌≡◌, sym, ◌∙◌}
use Rattle.std.proofs.Common.{rules}
use Rattle.std.specs.Prelude.{Err}
use Rattle.contexts.proofs.Saves.{save_stops, area_lies, spot_in, save_foreseen, save_made}
use Rattle.contexts.proofs.save.save.Goals as goal

pub next_link-next-requires : goal.next_link-next-requires
next_link-next-requires c = rw c.link_of-l.ensures (area_lies c.args.registers.now.core c.args.window.now c.args.window2.now c.args.base c.args.base2 _ (sym (rw c.link_of-l.ensures at c.find.ensures) ∙ c.in_ok-find.was))

pub take-requires : goal.take-requires
take-requires c = spot_in c.args.registers.now.core c.args.window.now c.args.window2.now c.args.base c.args.base2 _ (sym (rw c.link_of-l.ensures at c.find.ensures) ∙ c.in_ok-find.was) _ (rw c.link_of-l.ensures at c.spot_of-at.ensures)

pub returns-in_err-find-clause-saved : goal.returns-in_err-find-clause-saved
returns-in_err-find-clause-saved c =
    let p : c.from_residual.result ≡ Err c.in_err-find.field-0.0 = search rules in
    rw p (save_stops c.args.registers.now.core c.args.window.now c.args.window2.now c.args.base c.args.base2 _ _ _ (sym (rw c.link_of-l.ensures at c.find.ensures) ∙ c.in_err-find.was))

pub returns-in_err-saved-clause-saved : goal.returns-in_err-saved-clause-saved
returns-in_err-saved-clause-saved c =
    let p : c.from_residual-in_err-saved.result ≡ Err c.in_err-saved.field-0.0 = search rules in
    rw p
    (save_foreseen c.args.registers.now.core c.args.window.now c.args.window2.now c.args.base c.args.base2 _ (sym (rw c.link_of-l.ensures at c.find.ensures) ∙ c.in_ok-find.was) _ _ _
    (rw c.link_of-l.ensures at c.next_link-next.ensures) _ c.foresee.ensures _ c.in_err-saved.was)

pub returns-clause-saved : goal.returns-clause-saved
returns-clause-saved c =
    save_made c.args.registers.now.core c.args.window.now c.args.window2.now c.args.base c.args.base2 _ (sym (rw c.link_of-l.ensures at c.find.ensures) ∙ c.in_ok-find.was) _ _ _
    (rw c.link_of-l.ensures at c.next_link-next.ensures) _ c.foresee.ensures _ c.in_ok-saved.was _
    (rw c.link_of-l.ensures at c.spot_of-at.ensures) _ _ _ (rw c.context-words.ensures at c.take.ensures.taken) c.take.ensures.length_kept

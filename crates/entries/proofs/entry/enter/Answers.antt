use mathlib.Core.Path.{◌≡◌, ap}
use Rattle.std.proofs.Common.{rules}
use Rattle.std.specs.Prelude.{Err}
use Rattle.memory.specs.Memory.{lent}
use Rattle.registers.specs.declared.Registers.{Registers}
use Rattle.entries.specs.Entry.{made, enter_of}
use Rattle.entries.proofs.entry.enter.Goals as goal

pub returns-in_err-saved : goal.returns-in_err-saved
unfolding enter_of
returns-in_err-saved c =
    let p : c.from_residual.result ≡ Err c.in_err-saved.field-0.0 = search rules in
    rw (p, ← c.save.ensures.saved, c.in_err-saved.was) (ap (λ (q : Registers). made (Err c.in_err-saved.field-0.0) q (lent c.args.base c.save.new.window c.args.base2 c.save.new.window2)) c.save.ensures.others_kept)

pub returns-in-Done : goal.returns-in-Done
unfolding enter_of
returns-in-Done c = rw (← c.save.ensures.saved, c.in_ok-saved.was, c.in-Done.is, ← c.event_of.ensures, ← c.save.ensures.others_kept, ← c.set_entry.ensures)

pub returns-in-Depleted : goal.returns-in-Depleted
unfolding enter_of
returns-in-Depleted c = rw (← c.save.ensures.saved, c.in_ok-saved.was, c.in-Depleted.is, ← c.save.ensures.others_kept, ← c.set_entry.ensures) c.enter_fcd.ensures

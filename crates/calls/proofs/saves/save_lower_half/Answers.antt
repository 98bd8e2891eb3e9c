use mathlib.Core.Path.{sym, ◌∙◌}
use Rattle.acts.specs.Acts.{done_of}
use Rattle.calls.proofs.Lowers.{lower_forbidden, lower_saves}
use Rattle.calls.proofs.saves.save_lower_half.Goals as goal

pub returns-then-is_forbidden : goal.returns-then-is_forbidden
returns-then-is_forbidden c = rw (lower_forbidden c.args.imm c.args.next c.args.registers.now c.args.bisr (sym c.is_forbidden.ensures ∙ c.if-is_forbidden.true))

pub returns-in-Err : goal.returns-in-Err
returns-in-Err c = rw (lower_saves c.args.imm c.args.next c.args.registers.now c.args.bisr (sym c.is_forbidden.ensures ∙ c.if-is_forbidden.false), ← c.save.ensures.saved, c.in-Err.is, ← c.save.ensures.others_kept)

pub returns-in-Ok-Done : goal.returns-in-Ok-Done
unfolding done_of
returns-in-Ok-Done c = rw (lower_saves c.args.imm c.args.next c.args.registers.now c.args.bisr (sym c.is_forbidden.ensures ∙ c.if-is_forbidden.false), ← c.save.ensures.saved, c.in-Ok-Done.is, c.in-Ok-Done.field-0-is, ← c.save.ensures.others_kept, ← c.set_after.ensures, c.settled.ensures, c.control_of-before.ensures)

pub returns-in-Ok-Depleted : goal.returns-in-Ok-Depleted
returns-in-Ok-Depleted c = rw (lower_saves c.args.imm c.args.next c.args.registers.now c.args.bisr (sym c.is_forbidden.ensures ∙ c.if-is_forbidden.false), ← c.save.ensures.saved, c.in-Ok-Depleted.is, c.in-Ok-Depleted.field-0-is, ← c.save.ensures.others_kept, ← c.set_after-in-Ok-Depleted.ensures)

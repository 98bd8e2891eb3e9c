use Rattle.std.proofs.Common.{◌∙◌}
use Rattle.decisions.proofs.Beginnings.{traps}
use Rattle.machine.proofs.Turns.{image_holds}
use Rattle.machine.proofs.Walks.{stands_first, ends_after}
use Rattle.machine.proofs.instructions.instructions.Goals as goal

pub look_ahead-requires : goal.look_ahead-requires
look_ahead-requires c = (image_holds _ _ _ c.requires.ready.accepted, c.requires.guides)

pub steady_steps-requires : goal.steady_steps-requires
steady_steps-requires c = let p = rw c.in-Ok.is at c.look_ahead.ensures in record { ready = c.requires.ready; guides = c.requires.guides; lies_ahead = p; n_nonzero = c.requires.n_nonzero }

pub returns-in-Err : goal.returns-in-Err
returns-in-Err c = let p = rw c.in-Err.is at c.look_ahead.ensures in rw c.after_one.ensures (ends_after _ _ _ _ _ (stands_first _ _ _ _ _ c.requires.n_nonzero c.requires.ready) (c.trap.ensures ∙ traps _ _ _ _ _ p))

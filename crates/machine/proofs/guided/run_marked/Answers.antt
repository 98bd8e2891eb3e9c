use Rattle.std.proofs.Common.{sym, refl}
use Rattle.image.proofs.Marking.{unmarked_array}
use Rattle.machine.proofs.Turns.{image_holds}
use Rattle.machine.proofs.Guides.{marked}
use Rattle.machine.proofs.guided.run_marked.Goals as goal

pub mark_image-shift-requires : goal.mark_image-shift-requires
mark_image-shift-requires c = (image_holds _ _ _ c.requires.accepted, unmarked_array _)

pub slice_bounds-run_steps-end : goal.slice_bounds-run_steps-end
slice_bounds-run_steps-end c = sym c.mark_image-shift.ensures.marked.size

pub run_steps-requires : goal.run_steps-requires
run_steps-requires c = record { ready = c.requires; guides = marked _ _ _ refl c.mark_image-shift.ensures.marked.marks_hold }

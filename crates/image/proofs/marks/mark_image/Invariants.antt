use Rattle.std.proofs.Common.{◌≡◌}
use Rattle.image.specs.Marks.{image_marks, Marked}
use Rattle.image.proofs.marks.mark_image.Given as goal

abbrev pub invariant-loop-i : goal.invariant-loop-i
invariant-loop-i l = Marked l.image l.marks × (l.marks ≡ image_marks l.i l.image l.shift l.initial.marks)

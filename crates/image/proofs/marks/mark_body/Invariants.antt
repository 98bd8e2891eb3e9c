use Rattle.std.proofs.Common.{◌≡◌}
use Rattle.image.specs.Rest.{record_address}
use Rattle.image.specs.Marks.{body_marks, Marked}
use Rattle.image.proofs.marks.mark_body.Given as goal

abbrev pub invariant-loop-k : goal.invariant-loop-k
invariant-loop-k l = (l.here ≡ record_address l.image l.i l.k) × Marked l.image l.marks × (l.marks ≡ body_marks l.k l.image l.shift l.i l.initial.marks)

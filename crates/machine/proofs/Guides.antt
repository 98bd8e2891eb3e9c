-- What is known of an image before a run.
-- Assumes nothing.
use Rattle.std.proofs.Common.{◌≡◌, ℕ, true, false, List, replicate, sym}
use Rattle.words.proofs.Truth.{never}
use Rattle.image.specs.Marks.{long_only, MarksHold, Guides}
use Rattle.image.specs.declared.marks.Guide.{Guide}
use Rattle.image.proofs.Marking.{no_marks}

-- whether it has short forms, and no marks
pub unmarked : (img : List ℕ) (g : Guide) → (g.long ≡ true → long_only img ≡ true) → Guides img g (replicate 1 0)
unmarked img g h = record { all_long = h; marks_hold = no_marks img 1 }

-- its marks
pub marked : (img marks : List ℕ) (g : Guide) → g.long ≡ false → MarksHold img marks → Guides img g marks
marked img marks g f h = record { all_long = λ e. absurd (never (rw f at (sym e))); marks_hold = h }

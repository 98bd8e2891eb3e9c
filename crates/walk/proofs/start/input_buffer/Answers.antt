use mathlib.Core.Path.{refl, ap, ◌∙◌}
use Prim.Native.Nat.{ℕ, ◌+◌}
use lib.ListN.{take, length-replicate}
use Rattle.walk.specs.Walk.{longest, walk_of}
use Rattle.walk.proofs.Wholes.{cut}
use Rattle.walk.proofs.start.input_buffer.Goals as goal

pub returns : goal.returns
returns c = record { blank = refl; same_walk = λ given. ap (λ (n : ℕ). walk_of (take n given)) (length-replicate {A = ℕ} (longest + 1) 0) ∙ cut given }

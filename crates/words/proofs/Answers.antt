-- Answers that say exactly what is so.
-- Assumes nothing.
use Rattle.std.proofs.Common.{◌≡◌, sym, ◌∙◌, subst}
use Rattle.words.specs.Exactly.{Exactly}

-- an answer that is the one which says so, where no other does
pub exactly : {A : Type 0} (Says : A → Type 0) (a : A) → Says a → ((x : A) → Says x → x ≡ a) → (r : A) → r ≡ a → (r ≡ a) × Exactly Says r
exactly Says a s only r e = (e, record { says = subst Says (sym e) s; only = λ x p. only x p ∙ sym e })

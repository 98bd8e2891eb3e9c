use mathlib.Core.Path.{sym, ◌∙◌}
use Rattle.permits.proofs.Permitting.{of_access, both_off, both_taken, both_quiet}
use Rattle.permits.proofs.permits_of.Goals as goal

pub returns-then-not-protection : goal.returns-then-not-protection
returns-then-not-protection c = let t = both_off _ _ _ _ _ (sym c.protection.ensures ∙ c.if-not-protection.true) in record { permits = t.0; fetch = t.1.0; access = t.1.1 }

pub returns-then-taken : goal.returns-then-taken
returns-then-taken c = let t = both_taken _ _ _ _ _ (rw c.best_source-best.ensures.0 at (sym c.taken.ensures ∙ c.if-taken.true)) in record { permits = t.0; fetch = t.1.0; access = t.1.1 }

pub returns : goal.returns
returns c = let t = both_quiet _ _ _ _ _ (rw c.best_source-best.ensures.0 at (sym c.taken.ensures ∙ c.if-taken.false)) (rw c.as_address.ensures at (of_access _ _ _ _ c.permit_for.ensures)) c.permit_data.ensures in record { permits = t.0; fetch = t.1.0; access = t.1.1 }

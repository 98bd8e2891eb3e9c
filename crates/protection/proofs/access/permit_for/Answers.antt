use mathlib.Core.Path.{sym, ◌∙◌}
use Rattle.protection.proofs.Checks.{unnamed_above, unnamed_off, named}
use Rattle.protection.proofs.access.permit_for.Goals as goal

pub returns-then-is_peripheral : goal.returns-then-is_peripheral
returns-then-is_peripheral c = unnamed_above _ _ _ _ (sym c.is_peripheral.ensures ∙ c.if-is_peripheral.true)

pub returns-then-not-protection : goal.returns-then-not-protection
returns-then-not-protection c = unnamed_off _ _ _ _ (sym c.is_peripheral.ensures ∙ c.if-is_peripheral.false) (sym c.protection.ensures ∙ c.if-not-protection.true)

pub returns : goal.returns
returns c = (rw c.protection_set-set.ensures.0 at c.search.ensures.0) ∙ named _ _ _ _ (sym c.is_peripheral.ensures ∙ c.if-is_peripheral.false) (sym c.protection.ensures ∙ c.if-not-protection.false)

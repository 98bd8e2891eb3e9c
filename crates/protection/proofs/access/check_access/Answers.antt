use mathlib.Core.Path.{sym, ◌∙◌}
use Rattle.protection.proofs.Checks.{for_peripherals, to_peripherals, unasked, denied, allowed}
use Rattle.protection.proofs.access.check_access.Goals as goal

pub returns-then-user0 : goal.returns-then-user0
returns-then-user0 c = for_peripherals _ _ _ _ (sym c.is_peripheral.ensures ∙ c.if-is_peripheral.true) (sym c.user0.ensures ∙ c.if-user0.true)

pub returns-then-is_peripheral : goal.returns-then-is_peripheral
returns-then-is_peripheral c = to_peripherals _ _ _ _ (sym c.is_peripheral.ensures ∙ c.if-is_peripheral.true) (sym c.user0.ensures ∙ c.if-user0.false)

pub returns-then-not-protection : goal.returns-then-not-protection
returns-then-not-protection c = unasked _ _ _ _ (sym c.is_peripheral.ensures ∙ c.if-is_peripheral.false) (sym c.protection.ensures ∙ c.if-not-protection.true)

pub returns-in-None : goal.returns-in-None
returns-in-None c = rw c.denied.ensures (denied _ _ _ _ (sym c.is_peripheral.ensures ∙ c.if-is_peripheral.false) (sym c.protection.ensures ∙ c.if-not-protection.false) (rw (← c.protection_set.ensures.0) (rw c.in-None.is at c.search.ensures.1.says)))

pub returns-in-Some : goal.returns-in-Some
returns-in-Some c = allowed _ _ _ _ c.in-Some.field-0 (sym c.is_peripheral.ensures ∙ c.if-is_peripheral.false) (sym c.protection.ensures ∙ c.if-not-protection.false) (rw (← c.protection_set.ensures.0) (rw c.in-Some.is at c.search.ensures.1.says).one)

use mathlib.Core.Path.{◌≡◌, sym, ◌∙◌}
use mathlib.Core.Bool.{true, false, ◌&&◌, and-true, and-false}
use lib.Dec.{ltb, leb}
use borrow.Author.Tests.{lt-leb, le-leb}
use Rattle.memory.specs.declared.address.Address.{Address}
use Rattle.protection.specs.Range.{enables, permits}
use Rattle.protection.specs.declared.range.Range.{Range}
use Rattle.protection.specs.declared.range.Right.{Right}
use Rattle.protection.proofs.range.permitting.Goals as goal

without_right : (g : Range) (right : Right) (address : Address) → enables g.mode right ≡ false → permits g right address ≡ false
unfolding permits
without_right g right address h = rw (h) (and-false (leb g.lower address.0 && ltb address.0 g.upper))

with_right : (g : Range) (right : Right) (address : Address) → enables g.mode right ≡ true → leb g.lower address.0 ≡ true → permits g right address ≡ ltb address.0 g.upper
unfolding permits
with_right g right address h k = rw (h, k) (and-true (ltb address.0 g.upper))

pub returns-then-not-enabled : goal.returns-then-not-enabled
returns-then-not-enabled c = sym (without_right _ _ _ (sym c.enabled.ensures ∙ c.if-not-enabled.true))

pub returns-then-address-g : goal.returns-then-address-g
unfolding permits
returns-then-address-g c = rw (lt-leb _ _ c.if-address-g.true)

pub returns : goal.returns
returns c = sym (with_right _ _ _ (sym c.enabled.ensures ∙ c.if-not-enabled.false) (le-leb _ _ c.if-address-g.false))

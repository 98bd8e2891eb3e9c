use Prim.Native.Nat.{◌+◌, ◌≤◌, ◌<◌}
use mathlib.Core.Path.{sym, ap, subst, ◌∙◌}
use native.Mathlib.Omega.{arith}
use lib.ListN.{length, get_or}
use Rattle.image.specs.Fetch.{instruction_at, FieldsHold}
use Rattle.image.specs.declared.fetch.Rest.{Rest}
use Rattle.image.proofs.Images.{image_right}
use Rattle.image.proofs.Fetches.{rest_bounds, first_fields, fetch_none, fetch_first}
use Rattle.permits.proofs.Permitting.{not_fetched, no_record, of_record}
use Rattle.permits.proofs.permit_data.Goals as goal

pub returns-then-rest-eq0 : goal.returns-then-rest-eq0
returns-then-rest-eq0 c = no_record _ _ _ _ (sym c.in-Ok.is ∙ rw c.as_address.ensures at c.check_access.ensures) (fetch_none _ _ (sym (ap (λ (x : Rest). x.records) c.rest_of-rest.ensures) ∙ c.if-rest-eq0.true))

pub permit_record-requires : goal.permit_record-requires
permit_record-requires c = let p = (subst (λ (x : Rest). 0 < x.records) c.rest_of-rest.ensures (omega (arith, c.if-rest-eq0.false))) in let b = rest_bounds _ (image_right c.args.image.now c.requires.0) _ p in subst (λ (x : Rest). (x.at + 8 ≤ length c.args.image.now) × FieldsHold (instruction_at c.args.image.now x.at (get_or c.args.registers.now.core 0 0))) (sym c.rest_of-rest.ensures) (omega (arith, b.inside, p), first_fields _ (image_right c.args.image.now c.requires.0) _ p _)

pub returns-in_default : goal.returns-in_default
returns-in_default c = not_fetched _ _ _ _ _ (sym c.in_default.is ∙ rw c.as_address.ensures at c.check_access.ensures)

pub returns : goal.returns
returns c = of_record _ _ _ _ (sym c.in-Ok.is ∙ rw c.as_address.ensures at c.check_access.ensures) _ (fetch_first _ _ (subst (λ (x : Rest). 0 < x.records) c.rest_of-rest.ensures (omega (arith, c.if-rest-eq0.false)))) (rw c.rest_of-rest.ensures at c.permit_record.ensures)

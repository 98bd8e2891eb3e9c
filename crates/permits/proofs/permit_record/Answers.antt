use native.Mathlib.Omega.{arith}
use mathlib.Core.Path.{refl, ap, ◌∙◌}
use Rattle.std.specs.Prelude.{Some, None}
use Rattle.operations.specs.declared.Access.TheVariants as data-access
use Rattle.image.specs.Fetch.{instruction_at}
use Rattle.permits.proofs.Permitting.{of_none, of_access, of_data}
use Rattle.permits.proofs.permit_record.Goals as goal

pub offset_bounds-registers-x : goal.offset_bounds-registers-x
offset_bounds-registers-x c = let o = c.read_operand-o.ensures c.args.pc in omega (arith, o.1, c.requires.1.1)

pub bounds-registers-x : goal.bounds-registers-x
bounds-registers-x c = let o = c.read_operand-o.ensures c.args.pc in omega (arith, o.1, c.requires.1.1)

pub returns-in_default : goal.returns-in_default
returns-in_default c =
    let g = c.args in
    of_data _ _ g.registers.now.a (instruction_at g.image.now g.at g.pc) _ _ _ refl refl refl None _ (c.read_operand-o.ensures g.pc).0 c.in_default.is (of_none _ _)

pub returns-in-Read : goal.returns-in-Read
returns-in-Read c =
    let g = c.args in
    let o = c.read_operand-o.ensures g.pc in
    of_data _ _ g.registers.now.a (instruction_at g.image.now g.at g.pc) _ _ _ o.1 o.2 c.data_address-address.ensures (Some data-access.Read) _ o.0 (c.in-Some.is ∙ ap Some c.in-Read.is) (of_access _ _ _ _ c.permit_for.ensures)

pub returns-in-Write : goal.returns-in-Write
returns-in-Write c =
    let g = c.args in
    let o = c.read_operand-o.ensures g.pc in
    of_data _ _ g.registers.now.a (instruction_at g.image.now g.at g.pc) _ _ _ o.1 o.2 c.data_address-address.ensures (Some data-access.Write) _ o.0 (c.in-Some.is ∙ ap Some c.in-Write.is) (of_access _ _ _ _ c.permit_for-in-Write.ensures)

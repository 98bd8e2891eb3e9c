use Rattle.std.proofs.Common.{◌≡◌, sym, ◌∙◌, rules}
use Rattle.std.specs.Prelude.{Err}
use Rattle.image.proofs.Images.{image_table, image_records, image_exactly}
use Rattle.image.proofs.records.scan_image.Goals as goal

pub returns-in_err-check_table : goal.returns-in_err-check_table
returns-in_err-check_table c =
    let r : c.from_residual.result ≡ Err c.in_err-check_table.field-0.0 = search rules in
    let e = image_exactly _ _ (sym (image_table _ _ (sym c.check_table.ensures.0 ∙ c.in_err-check_table.was))) in
    rw r (e.0, e.1, tt)

pub returns : goal.returns
returns c =
    let s = c.scan_records.ensures in
    let e = image_exactly _ _ (s.0 ∙ sym (image_records _ (sym c.check_table.ensures.0 ∙ c.in_ok-check_table.was))) in
    (e.0, e.1, s.1)

use Rattle.std.proofs.Common.{sym, ◌∙◌}
use Rattle.image.proofs.Scanning.{held_is}
use Rattle.image.proofs.records.scan_records.Goals as goal

pub returns-then-s : goal.returns-then-s
returns-then-s c = (sym (held_is _ (sym c.scan_all-s.ensures.0 ∙ c.if-s.true)), c.scan_all-s.ensures.1)

use Rattle.std.proofs.Common.{◌≡◌, ◌+◌, ◌-◌, ◌*◌, ◌&&◌}
use Rattle.std.specs.Prelude.{is_ok}
use Rattle.image.specs.Table.{bodies_of}
use Rattle.image.specs.Records.{total_of, records_from}
use Rattle.image.specs.Marks.{long_from, long_only}
use Rattle.image.proofs.records.scan_all.Given as goal

abbrev pub invariant-loop-k : goal.invariant-loop-k
invariant-loop-k l = ((l.hold && is_ok (records_from (total_of l.image - l.k) l.image (bodies_of l.image + 8 * l.k) l.k)) ≡ is_ok (records_from (total_of l.image) l.image (bodies_of l.image) 0))
    × ((l.long && long_from (total_of l.image - l.k) l.image (bodies_of l.image + 8 * l.k)) ≡ long_only l.image)

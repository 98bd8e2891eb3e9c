-- Document 01's numbers of the stops.
use Rattle.std.specs.Prelude.{ℕ}
use Rattle.events.specs.declared.event.Stop.{Stop}
use Rattle.events.specs.declared.event.Stop.TheVariants.{NoArea, Outside}

abbrev pub stop_number : Stop → ℕ
stop_number NoArea = 11
stop_number Outside = 12

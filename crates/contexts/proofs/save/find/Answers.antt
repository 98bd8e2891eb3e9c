use mathlib.Core.Path.{◌∙◌}
use Rattle.contexts.proofs.Rooms.{room_none, room_some}
use Rattle.contexts.proofs.save.find.Goals as goal

pub returns-then-l-eq0 : goal.returns-then-l-eq0
returns-then-l-eq0 c = room_none _ _ _ c.if-l-eq0.true

pub returns : goal.returns
returns c = c.ok_or.ensures.value ∙ room_some _ _ _ c.if-l-eq0.false _ c.locate.ensures

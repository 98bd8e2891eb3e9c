use Rattle.operations.proofs.Accesses.{before_loads, loads, stores, past_stores}
use Rattle.operations.proofs.access_of.Goals as goal

pub returns-then-number-lt44 : goal.returns-then-number-lt44
returns-then-number-lt44 c = before_loads _ c.if-number-lt44.true

pub returns-then-number-lt50 : goal.returns-then-number-lt50
returns-then-number-lt50 c = loads _ c.if-number-lt44.false c.if-number-lt50.true

pub returns-then-number-lt54 : goal.returns-then-number-lt54
returns-then-number-lt54 c = stores _ c.if-number-lt50.false c.if-number-lt54.true

pub returns : goal.returns
returns c = past_stores _ c.if-number-lt54.false

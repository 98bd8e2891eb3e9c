use mathlib.Core.Path.{refl}
use Rattle.protection.specs.Range.{first_of}
use native.Mathlib.Omega.{arith}
use Rattle.protection.proofs.range.first.Goals as goal

pub returns-in-Read : goal.returns-in-Read
unfolding first_of
returns-in-Read c = rw c.in-Read.is (refl, omega arith)

pub returns-in-Write : goal.returns-in-Write
unfolding first_of
returns-in-Write c = rw c.in-Write.is (refl, omega arith)

pub returns-in-Execute : goal.returns-in-Execute
unfolding first_of
returns-in-Execute c = rw c.in-Execute.is (refl, omega arith)

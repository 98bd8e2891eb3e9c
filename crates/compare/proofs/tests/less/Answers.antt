use mathlib.Core.Path.{ap₂}
use lib.Signed.{lt_z}
use Rattle.words.proofs.Values.{word}
use Rattle.compare.specs.Compare.{less_signed}
use Rattle.compare.proofs.tests.less.Goals as goal

pub returns : goal.returns
unfolding less_signed
returns c = ap₂ lt_z (word c.ranges.a c.signed_value.ensures).is (word c.ranges.b c.signed_value-2.ensures).is

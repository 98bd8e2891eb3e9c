use borrow.Author.Tests.{lt-leb, le-leb}
use Rattle.walk.proofs.Texts.{nothing}
use Rattle.walk.specs.Text.{digit_of}
use native.Mathlib.Omega.{arith}
use Rattle.walk.proofs.lines.put_digit.Goals as goal

pub returns-then-n-p : goal.returns-then-n-p
unfolding digit_of
returns-then-n-p c = rw (lt-leb _ _ c.if-n-p.true) (nothing _ _ (omega arith))

pub returns : goal.returns
unfolding digit_of
returns c = rw (le-leb _ _ c.if-n-p.false, ← c.digit.ensures) c.put.ensures

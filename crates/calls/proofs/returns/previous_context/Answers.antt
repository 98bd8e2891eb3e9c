use borrow.Author.Tests.{eq-eqb, ne_eqb}
use Rattle.calls.specs.Returns.{previous_of}
use Rattle.calls.proofs.returns.previous_context.Goals as goal

pub returns-then-l-eq0 : goal.returns-then-l-eq0
unfolding previous_of
returns-then-l-eq0 c = rw (eq-eqb _ _ (rw c.link_of-l.ensures at c.if-l-eq0.true))

pub returns-then-is_of : goal.returns-then-is_of
unfolding previous_of
returns-then-is_of c = rw (ne_eqb _ _ (rw c.link_of-l.ensures at c.if-l-eq0.false), ← c.is_of.ensures, c.if-is_of.true)

pub returns : goal.returns
unfolding previous_of
returns c = rw (ne_eqb _ _ (rw c.link_of-l.ensures at c.if-l-eq0.false), ← c.is_of.ensures, c.if-is_of.false)

use mathlib.Core.Path.{sym, ◌∙◌}
use borrow.Author.Tests.{eq-eqb, ne_eqb}
use Rattle.std.proofs.Common.{rules}
use Rattle.contexts.specs.Save.{foreseen_of}
use Rattle.contexts.proofs.save.foresee.Goals as goal

pub returns-then-taken-limit : goal.returns-then-taken-limit
unfolding foreseen_of
returns-then-taken-limit c = rw (ne_eqb _ _ (rw (c.link_of-taken.ensures, c.link_of-limit.ensures) at c.if-taken-limit.true))

pub returns-in_err-find : goal.returns-in_err-find
unfolding foreseen_of
returns-in_err-find c = rw (eq-eqb _ _ (rw (c.link_of-taken.ensures, c.link_of-limit.ensures) at c.if-taken-limit.false), sym c.find.ensures ∙ c.in_err-find.was) (search rules)

pub returns : goal.returns
unfolding foreseen_of
returns c = rw (eq-eqb _ _ (rw (c.link_of-taken.ensures, c.link_of-limit.ensures) at c.if-taken-limit.false), sym c.find.ensures ∙ c.in_ok-find.was)

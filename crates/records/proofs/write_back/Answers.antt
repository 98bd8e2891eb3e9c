use borrow.Author.Rules.{rules}
use native.Mathlib.Omega.{arith}
use mathlib.Core.Path.{◌≡◌, ◌∙◌}
use lib.ListN.{length}
use Rattle.records.specs.CoreRecord.{stored_in}
use Rattle.records.proofs.write_back.Goals as goal

pub put_words-requires : goal.put_words-requires
put_words-requires c = let e : length c.args.registers.core ≡ 10 = search rules in (search rules, omega (arith, e))

pub returns : goal.returns
unfolding stored_in
returns c = c.put_sixteen-3.ensures ∙ rw (c.put_words.ensures, c.put_sixteen-2.ensures, c.put_sixteen.ensures)

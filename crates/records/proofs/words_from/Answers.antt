use mathlib.Core.Path.{◌∙◌}
use borrow.Author.Rules.{rules}
use Rattle.memory.proofs.Words.{read_whole}
use Rattle.records.proofs.words_from.Goals as goal

pub returns : goal.returns
returns g c = c.read_words.ensures ∙ read_whole _ _ _ _ (search rules)

use mathlib.Core.Path.{refl}
use Rattle.memory.specs.Word.{words_at}
use Rattle.memory.proofs.Words.{read_turn}
use Rattle.memory.proofs.read_words.Goals as goal

pub loop-k-init : goal.loop-k-init
unfolding words_at
loop-k-init c = refl

pub loop-k-preserved : goal.loop-k-preserved
loop-k-preserved c = read_turn _ _ _ _ _ c.loop-k.invariant c.word_at.ensures

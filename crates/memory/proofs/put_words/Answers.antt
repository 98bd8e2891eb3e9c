use mathlib.Core.Path.{refl}
use Rattle.memory.specs.Word.{put_words}
use Rattle.memory.proofs.Words.{put_turn}
use Rattle.memory.proofs.put_words.Goals as goal

pub loop-k-init : goal.loop-k-init
unfolding put_words
loop-k-init c = refl

pub loop-k-preserved : goal.loop-k-preserved
loop-k-preserved c = put_turn _ _ _ _ c.loop-k.invariant c.put_word.ensures

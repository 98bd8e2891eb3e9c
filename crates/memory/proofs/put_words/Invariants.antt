use mathlib.Core.Path.{◌≡◌}
use Rattle.memory.specs.Word.{put_words}
use Rattle.memory.proofs.put_words.Given as goal

abbrev pub invariant-loop-k : goal.invariant-loop-k
invariant-loop-k l = l.s ≡ put_words l.initial.s l.i l.words l.k

use mathlib.Core.Path.{◌≡◌}
use lib.Seq.{sets}
use Rattle.memory.specs.Word.{words_at}
use Rattle.memory.proofs.read_words.Given as goal

abbrev pub invariant-loop-k : goal.invariant-loop-k
invariant-loop-k l = l.words ≡ sets l.initial.words l.first (words_at l.s l.i l.k)

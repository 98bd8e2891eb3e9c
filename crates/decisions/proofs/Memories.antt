-- What is written to and read from memory: bytes stay bytes, and the windows keep their lengths.
-- Assumes nothing.
use Prim.Native.Nat.{ℕ, zero, suc, ◌+◌, ◌*◌, ◌/◌, ◌%◌, ◌^◌, ◌<◌}
use native.Mathlib.Omega.{arith}
use mathlib.Core.Path.{◌≡◌, ◌∙◌}
use mathlib.Core.List.{List, [], ◌∷◌}
use lib.ListN.{length, get_or, set, take, drop, length-set}
use lib.Seq.{sets, get_or-drop}
use Rattle.memory.specs.Word.{words_at, put_byte, put_half, put_word, put_words}
use Rattle.memory.proofs.Words.{put_word_length}
use Rattle.memory.proofs.Same.{Same, same_byte, same_half, same_word}
use Rattle.areas.specs.Area.{area_at}
use Rattle.operations.specs.declared.Store.{Store}
use Rattle.operations.specs.declared.Store.TheVariants.{StB, StH, StW, StA}
use Rattle.registers.specs.Registers.{D, A}
use Rattle.registers.specs.declared.Registers.{Registers}
use Rattle.contexts.specs.Context.{upper_of, lower_of, context_of}
use Rattle.contexts.specs.declared.context.Half.{Half}
use Rattle.contexts.specs.declared.context.Half.TheVariants.{Upper, Lower}
use Rattle.acts.specs.Acts.{stored_of}
use Rattle.decisions.specs.Valid.{Words, Valid, Bytes}
use Rattle.decisions.proofs.Setters.{set_below, words_set}
use Rattle.decisions.proofs.Values.{Word, word_word}

pub bytes_set : {s : List ℕ} (i v : ℕ) → Bytes s → v < 2 ^ 8 → Bytes (set s i v)
bytes_set {s = s} i v b h = record { each = set_below (2 ^ 8) s i v b.each h }

pub bytes_word : {s : List ℕ} (i w : ℕ) → Bytes s → Word w → Bytes (put_word s i w)
unfolding put_word
bytes_word i w b h =
    bytes_set (i + 3) (w / 0x100_0000)
    (bytes_set (i + 2) (w / 0x1_0000 % 0x100) (bytes_set (i + 1) (w / 0x100 % 0x100) (bytes_set i (w % 0x100) b (omega arith)) (omega arith)) (omega arith)) (omega arith)

pub bytes_words : {s : List ℕ} (i : ℕ) (ws : List ℕ) (n : ℕ) → Bytes s → ((k : ℕ) → Word (get_or ws k 0)) → Bytes (put_words s i ws n)
unfolding put_words
bytes_words i ws zero b h = b
bytes_words i ws (suc n) b h = bytes_word (i + 4 * n) (get_or ws n 0) (bytes_words i ws n b h) (h n)

-- a store
pub bytes_stored : {s : List ℕ} (op : Store) (at v : ℕ) → Bytes s → Word v → Bytes (stored_of op s at v)
unfolding put_byte put_half
bytes_stored StB at v b h = bytes_set at (v % 0x100) b (omega arith)
bytes_stored StH at v b h = bytes_set (at + 1) (v / 0x100 % 0x100) (bytes_set at (v % 0x100) b (omega arith)) (omega arith)
bytes_stored StW at v b h = bytes_word at v b h
bytes_stored StA at v b h = bytes_word at v b h

pub stored_length : (op : Store) (s : List ℕ) (at v : ℕ) → length (stored_of op s at v) ≡ length s
unfolding put_byte put_half
stored_length StB s at v = length-set s at (v % 0x100)
stored_length StH s at v = length-set (set s at (v % 0x100)) (at + 1) (v / 0x100 % 0x100) ∙ length-set s at (v % 0x100)
stored_length StW s at v = put_word_length s at v
stored_length StA s at v = put_word_length s at v

pub same_stored : {same : ℕ → Type 0} {s t : List ℕ} (op : Store) (at v : ℕ) → Same same s t → Same same (stored_of op s at v) (stored_of op t at v)
same_stored StB at v h = same_byte at v h
same_stored StH at v h = same_half at v h
same_stored StW at v h = same_word at v h
same_stored StA at v h = same_word at v h

-- an area's bytes, and its words
take_below : (n : ℕ) (s : List ℕ) → ((k : ℕ) → get_or s k 0 < 2 ^ 8) → (k : ℕ) → get_or (take n s) k 0 < 2 ^ 8
take_below zero s h k = omega arith
take_below (suc n) [] h k = omega arith
take_below (suc n) (x ∷ s) h zero = h 0
take_below (suc n) (x ∷ s) h (suc k) = take_below n s (λ j. h (suc j)) k

pub bytes_area : {s : List ℕ} (at : ℕ) → Bytes s → Bytes (area_at s at)
bytes_area {s = s} at b = record { each = take_below 64 (drop at s) (λ k. (rw get_or-drop (b.each (at + k)))) }

words_each : {s : List ℕ} → Bytes s → (n i k : ℕ) → Word (get_or (words_at s i n) k 0)
unfolding words_at
words_each b zero i k = omega arith
words_each b (suc n) i zero = word_word b i
words_each b (suc n) i (suc k) = words_each b n (i + 4) k

sets_words : {n : ℕ} (vs : List ℕ) {xs : List ℕ} (i : ℕ) → Words n xs → ((k : ℕ) → Word (get_or vs k 0)) → Words n (sets xs i vs)
sets_words [] i w h = w
sets_words (v ∷ vs) i w h = sets_words vs (suc i) (words_set i v w (h 0)) (λ k. h (suc k))

pub words_loaded : {n : ℕ} {xs s : List ℕ} (i from m : ℕ) → Words n xs → Bytes s → Words n (sets xs i (words_at s from m))
words_loaded {s = s} i from m w b = sets_words (words_at s from m) i w (words_each b m from)

-- a context's words
record Each (xs : List ℕ) : Type 0 where
  at : (k : ℕ) → Word (get_or xs k 0)

more : {x : ℕ} {xs : List ℕ} → Word x → Each xs → Each (x ∷ xs)
more {x} {xs} h g = record { at = both }
  where
    both : (k : ℕ) → Word (get_or (x ∷ xs) k 0)
    both zero = h
    both (suc k) = g.at k

none : Each []
none = record { at = λ k. omega arith }

module _ {r : Registers} (w : Valid r) where
  d : (n : ℕ) → Word (D r n)
  d n = w.d.each n

  a : (n : ℕ) → Word (A r n)
  a n = w.a.each n

  context_each : (half : Half) (saved-pc : ℕ) → Word saved-pc → Each (context_of half saved-pc r)
  unfolding upper_of lower_of
  context_each Upper saved-pc h =
      more (w.core.each 2) (more (w.core.each 1) (more (a 10) (more (a 11) (more (a 12) (more (a 13) (more (a 14) (more (a 15)
      (more (d 8) (more (d 9) (more (d 10) (more (d 11) (more (d 12) (more (d 13) (more (d 14) (more (d 15) none)))))))))))))))
  context_each Lower saved-pc h =
      more (w.core.each 2) (more h (more (a 2) (more (a 3) (more (a 4) (more (a 5) (more (a 6) (more (a 7)
      (more (d 0) (more (d 1) (more (d 2) (more (d 3) (more (d 4) (more (d 5) (more (d 6) (more (d 7) none)))))))))))))))

  pub context_words : (half : Half) (saved-pc : ℕ) → Word saved-pc → (k : ℕ) → Word (get_or (context_of half saved-pc r) k 0)
  context_words half saved-pc h k = (context_each half saved-pc h).at k

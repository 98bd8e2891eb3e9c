-- What an area holds: after a save into it, and where other bytes are written.
-- Assumes nothing.
use Prim.Native.Nat.{ℕ, ◌+◌, ◌*◌, ◌^◌, ◌≤◌, ◌<◌}
use native.Mathlib.Omega.{arith}
use mathlib.Core.Path.{◌≡◌, sym, ap, ◌∙◌}
use mathlib.Core.Logic.{◌⊎◌, inl, inr, ⊎_elim}
use mathlib.Core.List.{List}
use lib.ListN.{length, get_or, drop}
use lib.Seq.{ext_get_or, get_or-take, get_or-drop}
use Rattle.memory.specs.Word.{word_at, words_at, put_word, put_words}
use Rattle.memory.proofs.Words.{put_word_byte, put_word_length, put_word_same, put_words_byte, put_words_at, put_words_length}
use Rattle.areas.specs.Area.{area_at}
use Rattle.areas.proofs.Parts.{area_length, area_word, area_first}
use Rattle.registers.specs.declared.Registers.{Registers}
use Rattle.contexts.specs.Context.{upper_of, lower_of, context_of}
use Rattle.contexts.specs.declared.context.Half.{Half}
use Rattle.contexts.specs.declared.context.Half.TheVariants.{Upper, Lower}
use Rattle.series.specs.Abstract.{upper_registers, lower_registers, named, held}

-- ---- an area whose bytes are as they were
pub area_same : (s t : List ℕ) (at : ℕ) → at + 64 ≤ length s → length t ≡ length s → ((k : ℕ) → at ≤ k → k < at + 64 → get_or t k 0 ≡ get_or s k 0) → area_at t at ≡ area_at s at
area_same s t at h l f =
    let ls : length (area_at s at) ≡ 64 = area_length s at h in
    let lt : length (area_at t at) ≡ 64 = area_length t at (omega arith) in
    ext_get_or 0 (area_at t at) (area_at s at) (lt ∙ sym ls)
    (λ i g.
    (get_or-take 64 (drop at t) i 0 (omega arith)
    ∙ get_or-drop at t i 0
    ∙ f (at + i) (omega arith) (omega arith)
    ∙ sym (get_or-drop at s i 0)
    ∙ sym (get_or-take 64 (drop at s) i 0 (omega arith))))

-- its first word is the word that links onward
pub first_same : (s t : List ℕ) (at : ℕ) → area_at t at ≡ area_at s at → word_at t at ≡ word_at s at
first_same s t at e = sym (area_first t at) ∙ ap (λ (a : List ℕ). word_at a 0) e ∙ area_first s at

-- ---- sixteen words written and read back
module _ (s : List ℕ) (at : ℕ) (ws : List ℕ) (h : at + 64 ≤ length s) (f : (k : ℕ) → get_or ws k 0 < 2 ^ 32) where
  abbrev t : List ℕ
  t = put_words s at ws 16

  pub written_word : (k : ℕ) → k < 16 → word_at (area_at t at) (4 * k) ≡ get_or ws k 0
  written_word k g = area_word t at (4 * k) (omega arith) ∙ put_words_at s at ws 16 k h g f

  pub written_first : word_at t at ≡ get_or ws 0 0
  written_first = sym (area_first t at) ∙ written_word 0 (omega arith)

  -- bytes outside stay
  pub written_apart : (p : ℕ) → (at + 64 ≤ p) ⊎ (p + 64 ≤ at) → p + 64 ≤ length s → area_at t p ≡ area_at s p
  written_apart p d g =
      area_same s t p g (put_words_length s at ws 16)
      (λ k a b. put_words_byte s at ws 16 k (⊎_elim (λ x. inr (omega arith)) (λ x. inl (omega arith)) d))

-- an area written with a context holds its registers
pub held_written : (half : Half) (saved-pc : ℕ) (r : Registers) (s : List ℕ) (at : ℕ) → at + 64 ≤ length s → ((k : ℕ) → get_or (context_of half saved-pc r) k 0 < 2 ^ 32)
    → held half (area_at (put_words s at (context_of half saved-pc r) 16) at) ≡ named half r
unfolding held words_at upper_of lower_of upper_registers lower_registers
held_written Upper saved-pc r s at h f =
    let w = written_word s at (upper_of r) h f in
    rw (
      w 0 (omega arith),
      w 1 (omega arith),
      w 2 (omega arith),
      w 3 (omega arith),
      w 4 (omega arith),
      w 5 (omega arith),
      w 6 (omega arith),
      w 7 (omega arith),
      w 8 (omega arith),
      w 9 (omega arith),
      w 10 (omega arith),
      w 11 (omega arith),
      w 12 (omega arith),
      w 13 (omega arith),
      w 14 (omega arith),
      w 15 (omega arith),
    )
held_written Lower saved-pc r s at h f =
    let w = written_word s at (lower_of saved-pc r) h f in
    rw (
      w 0 (omega arith),
      w 2 (omega arith),
      w 3 (omega arith),
      w 4 (omega arith),
      w 5 (omega arith),
      w 6 (omega arith),
      w 7 (omega arith),
      w 8 (omega arith),
      w 9 (omega arith),
      w 10 (omega arith),
      w 11 (omega arith),
      w 12 (omega arith),
      w 13 (omega arith),
      w 14 (omega arith),
      w 15 (omega arith),
    )

-- ---- one word written: a return's link
module _ (s : List ℕ) (at w : ℕ) where
  pub linked_word : at + 4 ≤ length s → w < 2 ^ 32 → word_at (put_word s at w) at ≡ w
  linked_word h g = put_word_same s at w h g

  pub linked_apart : (p : ℕ) → (at + 64 ≤ p) ⊎ (p + 64 ≤ at) → p + 64 ≤ length s → area_at (put_word s at w) p ≡ area_at s p
  linked_apart p d g =
      area_same s (put_word s at w) p g (put_word_length s at w)
      (λ k a b. put_word_byte s at w k (⊎_elim (λ x. inr (omega arith)) (λ x. inl (omega arith)) d))

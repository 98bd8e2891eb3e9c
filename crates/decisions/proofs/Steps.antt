-- What a step keeps: where the windows lie and their lengths, words as words, an even PC; and a stop leaves all as it was.
-- Assumes nothing.
use Prim.Native.Nat.{ℕ, ◌^◌, ◌<◌}
use native.Mathlib.Omega.{arith}
use mathlib.Core.Path.{◌≡◌, refl, ◌∙◌}
use mathlib.Core.List.{List}
use lib.ListN.{length}
use Rattle.memory.specs.Memory.{Memory}
use Rattle.memory.proofs.Words.{put_word_length, put_words_length}
use Rattle.bounds.proofs.Fields.{pcxi_word}
use Rattle.registers.specs.Registers.{fcx}
use Rattle.registers.specs.declared.Registers.{Registers}
use Rattle.events.specs.Traps.{FCD}
use Rattle.events.specs.declared.event.Event.{Event}
use Rattle.events.specs.declared.event.Stop.{Stop}
use Rattle.protection.specs.declared.range.Range.{Range}
use Rattle.contexts.specs.Context.{upper_of, context_of}
use Rattle.contexts.specs.declared.context.Half.{Half}
use Rattle.contexts.specs.declared.context.Half.TheVariants.{Upper}
use Rattle.entries.specs.Entry.{MadeOf}
use Rattle.execute.specs.Decision.{Decision, Keep, Write, Save, Return, performed_of}
use Rattle.decisions.specs.Valid.{Valid, Bytes}
use Rattle.decisions.specs.Decision.{decision_of, one_of}
use Rattle.decisions.proofs.Families.{small}
use Rattle.decisions.proofs.Thens.{Then, ReturnThen, heads_valid, trap_then}
use Rattle.decisions.proofs.Decides.{DecisionSound, decision_sound}
use Rattle.decisions.proofs.Memories.{bytes_word, bytes_words, bytes_stored, stored_length, context_words}
use Rattle.decisions.proofs.Savings.{after_save, saved_bytes, reached, SavingCase, lacks, lacks_second, saves, depletes, saving_case}
use Rattle.decisions.proofs.Returnings.{ReturningCase, outside, returns, returning_case, loaded_valid}
use Rattle.std.specs.Prelude.{Err, Ok}

-- a step that is made is not stopped
pub never_made : {e : Event} {s : Stop} → Ok e ≡ Err s → ⊥
never_made h = let z : ◌≡◌ {A = ℕ} 0 1 = cc in omega arith

pub record Kept (r : Registers) (m : Memory) (x : MadeOf) : Type 0 where
  pub base : x.memory.windows ≡ m.windows
  pub size : length x.memory.bytes ≡ length m.bytes
  pub valid : Valid x.registers
  pub bytes : Bytes x.memory.bytes
  pub leaves : (s : Stop) → x.ending ≡ Err s → (x.registers ≡ r) × (x.memory ≡ m)

pub after_valid : (half : Half) (at : ℕ) (bytes : List ℕ) {q : Registers} → Valid q → Valid (after_save half at bytes q)
after_valid half at bytes v = heads_valid _ _ v (pcxi_word _ _ _) (omega arith)

module _ {r : Registers} (w : Valid r) (m : Memory) (b : Bytes m.bytes) where
  module _ (e : Event) (half : Half) (saved-pc : ℕ) (h : saved-pc < 2 ^ 32) (then : Registers → Registers) (t : Then then) where
    pub saved_bytes_lem : (at : ℕ) → Bytes (saved_bytes e half saved-pc then r m at)
    saved_bytes_lem at = bytes_words at (context_of half saved-pc r) 16 b (context_words w half saved-pc h)

    pub reached_valid : (at : ℕ) → Valid (reached e half saved-pc then r m at)
    reached_valid at = t.valid _ (after_valid half at m.bytes w)

    saving_kept : (x : MadeOf) → SavingCase e half saved-pc then r m x → Kept r m x
    saving_kept x (lacks s k) = record { base = refl; size = refl; valid = w; bytes = b; leaves = λ s' g. (refl, refl) }
    saving_kept x (lacks_second s at k g l) = record { base = refl; size = refl; valid = w; bytes = b; leaves = λ s' g. (refl, refl) }
    saving_kept x (saves at k g) =
        record {
          base = refl;
          size = put_words_length m.bytes at (context_of half saved-pc r) 16;
          valid = reached_valid at;
          bytes = saved_bytes_lem at;
          leaves = λ s g'. absurd (never_made g');
        }
    saving_kept x (depletes at second k g l) =
        let q = reached e half saved-pc then r m at in
        let v = reached_valid at in
        let u = after_valid Upper second (saved_bytes e half saved-pc then r m at) v in
        record {
          base = refl;
          size = put_words_length (saved_bytes e half saved-pc then r m at) second (upper_of q) 16 ∙ put_words_length m.bytes at (context_of half saved-pc r) 16;
          valid = (trap_then FCD _ (small (omega arith) (omega arith)) (u.core.each 0)).valid _ u;
          bytes = bytes_words second (upper_of q) 16 (saved_bytes_lem at) (context_words v Upper 0 (omega arith));
          leaves = λ s g'. absurd (never_made g');
        }

  returning_kept : (half : Half) (then : Registers → Registers) → ReturnThen then → (x : MadeOf) → ReturningCase half then r m x → Kept r m x
  returning_kept half then t x (outside k) = record { base = refl; size = refl; valid = w; bytes = b; leaves = λ s g. (refl, refl) }
  returning_kept half then t x (returns at k) =
      record {
        base = refl;
        size = put_word_length m.bytes at (fcx r);
        valid = t.valid _ (loaded_valid w b at half);
        bytes = bytes_word at (fcx r) b (w.core.each 3);
        leaves = λ s g. absurd (never_made g);
      }

  pub performed_kept : (quiet : Type 0) (d : Decision) → DecisionSound quiet r m d → Kept r m (performed_of d r m)
  performed_kept quiet (Keep q) s = record { base = refl; size = refl; valid = s.valid; bytes = b; leaves = λ x g. absurd (never_made g) }
  performed_kept quiet (Write op at v q) s =
      record {
        base = refl;
        size = stored_length op m.bytes at v;
        valid = s.0.valid;
        bytes = bytes_stored op at v b s.1;
        leaves = λ x g. absurd (never_made g);
      }
  performed_kept quiet (Save e half saved-pc then) s = saving_kept e half saved-pc s.0 then s.1 _ (saving_case e half saved-pc then r m w s.1)
  performed_kept quiet (Return half then) s = returning_kept half then s.0 _ (returning_case half then r m)

  pub one_kept : {img : List ℕ} → Bytes img → (xs : List ℕ) (rs : List Range) → Kept r m (one_of img r xs rs m)
  unfolding one_of
  one_kept {img = img} bi xs rs = performed_kept _ (decision_of img r xs rs m) (decision_sound bi w xs rs m b)

-- The turns of a block's loop: from where it stands the steps still make the block that is defined.
-- Assumes nothing.
use Prim.Native.Nat.{ℕ, suc, ◌+◌, ◌-◌, ◌*◌, ◌≤◌, ◌<◌}
use native.Mathlib.Omega.{arith}
use mathlib.Core.Path.{◌≡◌, refl, ◌∙◌}
use mathlib.Core.Bool.{Bool, true, false, cond}
use mathlib.Core.List.{List, [], ◌++◌, append-nil}
use lib.ListN.{length}
use borrow.Author.Tests.{lt-ltb, le-ltb}
use Rattle.registers.specs.Registers.{pc, fcx, pcxi}
use Rattle.registers.specs.declared.Registers.{Registers}
use Rattle.events.specs.declared.event.Event.{Event}
use Rattle.protection.specs.declared.range.Range.{Range}
use Rattle.permits.specs.declared.Permits.{Permits}
use Rattle.machine.specs.Step.{StepOf, stepped, step_of}
use Rattle.walk.specs.Start.{window_of, no_ranges}
use Rattle.walk.specs.Text.{line_of, end_of}
use Rattle.walk.specs.Written.{Written}
use Rattle.walk.specs.Walk.{all_steps, is_trap, is_last, step_from, unmade_of, printed}
use Rattle.walk.specs.Blocks.{Block, block, full, made_by, block_from}
use Rattle.walk.proofs.Texts.{then, roomier}
use Rattle.std.specs.Prelude.{Err, Ok, Result}
use Rattle.machine.specs.declared.answer.Unmade.{Unmade}

-- ---- a block by its next step
abbrev pub after : List ℕ → ℕ → Registers → List ℕ → StepOf → Block
after img made r text s =
    let more = text ++ printed s.outcome made (pc r) s.registers in
    cond (is_last s.outcome) (block s.memory.bytes s.registers s.requests (made_by s.outcome made) true more) (block_from (all_steps - (made + 1)) img (made + 1) s.registers s.requests s.memory.bytes more)

module _ (img : List ℕ) (made : ℕ) (r : Registers) (xs w text : List ℕ) where
  block_full : made < all_steps → full < length text → block_from (all_steps - made) img made r xs w text ≡ block w r xs made false text
  unfolding block_from
  block_full h l = let j : all_steps - made ≡ suc (all_steps - (made + 1)) = omega arith in rw (j, lt-ltb full (length text) l)

  block_step : made < all_steps → length text ≤ full → (s : StepOf) → s ≡ step_from img r xs w → block_from (all_steps - made) img made r xs w text ≡ after img made r text s
  unfolding block_from
  block_step h l s e = let j : all_steps - made ≡ suc (all_steps - (made + 1)) = omega arith in rw (j, le-ltb full (length text) l, e)

  block_end : all_steps ≤ made → block_from (all_steps - made) img made r xs w text ≡ block w r xs made true (text ++ end_of made)
  unfolding block_from
  block_end h = let j : all_steps - made ≡ 0 = omega arith in rw j

-- ---- the loop's invariant, from a walk's registers, requests and window after `made₀` steps and a buffer on
module _ (img : List ℕ) (made₀ : ℕ) (r₀ : Registers) (xs₀ w₀ out₀ : List ℕ) where
  abbrev pub due : Block
  due = block_from (all_steps - made₀) img made₀ r₀ xs₀ w₀ []

  pub record Turn (out : List ℕ) (made : ℕ) (r : Registers) (xs w : List ℕ) (at : ℕ) : Type 0 where
    pub size : length w ≡ 4096
    pub since : made₀ ≤ made
    pub bound : at ≤ 65449
    pub text : List ℕ
    pub wrote : Written out₀ 0 text (41 * (made - made₀)) out at
    pub same : due ≡ block_from (all_steps - made) img made r xs w text

  -- the block is made: its text, and where the walk stands
  pub record Done (out : List ℕ) (made : ℕ) (over : Bool) (r : Registers) (xs w : List ℕ) (at : ℕ) : Type 0 where
    pub text : List ℕ
    pub most : ℕ
    pub wrote : Written out₀ 0 text most out at
    pub is : due ≡ block w r xs made over text

  pub turn_start : length w₀ ≡ 4096 → Turn out₀ made₀ r₀ xs₀ w₀ 0
  turn_start s =
      record {
        size = s;
        since = omega arith;
        bound = omega arith;
        text = [];
        wrote = record { bytes = refl; ends = refl; size = refl; room = omega arith; fits = omega arith };
        same = refl;
      }

  module _ {out : List ℕ} {made : ℕ} {r : Registers} {xs w : List ℕ} {at : ℕ} (t : Turn out made r xs w at) where
    pub filled : made < all_steps → full < at → Done out made false r xs w at
    filled h l = record { text = t.text; most = _; wrote = t.wrote; is = t.same ∙ block_full img made r xs w t.text h (omega (arith, t.wrote.ends)) }

    pub ended : {out' : List ℕ} {most at' : ℕ} → all_steps ≤ made → Written out at (end_of made) most out' at' → Done out' made true r xs w at'
    ended h k = record { text = t.text ++ end_of made; most = _; wrote = then t.wrote k; is = t.same ∙ block_end img made r xs w t.text h }

    module _ (below : made < all_steps) (room : at ≤ full) {o : Result Event Unmade} {r' : Registers} {xs' w' : List ℕ} {p : Permits} {rs : List Range} (none : rs ≡ no_ranges) (is : stepped o r' xs' (window_of w') p ≡ step_of img r xs rs (window_of w)) where
      next : due ≡ after img made r t.text (stepped o r' xs' (window_of w') p)
      next = t.same ∙ block_step img made r xs w t.text below (omega (arith, t.wrote.ends)) (stepped o r' xs' (window_of w') p) (is ∙ rw none)

      module _ {v : Event} (made-it : o ≡ Ok v) where
        abbrev pub line : List ℕ
        line = line_of v (pc r) (pc r') (fcx r') (pcxi r')

        pub on : {out' : List ℕ} {at' : ℕ} → length w' ≡ length w → Written out at line 41 out' at' → is_trap v ≡ false → Turn out' (made + 1) r' xs' w' at'
        on {out'} {at'} l k f =
            record {
              size = l ∙ t.size;
              since = omega (arith, t.since);
              bound = omega (arith, k.room);
              text = t.text ++ line;
              wrote = roomier (omega (arith, t.since)) (then t.wrote k);
              same = next ∙ rw (made-it, f, append-nil);
            }

        pub trapped : {out' out'' : List ℕ} {most last at' at'' : ℕ} → Written out at line most out' at' → is_trap v ≡ true → Written out' at' (end_of (made + 1)) last out'' at'' → Done out'' (made + 1) true r' xs' w' at''
        trapped k f z = record { text = t.text ++ (line ++ end_of (made + 1)); most = _; wrote = then t.wrote (then k z); is = next ∙ rw (made-it, f) }

      pub unmade : {u : Unmade} {out' : List ℕ} {most at' : ℕ} → o ≡ Err u → Written out at (unmade_of made u) most out' at' → Done out' made true r' xs' w' at'
      unmade {u} e k = record { text = t.text ++ unmade_of made u; most = _; wrote = then t.wrote k; is = next ∙ rw e }

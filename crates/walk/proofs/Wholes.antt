-- The blocks one after the other are the walk whole, and an image may be cut one byte past the longest.
-- Assumes nothing.
use Prim.Native.Nat.{ℕ, zero, suc, ◌+◌, ◌-◌, ◌<◌}
use native.Mathlib.Omega.{arith}
use mathlib.Core.Path.{◌≡◌, refl, sym, ap, ◌∙◌}
use mathlib.Core.Bool.{Bool, true, false, cond}
use mathlib.Core.List.{List, [], ◌++◌, append_assoc, append-nil}
use lib.ListN.{length, take}
use lib.Dec.{ltb}
use lib.Seq.{take_all, length-take-le}
use borrow.Author.Tests.{lt-ltb, ltb-true, ltb-false}
use Rattle.registers.specs.Registers.{pc}
use Rattle.registers.specs.declared.Registers.{Registers}
use Rattle.walk.specs.Start.{start_verdict_of}
use Rattle.walk.specs.Text.{end_of, refused_of, long_text}
use Rattle.walk.specs.Walk.{longest, all_steps, is_last, step_from, printed, walk_from, walk_by, walk_of}
use Rattle.walk.specs.Blocks.{Block, block, first_block, begin_by, begin_of, full, made_by, block_from, go_on_of, remaining}
use Rattle.walk.specs.declared.blocks.Walk.{Walk}
use Rattle.std.specs.Prelude.{Err, Ok, Result, ⊤}
use Rattle.inputs.specs.declared.verdict.Refusal.{Refusal}

-- a block's text, followed by what is printed after it
abbrev pub with_rest : List ℕ → Block → List ℕ
with_rest img b = b.text ++ remaining img b.walk

rest_last : (img : List ℕ) (r : Registers) (xs w : List ℕ) (made : ℕ) (text : List ℕ) → with_rest img (block w r xs made true text) ≡ text
unfolding remaining
rest_last img r xs w made text = append-nil text

rest_more : (img : List ℕ) (r : Registers) (xs w : List ℕ) (made : ℕ) (text : List ℕ) → with_rest img (block w r xs made false text) ≡ text ++ walk_from (all_steps - made) img made r xs w
unfolding remaining
rest_more img r xs w made text = refl

-- ---- the first block
by_verdict : (img : List ℕ) (v : Result ⊤ Refusal) → with_rest img (begin_by img v) ≡ walk_by img v
unfolding remaining
by_verdict img (Err x) = append-nil (refused_of x)
by_verdict img (Ok _) = refl

by_length : (img : List ℕ) (long : Bool) (v : Result ⊤ Refusal) → with_rest img (cond long (first_block img true long_text) (begin_by img v)) ≡ cond long long_text (walk_by img v)
unfolding remaining
by_length img true v = append-nil long_text
by_length img false v = by_verdict img v

pub begin_whole : (img : List ℕ) → with_rest img (begin_of img) ≡ walk_of img
unfolding begin_of walk_of
begin_whole img = by_length img (ltb longest (length img)) (start_verdict_of img)

-- ---- the blocks after it
either : (img : List ℕ) (b : Bool) (x y : Block) (t : List ℕ) → with_rest img x ≡ t → with_rest img y ≡ t → with_rest img (cond b x y) ≡ t
either img true x y t p q = p
either img false x y t p q = q

by_end : (img : List ℕ) (b : Bool) (x y : Block) (text p q : List ℕ) → with_rest img x ≡ text ++ p → with_rest img y ≡ (text ++ p) ++ q → with_rest img (cond b x y) ≡ text ++ (p ++ cond b [] q)
by_end img true x y text p q e f = rw append-nil e
by_end img false x y text p q e f = f ∙ append_assoc text p q

block_whole : (n : ℕ) (img : List ℕ) (made : ℕ) (r : Registers) (xs w text : List ℕ) → n ≡ all_steps - made → with_rest img (block_from n img made r xs w text) ≡ text ++ walk_from n img made r xs w
unfolding block_from walk_from
block_whole zero img made r xs w text e = rest_last img r xs w made (text ++ end_of made)
block_whole (suc n) img made r xs w text e =
    let s = step_from img r xs w in
    let p = printed s.outcome made (pc r) s.registers in
    let more = text ++ p in
    either img (ltb full (length text)) _ _ _
    (rest_more img r xs w made text ∙ rw (← e))
    (by_end img (is_last s.outcome) _ _ text p _ (rest_last img s.registers s.requests s.memory.bytes (made_by s.outcome made) more) (block_whole n img (made + 1) s.registers s.requests s.memory.bytes more (omega arith)))

pub next_whole : (img : List ℕ) (w : Walk) → w.over ≡ false → with_rest img (go_on_of img w) ≡ remaining img w
unfolding go_on_of remaining
next_whole img w f = rw f (block_whole (all_steps - w.made) img w.made w.registers w.requests w.window [] refl)

-- ---- an image that is longer than the longest
walk_long : (img : List ℕ) → longest < length img → walk_of img ≡ long_text
unfolding walk_of
walk_long img h = rw (lt-ltb longest (length img) h)

cut_by : (img : List ℕ) (long : Bool) → ltb longest (length img) ≡ long → walk_of (take (longest + 1) img) ≡ walk_of img
cut_by img true e =
    let h = ltb-true longest (length img) e in
    walk_long (take (longest + 1) img) (omega (arith, length-take-le (longest + 1) img (omega arith))) ∙ sym (walk_long img h)
cut_by img false e = ap walk_of (take_all (longest + 1) img (omega (arith, ltb-false longest (length img) e)))

pub cut : (img : List ℕ) → walk_of (take (longest + 1) img) ≡ walk_of img
cut img = cut_by img (ltb longest (length img)) refl

-- What a function leaves is its block in the buffer, with the promises that go with it.
-- Assumes nothing.
use Prim.Native.Nat.{ℕ, ◌^◌, ◌≤◌, ◌<◌}
use native.Mathlib.Nat.{zero-add}
use Rattle.std.proofs.lemmas.List.{map-id}
use mathlib.Core.Path.{◌≡◌, ◌∙◌}
use mathlib.Core.Bool.{Bool, true, false}
use mathlib.Core.List.{List}
use lib.ListN.{length, replicate}
use mir.Syntax.{w8}
use mir.Val.{Val}
use denote.Laws.{Is}
use denote.Plain.{UInt}
use borrow.Author.Tests.{lt-ltb, le-ltb}
use Rattle.words.proofs.Truth.{never}
use Rattle.registers.specs.Registers.{pc, fcx, pcxi}
use Rattle.registers.specs.declared.Registers.{Registers}
use Rattle.inputs.specs.Checks.{start_verdict}
use Rattle.inputs.specs.declared.verdict.Refusal.{Refusal}
use Rattle.decisions.proofs.Owned.{field_long}
use Rattle.walk.specs.Start.{window_of, start_bytes, start_registers}
use Rattle.walk.specs.Text.{header_text, refused_of, long_text}
use Rattle.walk.specs.Written.{Written}
use Rattle.walk.specs.Walk.{longest, all_steps, walk_of}
use Rattle.walk.specs.Blocks.{Block, standing, block, left, placed, begin_of, go_on_of, remaining, Part, Onward}
use Rattle.walk.specs.declared.blocks.Walk.{Walk}
use Rattle.walk.proofs.Texts.{front}
use Rattle.walk.proofs.Wholes.{with_rest, begin_whole, next_whole}
use Rattle.walk.proofs.Walks.{Done}
use Rattle.walk.specs.contracts.blocks.Walk as row
use Rattle.std.specs.Prelude.{Err, Ok, Result, ⊤}

-- ---- any block: left as defined, and a part of what is due
abbrev pub Told : Block → List ℕ → List ℕ → Walk → List ℕ → List ℕ → Type 0
Told b due img w out₀ out = (left w out ≡ placed b out₀) × Part due img w out

module _ (img : List ℕ) {w : List ℕ} {r : Registers} {xs : List ℕ} {made : ℕ} {over : Bool} {text : List ℕ} {b : Block} (is : b ≡ block w r xs made over text) {out₀ out : List ℕ} {most at : ℕ} (k : Written out₀ 0 text most out at) where
  at_end : at ≡ length text
  at_end = k.ends ∙ zero-add (length text)

  abbrev here : Walk
  here = standing w r xs made over at

  pub tells : (due : List ℕ) → with_rest img b ≡ due → Told b due img here out₀ out
  tells due e =
      let f : with_rest img (block w r xs made over text) ≡ due = rw is at e in
      (rw (is, at_end, k.bytes), record { bytes = rw (front k, at_end) f; fits = k.fits })

-- ---- the first block
module _ (img w : List ℕ) (r : Registers) (f : w ≡ start_bytes) (e : r ≡ start_registers img) where
  abbrev start : Bool → List ℕ → Block
  start over text = block w r (replicate 16 0) 0 over text

  abbrev verdict : Result ⊤ Refusal
  verdict = start_verdict (window_of w) img (pc r) (fcx r) (pcxi r)

  begin_long : longest < length img → begin_of img ≡ start true long_text
  unfolding begin_of
  begin_long h = rw (lt-ltb longest (length img) h, e, f)

  begin_refused : length img ≤ longest → (x : Refusal) → verdict ≡ Err x → begin_of img ≡ start true (refused_of x)
  unfolding begin_of
  begin_refused h x g = let k = rw (f, e) at g in rw (le-ltb longest (length img) h, k, e, f)

  begin_accepted : length img ≤ longest → verdict ≡ (Ok tt) → begin_of img ≡ start false header_text
  unfolding begin_of
  begin_accepted h g = let k = rw (f, e) at g in rw (le-ltb longest (length img) h, k, e, f)

  abbrev Begun : Bool → List ℕ → List ℕ → ℕ → Type 0
  Begun over out₀ out at = Told (begin_of img) (walk_of img) img (standing w r (replicate 16 0) 0 over at) out₀ out

  module _ {out₀ out : List ℕ} {most at : ℕ} where
    pub begun_long : longest < length img → Written out₀ 0 long_text most out at → Begun true out₀ out at
    begun_long h k = tells img (begin_long h) k _ (begin_whole img)

    pub begun_refused : length img ≤ longest → (x : Refusal) → verdict ≡ Err x → Written out₀ 0 (refused_of x) most out at → Begun true out₀ out at
    begun_refused h x g k = tells img (begin_refused h x g) k _ (begin_whole img)

    pub begun_accepted : length img ≤ longest → verdict ≡ (Ok tt) → Written out₀ 0 header_text most out at → Begun false out₀ out at
    begun_accepted h g k = tells img (begin_accepted h g) k _ (begin_whole img)

-- ---- the next one
-- what `go_on` promises, in its clauses' order
abbrev pub Gone : List ℕ → Walk → Walk → List ℕ → List ℕ → Type 0
Gone img v w out₀ out = (left w out ≡ placed (go_on_of img v) out₀) × (Part (remaining img v) img w out × Onward v w)

module _ (img : List ℕ) (v : Walk) (more : v.over ≡ false) {out₀ out : List ℕ} {made : ℕ} {over : Bool} {r : Registers} {xs w : List ℕ} {at : ℕ} (d : Done img v.made v.registers v.requests v.window out₀ out made over r xs w at) where
  is_next : go_on_of img v ≡ block w r xs made over d.text
  unfolding go_on_of
  is_next = d.is

  pub goes : (over ≡ false → v.made < made) → (over ≡ false → made ≤ all_steps) → Gone img v (standing w r xs made over at) out₀ out
  goes h l = let t = tells img is_next d.wrote _ (next_whole img v more) in (t.0, (t.1, record { more = h; most = l }))

-- of a walk that is over nothing more is asked
pub goes_last : (img : List ℕ) (v : Walk) → v.over ≡ false → {out₀ out : List ℕ} {made : ℕ} {r : Registers} {xs w : List ℕ} {at : ℕ} → Done img v.made v.registers v.requests v.window out₀ out made true r xs w at
    → Gone img v (standing w r xs made true at) out₀ out
goes_last img v more d = goes img v more d (λ n. absurd (never n)) (λ n. absurd (never n))

-- ---- the window as an array of bytes
byte : (v : ℕ) (us : List Val) → Is (UInt w8) v us → v < 2 ^ 8
byte v us p = p.1

pub window_long : (w : Walk) {vs : List Val} → Is (row.the_row) w vs → length w.window ≡ 4096
window_long w p = field_long (UInt w8) ℕ (λ v. v) (λ (v : ℕ). v < 2 ^ 8) byte 4096 w.window p.0.0 (rw (map-id w.window) p.1.1.0)

-- A walk in blocks of output: what each function leaves, and what is promised of the blocks together.
use Rattle.std.specs.Prelude.{ℕ, zero, suc, ◌+◌, ◌-◌, ◌<◌, ◌≤◌, ◌≡◌, Bool, true, false, cond, List, [], ◌++◌, length, take, replicate, ltb, Err, Ok, Result, ⊤}
use Rattle.std.proofs.lemmas.List.Edits.{sets}
use Rattle.registers.specs.Registers.{pc}
use Rattle.registers.specs.declared.Registers.{Registers}
use Rattle.walk.specs.Start.{start_bytes, start_registers, start_verdict_of}
use Rattle.walk.specs.Text.{header_text, end_of, refused_of, long_text}
use Rattle.walk.specs.Walk.{longest, all_steps, is_last, step_from, printed, walk_from}
use Rattle.walk.specs.declared.blocks.Walk.{Walk}
use Rattle.inputs.specs.declared.verdict.Refusal.{Refusal}
use Rattle.events.specs.declared.event.Event.{Event}
use Rattle.machine.specs.declared.answer.Unmade.{Unmade}

-- a block: where the walk stands after it, and its text
pub record Block : Type 0 where
  pub walk : Walk
  pub text : List ℕ

abbrev pub standing : List ℕ → Registers → List ℕ → ℕ → Bool → ℕ → Walk
standing w r xs made over len = record { window = w; registers = r; requests = xs; made = made; over = over; len = len }

abbrev pub block : List ℕ → Registers → List ℕ → ℕ → Bool → List ℕ → Block
block w r xs made over text = record { walk = standing w r xs made over (length text); text = text }

-- what a function leaves: the walk, and the buffer with the text set byte by byte at its front and all past it as it was
pub record Left : Type 0 where
  pub walk : Walk
  pub out : List ℕ

abbrev pub left : Walk → List ℕ → Left
left w out = record { walk = w; out = out }

abbrev pub placed : Block → List ℕ → Left
placed b out = left b.walk (sets out 0 b.text)

-- ---- the first block: no step is made, and only an accepted image's walk goes on
abbrev pub first_block : List ℕ → Bool → List ℕ → Block
first_block img over text = block start_bytes (start_registers img) (replicate 16 0) 0 over text

abbrev pub begin_by : List ℕ → Result ⊤ Refusal → Block
begin_by img (Err x) = first_block img true (refused_of x)
begin_by img (Ok _) = first_block img false header_text

unfoldable pub begin_of : List ℕ → Block
begin_of img = cond (ltb longest (length img)) (first_block img true long_text) (begin_by img (start_verdict_of img))

-- ---- the next one: a block with more text than that takes no further step
abbrev pub full : ℕ
full = 65408

-- a stop and a refusal are no step made
abbrev pub made_by : Result Event Unmade → ℕ → ℕ
made_by (Ok e) made = made + 1
made_by (Err u) made = made

-- the block with `text` in it so far, after `made` steps and with at most n more
unfoldable pub block_from : ℕ → List ℕ → ℕ → Registers → List ℕ → List ℕ → List ℕ → Block
block_from zero img made r xs w text = block w r xs made true (text ++ end_of made)
block_from (suc n) img made r xs w text =
    let s = step_from img r xs w in
    let more = text ++ printed s.outcome made (pc r) s.registers in
    let last = block s.memory.bytes s.registers s.requests (made_by s.outcome made) true more in
    let next = block_from n img (made + 1) s.registers s.requests s.memory.bytes more in
    cond (ltb full (length text)) (block w r xs made false text) (cond (is_last s.outcome) last next)

unfoldable pub go_on_of : List ℕ → Walk → Block
go_on_of img w = block_from (all_steps - w.made) img w.made w.registers w.requests w.window []

-- ---- what follows of the blocks together
-- what is still to be printed after a block
unfoldable pub remaining : List ℕ → Walk → List ℕ
remaining img w = cond w.over [] (walk_from (all_steps - w.made) img w.made w.registers w.requests w.window)

-- a block's bytes, followed by those still to be printed, are those that were due
pub record Part (due img : List ℕ) (w : Walk) (out : List ℕ) : Type 0 where
  pub bytes : take w.len out ++ remaining img w ≡ due
  pub fits : w.len ≤ length out

-- each block makes a step or is the last one, so that the blocks end
pub record Onward (before after : Walk) : Type 0 where
  pub more : after.over ≡ false → before.made < after.made
  pub most : after.over ≡ false → after.made ≤ all_steps

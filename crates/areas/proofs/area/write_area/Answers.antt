use borrow.Author.Rules.{rules}
use mathlib.Core.Path.{refl}
use native.Mathlib.Omega.{arith}
use Rattle.areas.proofs.Parts.{first_words, second_words}
use Rattle.areas.proofs.area.write_area.Goals as goal

pub overflow_add-k : goal.overflow_add-k
overflow_add-k c = let h = rw c.in-First.is at c.requires in omega arith

pub slice_bounds-put_words-end : goal.slice_bounds-put_words-end
slice_bounds-put_words-end c = rw c.in-First.is at c.requires

pub returns-in-First : goal.returns-in-First
returns-in-First c =
    let p = c in
    let e = c.in-First.is in
    record { written = first_words p.args.window.now p.args.window2.now _ p.args.at _ e (rw e at p.requires) _ c.put_words.ensures; length_kept = search rules }

pub overflow_add-k-in-Second : goal.overflow_add-k-in-Second
overflow_add-k-in-Second c = let h = rw c.in-Second.is at c.requires in omega arith

pub slice_bounds-put_words-end-in-Second : goal.slice_bounds-put_words-end-in-Second
slice_bounds-put_words-end-in-Second c = rw c.in-Second.is at c.requires

pub returns-in-Second : goal.returns-in-Second
returns-in-Second c =
    let p = c in
    let e = c.in-Second.is in
    record { written = second_words p.args.window.now p.args.window2.now _ p.args.at _ e (rw e at p.requires) _ c.put_words-in-Second.ensures; length_kept = refl }

pub returns-in-Neither : goal.returns-in-Neither
returns-in-Neither c = absurd (rw c.in-Neither.is at c.requires)

use Rattle.std.proofs.Common.{◌/◌, ◌^◌, ◌∙◌, refl, ltb, rules, tests}
use Rattle.std.proofs.lemmas.Iterator.{YieldsList-from_range}
use Rattle.std.proofs.lemmas.Iterator.Search.{find_from_yields_List}
use Rattle.image.proofs.Marking.{shift_first}
use Rattle.image.proofs.marks.shift_for.Goals as goal

pub returns : goal.returns
returns c =
    let first = find_from_yields_List (λ s. ltb (c.args.bytes / 2 / 2 ^ s) 4080) _ _ _ c.find.ensures.ran (YieldsList-from_range 1 31 30 refl refl) (λ x b q k. search (rules, tests)) in
    c.unwrap_or.ensures ∙ shift_first 30 1 c.args.bytes _ first

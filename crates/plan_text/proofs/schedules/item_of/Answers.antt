-- An array that spells an item has two values or three, and what these two spell, or these three, it spells.
use Rattle.plan_text.proofs.Common.{map, refl, arith, ap, sym, ◌∙◌, view, list_data, three_items, IfNone-mapped}
use Rattle.plan_text.proofs.PartLemmas.{length_of_item}
use Rattle.plan_text.proofs.schedules.item_of.Goals as goal

pub returns-in_default-clause-none : goal.returns-in_default-clause-none
returns-in_default-clause-none c = λ item h _.
    omega (arith, length_of_item _ item (sym c.in_ok-items_of.ensures.some ∙ h), c.in_default.len_below)

pub returns-in_default-2-clause-none : goal.returns-in_default-2-clause-none
returns-in_default-2-clause-none c = λ item h _.
    omega (arith, length_of_item _ item (sym c.in_ok-items_of.ensures.some ∙ h), c.in_default.len_at_least)

pub returns-in-len3-clause-none : goal.returns-in-len3-clause-none
returns-in-len3-clause-none c =
    let items = c.in_ok-items_of.ensures.some ∙ ap (λ vs. list_data (map view vs))
    (three_items _ c.process-item-then-this-lt4.result c.word-item-then-this-lt4.result c.last-item.result
    (omega (arith, c.in-len3)) c.process-item-then-this-lt4.is c.word-item-then-this-lt4.is c.last-item.is) in
    IfNone-mapped c.long_item.result c.long_item.result refl (λ none item h standing. none item (sym h ∙ items) standing)
    c.long_item.ensures.none

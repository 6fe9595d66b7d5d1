use Rattle.history_text.proofs.Common.{map, refl, arith, ap, sym, ◌∙◌, view, list_data}
use Rattle.history_text.proofs.DataLemmas.{length_of_call, three_items, four_items, IfNone-mapped}
use Rattle.history_text.proofs.read_event.call_of.Goals as goal

pub returns-in_default-clause-none : goal.returns-in_default-clause-none
returns-in_default-clause-none c = λ call h _.
    omega (arith, length_of_call _ call (sym c.in_ok-items_of.ensures.some ∙ h), c.in_default.len_below)

pub returns-in_default-2-clause-none : goal.returns-in_default-2-clause-none
returns-in_default-2-clause-none c = λ call h _.
    omega (arith, length_of_call _ call (sym c.in_ok-items_of.ensures.some ∙ h), c.in_default.len_at_least)

pub returns-in-len3-clause-none : goal.returns-in-len3-clause-none
returns-in-len3-clause-none c =
    let items = c.in_ok-items_of.ensures.some ∙ ap (λ vs. list_data (map view vs))
    (three_items _ c.name-item-then-this-lt4.result c.first-item.result c.second-item.result (omega (arith, c.in-len3))
    c.name-item-then-this-lt4.is c.first-item.is c.second-item.is) in
    IfNone-mapped c.call_of_three.result c.call_of_three.result refl (λ none call h range. none call (sym h ∙ items) range)
    c.call_of_three.ensures.none

pub returns-in-len4-clause-none : goal.returns-in-len4-clause-none
returns-in-len4-clause-none c =
    let items = c.in_ok-items_of.ensures.some ∙ ap (λ vs. list_data (map view vs))
    (four_items _ c.name-item-then-this-lt5.result c.key-item-then-this-lt5.result c.old-item.result c.new-item.result
    (omega (arith, c.in-len4)) c.name-item-then-this-lt5.is c.key-item-then-this-lt5.is c.old-item.is c.new-item.is) in
    IfNone-mapped c.call_of_four.result c.call_of_four.result refl (λ none call h range. none call (sym h ∙ items))
    c.call_of_four.ensures.none

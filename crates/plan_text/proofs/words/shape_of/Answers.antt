-- An array that lists numbers of rows has four values, and what these four list, it lists.
use Rattle.plan_text.proofs.Common.{map, refl, arith, ap, sym, ◌∙◌, view, list_data, four_items, IfNone-mapped}
use Rattle.plan_text.proofs.PartLemmas.{length_of_rows}
use Rattle.plan_text.proofs.words.shape_of.Goals as goal

pub returns-in_default-clause-none : goal.returns-in_default-clause-none
returns-in_default-clause-none c = λ shape h _.
    omega (arith, length_of_rows _ shape (sym c.in_ok-items_of.ensures.some ∙ h), c.in_default.len_below)

pub returns-in_default-2-clause-none : goal.returns-in_default-2-clause-none
returns-in_default-2-clause-none c = λ shape h _.
    omega (arith, length_of_rows _ shape (sym c.in_ok-items_of.ensures.some ∙ h), c.in_default.len_at_least)

pub returns-in-len4-clause-none : goal.returns-in-len4-clause-none
returns-in-len4-clause-none c =
    let items = c.in_ok-items_of.ensures.some ∙ ap (λ vs. list_data (map view vs))
    (four_items _ c.rows4-item.result c.rows16-item.result c.rows48-item.result c.rows256-item.result
    (omega (arith, c.in-len4)) c.rows4-item.is c.rows16-item.is c.rows48-item.is c.rows256-item.is) in
    IfNone-mapped c.shape_of_four.result c.shape_of_four.result refl (λ none shape h within. none shape (sym h ∙ items) within)
    c.shape_of_four.ensures.none

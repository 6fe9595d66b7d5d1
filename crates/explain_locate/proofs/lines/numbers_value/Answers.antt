use Rattle.explain_locate.proofs.Common.{[], ◌∷◌, ◌++◌, sym, ap, ap₂, map, ◌∙◌, map-append, map_more, take_all, view, number_data, list_data}
use Rattle.explain_locate.proofs.lines.numbers_value.Goals as goal

pub loop-number-preserved : goal.loop-number-preserved
loop-number-preserved c =
    ap (map view) c.in_ok-push.ensures.items
    ∙ (map-append view c.loop-number.items.items (c.from.result ∷ [])
    ∙ (ap₂ (λ l v. l ++ v ∷ []) c.loop-number.invariant c.from.ensures
    ∙ sym (map_more number_data c.args.numbers.now c.loop-number.number-index _ c.loop-number-test.true)))

pub returns : goal.returns
returns c = c.from-2.ensures
    ∙ ap list_data (c.loop-number.invariant
    ∙ ap (map number_data) (take_all c.loop-number.number-index c.args.numbers.now c.loop-number-test.false))

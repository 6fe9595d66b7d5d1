use Rattle.history_text.proofs.Common.{[], ◌∷◌, ◌++◌, sym, ap, ap₂, map, ◌∙◌, map-append, map_more, take_all, string, view, number_data, list_data}
use Rattle.history_text.proofs.write_text.named_numbers.Goals as goal

pub loop-number-preserved : goal.loop-number-preserved
loop-number-preserved c =
    ap (map view) c.in_ok-push-2.ensures.items
    ∙ (map-append view c.loop-number.items.items (c.from.result ∷ [])
    ∙ (ap₂ (λ l v. l ++ v ∷ []) c.loop-number.invariant c.from.ensures
    ∙ ap (λ l. string c.args.name.now ∷ l)
    (sym (map_more number_data c.args.numbers.now c.loop-number.number-index _ c.loop-number-test.true))))

pub returns : goal.returns
returns c =
    c.from-2.ensures
    ∙ ap list_data (c.loop-number.invariant
    ∙ ap (λ l. string c.args.name.now ∷ map number_data l)
    (take_all c.loop-number.number-index c.args.numbers.now c.loop-number-test.false))

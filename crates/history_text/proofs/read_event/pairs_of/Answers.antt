-- The value at hand spells no pair, so the values together spell no pairs.
use Rattle.history_text.proofs.Common.{[], ◌∷◌, ◌++◌, ◌∙◌, ap, ap₂, sym, map, map-append, map_more, take_all, pair_data, view}
use Rattle.history_text.proofs.DataLemmas.{mapped_at}
use Rattle.history_text.proofs.read_event.pairs_of.Goals as goal

pub returns-in_default-clause-none : goal.returns-in_default-clause-none
returns-in_default-clause-none c = λ pairs h.
    let pair = mapped_at view pair_data c.args.items.now pairs c.loop-item.item-index c.item-item.result h c.loop-item-test.true in
    c.in_default.ensures.none pair.0 (ap view c.item-item.is ∙ pair.1)

pub loop-item-preserved : goal.loop-item-preserved
loop-item-preserved c =
    map_more view c.args.items.now c.loop-item.item-index c.item-item.result c.loop-item-test.true
    ∙ (ap₂ (λ l d. l ++ d ∷ []) c.loop-item.invariant (ap view (sym c.item-item.is) ∙ c.in-Some.ensures.some)
    ∙ (sym (map-append pair_data c.loop-item.pairs.items (c.in-Some.pair ∷ []))
    ∙ ap (map pair_data) (sym c.in_ok-push.ensures.items)))

pub returns-clause-some : goal.returns-clause-some
returns-clause-some c =
    ap (map view) (sym (take_all c.loop-item.item-index c.args.items.now c.loop-item-test.false)) ∙ c.loop-item.invariant

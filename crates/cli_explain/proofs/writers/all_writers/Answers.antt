use Rattle.cli_explain.proofs.Common.{map, ap, ◌∙◌, take_all, view, list_data, writer_data}
use Rattle.cli_explain.proofs.ValueLemmas.{pushed_number}
use Rattle.cli_explain.proofs.writers.all_writers.Goals as goal

pub loop-place-preserved : goal.loop-place-preserved
loop-place-preserved c =
    ap (map view) c.in_ok-push.ensures.items
    ∙ pushed_number (writer_data c.args.events.now) c.loop-place.items.items c.in_ok-writer_value.field-0 c.args.places.now
    c.loop-place.place-index c.loop-place-test.true c.loop-place.invariant c.in_ok-writer_value.ensures

pub returns : goal.returns
returns c = c.from.ensures
    ∙ ap list_data (c.loop-place.invariant
    ∙ ap (map (writer_data c.args.events.now)) (take_all c.loop-place.place-index c.args.places.now c.loop-place-test.false))

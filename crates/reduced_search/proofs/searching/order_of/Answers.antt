use Rattle.std.proofs.Common.{◌≡◌, ◌≤◌, length, take, ap, ◌∙◌}
use Rattle.std.proofs.lemmas.List.{take_all}
use Rattle.search_choices.specs.Standing.{places}
use Rattle.reduced_search.proofs.searching.order_of.Goals as goal

pub returns : goal.returns
returns c =
    let levels = c.args.standing.now.levels.items in
    let items = c.deref-level-items.ensures.value in
    let i = c.loop-level.level-index in
    let past : length levels ≤ i = rw items at c.loop-level-test.false in
    let so_far : c.loop-level.order.items ≡ places (take i levels) = rw items at c.loop-level.invariant in
    so_far ∙ ap places (take_all i levels past)

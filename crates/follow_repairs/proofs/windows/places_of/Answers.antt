use Rattle.follow_repairs.proofs.Common.{get_or, take, [], ◌∷◌, ◌++◌, ap, sym, ◌∙◌, arith, map, slice_index}
use Rattle.std.proofs.lemmas.List.{take_all, take_more, map-append}
use Rattle.follow_repairs.proofs.windows.places_of.Goals as goal

pub loop-place-preserved : goal.loop-place-preserved
loop-place-preserved c =
    let left = c.args.left.now in
    let order = c.args.order.now in
    let i = c.loop-place.place-index in
    c.in_ok-push.ensures.items ∙ ap (λ xs. xs ++ get_or left (get_or order i 0) 0 ∷ []) c.loop-place.invariant
    ∙ sym (ap (map (slice_index left)) (take_more order i 0 c.loop-place-test.true)
    ∙ map-append (slice_index left) (take i order) (get_or order i 0 ∷ []))

pub returns : goal.returns
returns c =
    c.loop-place.invariant
    ∙ ap (map (slice_index c.args.left.now)) (take_all c.loop-place.place-index c.args.order.now (omega (arith, c.loop-place-test.false)))

use Rattle.running.proofs.Common.{◌≡◌, ◌*◌, length, refl, sym, ap, ◌∙◌, arith, length-map, most_calls}
use Rattle.running.proofs.RoomLemmas.{room-within}
use Rattle.running.proofs.room.is_drivable.Goals as goal

pub overflow_mul-result : goal.overflow_mul-result
overflow_mul-result c =
    let plan = c.args.plan.now in
    let scripts = c.scripts-scripts.result.now in
    let same = c.scripts-scripts.ensures.same in
    let many : length scripts ≡ length plan = sym (length-map scripts (λ script. script.items)) ∙ ap length same in
    let most : c.most_calls.result ≡ most_calls plan = c.most_calls.ensures.longest ∙ ap most_calls same in
    let product : length scripts * c.most_calls.result ≡ length plan * most_calls plan = rw (many, most) refl in
    omega (arith, product, room-within plan c.scripts-scripts.ensures.within.few)

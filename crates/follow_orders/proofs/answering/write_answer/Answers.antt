use Rattle.follow_orders.proofs.Common.{◌≡◌, Some, length, set, refl, sym, ap, ◌∙◌, slice_get, slice_get_read, Operation, answered_call, set_answer}
use Rattle.follow_orders.proofs.answering.write_answer.Goals as goal

pub returns : goal.returns
returns c =
    let calls = c.args.calls.now in
    let a = c.index-calls-place.result in
    let here : slice_get calls c.args.place ≡ Some a =
    slice_get_read calls (length calls) c.args.place a refl c.requires c.index-calls-place.is in
    ap (λ (x : Operation). set calls c.args.place (answered_call x c.args.response)) (sym c.index-calls-place.is)
    ∙ sym (ap (set_answer calls c.args.place c.args.response) here)

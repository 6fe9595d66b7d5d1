use Rattle.search.proofs.Common.{◌≡◌, ◌<◌, Some, None, length, refl, sym, ap, ◌∙◌, arith, slice_get, slice_get_read, Operation, places}
use Rattle.search.proofs.WalkLemmas.{earliest-none, earliest-first}
use Rattle.search.proofs.standing.earliest_answer.Goals as goal

pub returns-then-first-calls : goal.returns-then-first-calls
returns-then-first-calls g c =
    let s = c.requires.1 in
    earliest-none c.args.calls.now (places c.args.standing.now.levels.items) c.args.standing.now.calls c.args.standing.now.answers s.links
    (sym c.after-first.ensures.after ∙ c.if-first-calls.true)

pub returns-in-Some : goal.returns-in-Some
returns-in-Some g c =
    let s = c.requires.1 in
    let calls = c.args.calls.now in
    let x = c.after-first.result in
    let below : x < length calls = omega (arith, c.after-first.ensures.within, s.links.answer_size, c.if-first-calls.false) in
    let here : slice_get calls x ≡ Some c.index-calls-first.result =
    slice_get_read calls (length calls) x c.index-calls-first.result refl below c.index-calls-first.is in
    earliest-first calls (places c.args.standing.now.levels.items) c.args.standing.now.calls c.args.standing.now.answers s.links x
    c.index-calls-first.result
    (sym c.after-first.ensures.after) below here (Some c.in-Some.response)
    (ap (λ (a : Operation). a.response) c.index-calls-first.is ∙ c.in-Some.is)

pub returns-in-None : goal.returns-in-None
returns-in-None g c =
    let s = c.requires.1 in
    let calls = c.args.calls.now in
    let x = c.after-first.result in
    let below : x < length calls = omega (arith, c.after-first.ensures.within, s.links.answer_size, c.if-first-calls.false) in
    let here : slice_get calls x ≡ Some c.index-calls-first.result =
    slice_get_read calls (length calls) x c.index-calls-first.result refl below c.index-calls-first.is in
    earliest-first calls (places c.args.standing.now.levels.items) c.args.standing.now.calls c.args.standing.now.answers s.links x
    c.index-calls-first.result
    (sym c.after-first.ensures.after) below here None (ap (λ (a : Operation). a.response) c.index-calls-first.is ∙ c.in-None.is)

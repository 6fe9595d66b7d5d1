use Rattle.search_choices.proofs.Common.{◌≡◌, Some, length, refl, sym, ap, ◌∙◌, subst, arith, slice_get, is_some, false≢true, not-false, slice_get_read}
use Rattle.search_choices.proofs.Common.{same_Some, Operation, WaitsForNone, places}
use Rattle.search_choices.proofs.idle.may_wait.Goals as goal

pub is_taken-requires : goal.is_taken-requires
is_taken-requires g c =
    let s = c.requires.1.1.0 in
    record { known = omega (arith, s.marked.all, c.requires.1.1.1); marks = s.marked.marks c.args.place c.requires.1.1.1 }

pub returns-then-is_taken : goal.returns-then-is_taken
returns-then-is_taken g c = λ _ a d. absurd (d.new (c.is_taken.ensures.0 c.if-is_taken.true))

pub returns-in-Some : goal.returns-in-Some
returns-in-Some g c = λ no a d.
    let calls = c.args.calls.now in
    let b = c.index-calls-place.result in
    let here : slice_get calls c.args.place ≡ Some b =
    slice_get_read calls (length calls) c.args.place b refl c.requires.1.1.1 c.index-calls-place.is in
    subst (WaitsForNone c.args.standing.now.map calls (places c.args.standing.now.levels.items) c.args.answered)
    (same_Some b a (sym here ∙ d.here))
    (c.waits_for_none.ensures (not-false c.waits_for_none.result no) b c.in-Some.response refl c.in-Some.is refl)

pub returns-in-None : goal.returns-in-None
returns-in-None g c = λ _ a d.
    let calls = c.args.calls.now in
    let b = c.index-calls-place.result in
    let here : slice_get calls c.args.place ≡ Some b =
    slice_get_read calls (length calls) c.args.place b refl c.requires.1.1.1 c.index-calls-place.is in
    let same = same_Some b a (sym here ∙ d.here) in
    absurd (false≢true (sym (ap is_some (sym (ap (λ (x : Operation). x.response) same) ∙ c.in-None.is)) ∙ d.completed))

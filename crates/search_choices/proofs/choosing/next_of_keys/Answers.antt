use Rattle.search_choices.proofs.Common.{inl, inr, ◌≡◌, Some, length, refl, sym, ap, ◌∙◌, subst, ⊎_elim, arith, slice_get, false≢true, both_ways, cases_lt}
use Rattle.search_choices.proofs.Common.{slice_get_read, slice_get_within, same_Some, Operation, IsCallOfOne, places}
use Rattle.search_choices.proofs.EarliestLemmas.{not_next}
use Rattle.search_choices.proofs.FirstKeyLemmas.{IsLeftAside, next_of_one}
use Rattle.search_choices.proofs.IdleLemmas.{tried-more, tried-less}
use Rattle.search_choices.proofs.choosing.next_of_keys.Goals.{then-is_of_one+then-may_come+in_ok-push, else-is_of_one}
use Rattle.search_choices.proofs.choosing.next_of_keys.Goals.{else-is_of_one-via-then-is_of_one+else-may_come, else-is_of_one-via-else-is_of_one}
use Rattle.search_choices.proofs.choosing.next_of_keys.Goals as goal

pub returns-then-answered-call-clause-choices : goal.returns-then-answered-call-clause-choices
returns-then-answered-call-clause-choices g c =
    let calls = c.args.calls.now in
    let path = places c.args.standing.now.levels.items in
    let i = c.loop-place.place in
    let a = c.index-calls-place.result in
    let here : slice_get calls i ≡ Some a = slice_get_read calls (length calls) i a refl c.loop-place-test.true c.index-calls-place.is in
    next_of_one g.start c.args.standing.now.map calls path c.args.keys.now c.loop-place.next.items c.requires.1.1.0.holds c.loop-place.invariant.0
    (λ n next. ⊎_elim
    (λ lt. c.loop-place.invariant.1 n lt next)
    (λ ge. absurd (not_next calls path g.start i n c.args.answered a c.requires.1.0 here c.if-answered-call.true c.requires.1.1.1 ge next))
    (cases_lt n i))

pub may_come-requires : goal.may_come-requires
may_come-requires g c =
    let calls = c.args.calls.now in
    let i = c.loop-place.place in
    let a = c.index-calls-place.result in
    let here : slice_get calls i ≡ Some a = slice_get_read calls (length calls) i a refl c.loop-place-test.true c.index-calls-place.is in
    let early = c.if-answered-call.false in
    (c.requires.1.1.0, (c.requires.1.1.1, (c.loop-place-test.true, rw here early)))

pub loop-place-preserved : goal.loop-place-preserved
loop-place-preserved g c =
    let calls = c.args.calls.now in
    let path = places c.args.standing.now.levels.items in
    let keys = c.args.keys.now in
    let i = c.loop-place.place in
    let a = c.index-calls-place.result in
    let here : slice_get calls i ≡ Some a = slice_get_read calls (length calls) i a refl c.loop-place-test.true c.index-calls-place.is in
    elim c.if-is_of_one.branch [
      | then-is_of_one+then-may_come+in_ok-push w ↦ tried-more g.start calls path (IsLeftAside c.args.standing.now.map calls keys) c.loop-place.next.items
          c.if-is_of_one.next.items i (ap (λ v. v.items) w.next-is ∙ w.in_ok-push.ensures.items) (w.may_come.ensures.next w.if-may_come.true)
          c.loop-place.invariant
      | else-is_of_one w ↦ tried-less g.start calls path (IsLeftAside c.args.standing.now.map calls keys) c.loop-place.next.items c.if-is_of_one.next.items i
          (ap (λ v. v.items) w.next-is)
          (λ next. elim w.else-is_of_one.branch [
            | else-is_of_one-via-then-is_of_one+else-may_come w' ↦ ⊎_elim (λ idle. absurd (false≢true idle.0)) (λ vain. inr vain)
                (w'.may_come.ensures.not_next w'.if-may_come.false next)
            | else-is_of_one-via-else-is_of_one w' ↦ inl (λ b there one. both_ways c.is_of_one.result w'.if-is_of_one.false
                (c.is_of_one.ensures.1 (subst (λ (p : Operation). IsCallOfOne keys p.call) (same_Some b a (sym there ∙ here)) one)))
          ])
          c.loop-place.invariant
    ]

pub returns-clause-choices : goal.returns-clause-choices
returns-clause-choices g c =
    next_of_one g.start c.args.standing.now.map c.args.calls.now (places c.args.standing.now.levels.items) c.args.keys.now c.loop-place.next.items
    c.requires.1.1.0.holds
    c.loop-place.invariant.0
    (λ n next. c.loop-place.invariant.1 n (omega (arith, c.loop-place-test.false, slice_get_within c.args.calls.now n next.call next.here)) next)

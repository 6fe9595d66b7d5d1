use Rattle.search_choices.proofs.Common.{◌≡◌, Some, length, refl, ap, ◌∙◌, subst, ⊎_elim, arith, slice_get, cases_lt, slice_get_read, slice_get_within}
use Rattle.search_choices.proofs.Common.{read_completed, read_leaves, AreIdle, IsPassedOver, places, Contents, Operation, Bool, List, ℕ, Contains, ◌⊎◌}
use Rattle.search_choices.proofs.Common.{pairs_after}
use Rattle.search_choices.proofs.EarliestLemmas.{not_next}
use Rattle.search_choices.proofs.IdleLemmas.{tried-more, tried-less, tried_close}
use Rattle.search_choices.proofs.StandingLemmas.{read_next, read_choices}
use Rattle.search_choices.proofs.choosing.next_calls.Goals.{then-may_come+else-is_read+in_ok-push, else-may_come}
use Rattle.search_choices.proofs.choosing.next_calls.Goals as goal

-- where the map is what the calls lead to
passed : (m pairs : Contents) (calls : List Operation) (idle : Bool) (rest : List ℕ) (n : ℕ) → m ≡ pairs → Contains rest n ⊎ IsPassedOver idle m calls n
    → Contains rest n ⊎ IsPassedOver idle pairs calls n
passed m pairs calls idle rest n is h = subst (λ p. Contains rest n ⊎ IsPassedOver idle p calls n) is h

pub returns-then-answered-call-clause-choices : goal.returns-then-answered-call-clause-choices
returns-then-answered-call-clause-choices g c =
    let calls = c.args.calls.now in
    let path = places c.args.standing.now.levels.items in
    let i = c.loop-place.place in
    let a = c.index-calls-place.result in
    let inv = c.loop-place.invariant in
    let here : slice_get calls i ≡ Some a = slice_get_read calls (length calls) i a refl c.loop-place-test.true c.index-calls-place.is in
    let late = c.if-answered-call.true in
    record {
      next = inv.0;
      closes = tried_close g.start calls path c.args.answered c.are_idle-idle.result c.loop-place.next.items c.requires.1.1.1.0 c.requires.1.0
          c.requires.1.1.1.1.1 (λ yes. subst (λ m. AreIdle m calls path c.args.answered) c.requires.1.1.1.1.0.holds (c.are_idle-idle.ensures yes))
          (λ n next. passed c.args.standing.now.map (pairs_after g.start calls path) calls c.are_idle-idle.result c.loop-place.next.items n
          c.requires.1.1.1.1.0.holds (⊎_elim (λ lt. inv.1 n lt next)
          (λ ge. absurd (not_next calls path g.start i n c.args.answered a c.requires.1.1.0 here late c.requires.1.1.1.1.1 ge
          next)) (cases_lt n i)));
    }

pub may_come-requires : goal.may_come-requires
may_come-requires g c =
    let calls = c.args.calls.now in
    let i = c.loop-place.place in
    let a = c.index-calls-place.result in
    let here : slice_get calls i ≡ Some a = slice_get_read calls (length calls) i a refl c.loop-place-test.true c.index-calls-place.is in
    let early = c.if-answered-call.false in
    (c.requires.1.1.1.1.0, (c.requires.1.1.1.1.1, (c.loop-place-test.true, rw here early)))

pub returns-then-is_read-clause-choices : goal.returns-then-is_read-clause-choices
returns-then-is_read-clause-choices g c =
    let calls = c.args.calls.now in
    let path = places c.args.standing.now.levels.items in
    let i = c.loop-place.place in
    let a = c.index-calls-place.result in
    let here : slice_get calls i ≡ Some a = slice_get_read calls (length calls) i a refl c.loop-place-test.true c.index-calls-place.is in
    let next = c.may_come.ensures.next c.if-may_come.true in
    let rising = c.requires.1.1.1.0 in
    let read = c.is_read.ensures.0 c.if-is_read.true in
    read_choices g.start calls path c.in_ok-from_slice.field-0.items i rising c.in_ok-from_slice.ensures.items next
    (read_next g.start calls path i a rising here (read_completed a.call a.response read) (λ m rises legal.
    read_leaves m a.call a.response read rises legal) next)

pub loop-place-preserved : goal.loop-place-preserved
loop-place-preserved g c =
    let calls = c.args.calls.now in
    let path = places c.args.standing.now.levels.items in
    let i = c.loop-place.place in
    elim c.if-may_come.branch [
      | then-may_come+else-is_read+in_ok-push w ↦ tried-more g.start calls path (IsPassedOver c.are_idle-idle.result c.args.standing.now.map calls) c.loop-place.next.items c.if-may_come.next.items i
          (ap (λ v. v.items) w.next-is ∙ w.in_ok-push.ensures.items) (c.may_come.ensures.next w.if-may_come.true) c.loop-place.invariant
      | else-may_come w ↦ tried-less g.start calls path (IsPassedOver c.are_idle-idle.result c.args.standing.now.map calls) c.loop-place.next.items c.if-may_come.next.items i
          (ap (λ v. v.items) w.next-is) (c.may_come.ensures.not_next w.if-may_come.false) c.loop-place.invariant
    ]

pub returns-clause-choices : goal.returns-clause-choices
returns-clause-choices g c =
    let calls = c.args.calls.now in
    let path = places c.args.standing.now.levels.items in
    let inv = c.loop-place.invariant in
    record {
      next = inv.0;
      closes = tried_close g.start calls path c.args.answered c.are_idle-idle.result c.loop-place.next.items c.requires.1.1.1.0 c.requires.1.0
          c.requires.1.1.1.1.1 (λ yes. subst (λ m. AreIdle m calls path c.args.answered) c.requires.1.1.1.1.0.holds (c.are_idle-idle.ensures yes))
          (λ n next. passed c.args.standing.now.map (pairs_after g.start calls path) calls c.are_idle-idle.result c.loop-place.next.items n
          c.requires.1.1.1.1.0.holds (inv.1 n (omega (arith, c.loop-place-test.false, slice_get_within calls n next.call next.here)) next));
    }

use Rattle.search_choices.proofs.Common.{◌≡◌, ◌≤◌, Some, length, refl, sym, ◌∙◌, subst, arith, slice_get, both_ways, slice_get_read, same_Some}
use Rattle.search_choices.proofs.Common.{Operation, IsLegalCall, preceded_from_earliest, places}
use Rattle.search_choices.proofs.choosing.may_come.Goals as goal

pub is_taken-requires : goal.is_taken-requires
is_taken-requires g c =
    let s = c.requires.0 in
    record { known = omega (arith, s.marked.all, c.requires.1.1.0); marks = s.marked.marks c.args.place c.requires.1.1.0 }

pub returns-then-is_taken-clause-not_next : goal.returns-then-is_taken-clause-not_next
returns-then-is_taken-clause-not_next g c = λ no next. absurd (next.new (c.is_taken.ensures.0 c.if-is_taken.true))

pub returns-clause-next : goal.returns-clause-next
returns-clause-next g c = λ yes.
    let calls = c.args.calls.now in
    let s = c.requires.0 in
    let path = places c.args.standing.now.levels.items in
    let a = c.index-calls-place.result in
    let here : slice_get calls c.args.place ≡ Some a =
    slice_get_read calls (length calls) c.args.place a refl c.requires.1.1.0 c.index-calls-place.is in
    let early : a.inv ≤ c.args.answered = rw here at c.requires.1.1.1 in
    record {
      call = a;
      here = here;
      new = λ h. both_ways c.is_taken.result c.if-is_taken.false (c.is_taken.ensures.1 h);
      preceded = preceded_from_earliest g.start calls path c.args.answered c.requires.1.0 c.args.place a here early;
      legal = subst (λ m. IsLegalCall m a.call a.response) s.holds (c.may_come_next.ensures.0 yes);
    }

pub returns-clause-not_next : goal.returns-clause-not_next
returns-clause-not_next g c = λ no next.
    let calls = c.args.calls.now in
    let s = c.requires.0 in
    let a = c.index-calls-place.result in
    let here : slice_get calls c.args.place ≡ Some a =
    slice_get_read calls (length calls) c.args.place a refl c.requires.1.1.0 c.index-calls-place.is in
    let same = same_Some next.call a (sym next.here ∙ here) in
    let legal = subst (λ (b : Operation). IsLegalCall c.args.standing.now.map b.call b.response) same
    (subst (λ m. IsLegalCall m next.call.call next.call.response) (sym s.holds) next.legal) in
    absurd (both_ways c.may_come_next.result no (c.may_come_next.ensures.1 legal))

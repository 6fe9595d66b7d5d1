use Rattle.follow_fronts.proofs.Common.{◌≡◌, Some, true, length, refl, sym, ◌∙◌, subst, arith, slice_get, IsSomeAnd, IsTrue, both_ways, slice_get_read}
use Rattle.follow_fronts.proofs.Common.{is_completed}
use Rattle.follow_fronts.proofs.guessing.is_missing.Goals as goal

pub has-requires : goal.has-requires
has-requires c =
    let s = c.requires.stands in
    record { known = omega (arith, s.marked.all, c.requires.known); marks = s.marked.marks c.args.place c.requires.known }

pub returns-then-has-clause-taken : goal.returns-then-has-clause-taken
returns-then-has-clause-taken c = λ no done. c.has.ensures.0 c.if-has.true

pub returns-clause-missing : goal.returns-clause-missing
returns-clause-missing c = λ yes.
    let calls = c.args.calls.now in
    let a = c.index-calls-place.result in
    let here : slice_get calls c.args.place ≡ Some a =
    slice_get_read calls (length calls) c.args.place a refl c.requires.known c.index-calls-place.is in (
      subst (λ o. IsSomeAnd o (λ a. IsTrue (is_completed a))) (sym here) (sym c.is_completed.ensures ∙ yes),
      λ h. both_ways c.has.result c.if-has.false (c.has.ensures.1 h),
    )

pub returns-clause-taken : goal.returns-clause-taken
returns-clause-taken c = λ no done.
    let calls = c.args.calls.now in
    let a = c.index-calls-place.result in
    let here : slice_get calls c.args.place ≡ Some a =
    slice_get_read calls (length calls) c.args.place a refl c.requires.known c.index-calls-place.is in
    let is : is_completed a ≡ true = subst (λ o. IsSomeAnd o (λ a. IsTrue (is_completed a))) here done in
    absurd (both_ways (is_completed a) (sym c.is_completed.ensures ∙ no) is)

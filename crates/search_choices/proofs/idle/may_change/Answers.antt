use Rattle.search_choices.proofs.Common.{◌≡◌, Some, length, refl, sym, ap, ◌∙◌, subst, inr, arith, slice_get, is_some, Contains, false≢true, not-false}
use Rattle.search_choices.proofs.Common.{slice_get_read, same_Some, Operation, IsOutside, places}
use Rattle.search_choices.proofs.idle.may_change.Goals as goal

pub is_taken-requires : goal.is_taken-requires
is_taken-requires g c =
    let s = c.requires.0 in
    record { known = omega (arith, s.marked.all, c.requires.1); marks = s.marked.marks c.args.place c.requires.1 }

pub returns-then-is_taken : goal.returns-then-is_taken
returns-then-is_taken g c = λ _ answered p o is.
    absurd (o.new (subst (Contains (places c.args.standing.now.levels.items)) (sym is) (c.is_taken.ensures.0 c.if-is_taken.true)))

pub returns-then-is_some : goal.returns-then-is_some
returns-then-is_some g c = λ _ answered p o is.
    let calls = c.args.calls.now in
    let a = c.index-calls-place.result in
    let here : slice_get calls c.args.place ≡ Some a =
    slice_get_read calls (length calls) c.args.place a refl c.requires.1 c.index-calls-place.is in
    let same = same_Some p a (sym o.here ∙ (ap (slice_get calls) is ∙ here)) in
    absurd (false≢true (sym (ap is_some (sym (ap (λ (b : Operation). b.response) same) ∙ o.pending)) ∙ (sym c.is_some.ensures ∙ c.if-is_some.true)))

pub returns : goal.returns
returns g c = λ no answered p o is.
    let calls = c.args.calls.now in
    let a = c.index-calls-place.result in
    let here : slice_get calls c.args.place ≡ Some a =
    slice_get_read calls (length calls) c.args.place a refl c.requires.1 c.index-calls-place.is in
    let same = same_Some a p (sym here ∙ (sym (ap (slice_get calls) is) ∙ o.here)) in
    subst (λ (b : Operation). IsOutside c.args.low c.args.high b.call) same (inr (c.is_apart.ensures (not-false c.is_apart.result no)))

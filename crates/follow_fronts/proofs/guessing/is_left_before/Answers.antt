use Rattle.follow_fronts.proofs.Common.{◌≡◌, Some, length, refl, sym, ap, ◌∙◌, arith, slice_get, both_ways, slice_get_read, same_Some, Operation, is_before}
use Rattle.follow_fronts.proofs.Common.{precedes}
use Rattle.follow_fronts.proofs.guessing.is_left_before.Goals as goal

pub has-requires : goal.has-requires
has-requires c =
    let s = c.requires.stands in
    record { known = omega (arith, s.marked.all, c.requires.earlier); marks = s.marked.marks c.args.earlier c.requires.earlier }

pub returns-then-has : goal.returns-then-has
returns-then-has c = λ no before. c.has.ensures.0 c.if-has.true

pub returns : goal.returns
returns c = λ no before.
    let calls = c.args.calls.now in
    let a = c.index-calls-earlier.result in
    let b = c.index-calls-place.result in
    let a_here : slice_get calls c.args.earlier ≡ Some a =
    slice_get_read calls (length calls) c.args.earlier a refl c.requires.earlier c.index-calls-earlier.is in
    let b_here : slice_get calls c.args.place ≡ Some b =
    slice_get_read calls (length calls) c.args.place b refl c.requires.known c.index-calls-place.is in
    let a_is = same_Some before.0 a (sym before.2 ∙ a_here) in
    let b_is = same_Some before.1 b (sym before.3 ∙ b_here) in
    absurd (both_ways (precedes a b)
    (ap (λ (x : Operation). is_before a.response x.inv) c.index-calls-place.is ∙ sym c.is_ended.ensures ∙ no)
    (ap (λ (x : Operation). precedes x b) (sym a_is) ∙ ap (λ (x : Operation). precedes before.0 x) (sym b_is) ∙ before.4))

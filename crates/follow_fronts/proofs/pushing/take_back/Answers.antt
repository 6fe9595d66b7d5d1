use Rattle.follow_fronts.proofs.Common.{◌∷◌, ◌++◌, [], length, ap, sym, ◌∙◌, subst, arith, Contains, both_ways, length-append, Contains-nil, places}
use Rattle.follow_fronts.proofs.Common.{IsFromOn}
use Rattle.follow_fronts.proofs.TakeLemmas.{back-none, back-more}
use Rattle.follow_fronts.proofs.pushing.take_back.Goals as goal

pub has-requires : goal.has-requires
has-requires c =
    let s = c.loop-alloc.invariant.stands in
    record { known = omega (arith, s.marked.all, c.requires.known); marks = s.marked.marks c.args.place c.requires.known }

pub pop-requires : goal.pop-requires
pop-requires c = record { stands = c.loop-alloc.invariant.stands }

pub unreachable-requires : goal.unreachable-requires
unreachable-requires c =
    let popped = rw c.in-None.is at c.in_ok-last.ensures.popped in
    let path = places c.loop-alloc.front.levels.items in
    Contains-nil c.args.place (subst (λ p. Contains p c.args.place) popped.0 (c.has.ensures.0 c.loop-alloc-test.true))

pub loop-alloc-init : goal.loop-alloc-init
loop-alloc-init c = back-none c.args.calls.now c.args.place c.args.front.now c.new-again.result.items c.new-again.ensures.items c.requires.stands

pub loop-alloc-smaller : goal.loop-alloc-smaller
loop-alloc-smaller c =
    let popped = rw c.in-Some.is at c.in_ok-last.ensures.popped in
    omega (arith, ap length popped, length-append (places c.pop.new.front.levels.items) (c.in-Some.last ∷ []))

pub loop-alloc-preserved : goal.loop-alloc-preserved
loop-alloc-preserved c =
    let popped = rw c.in-Some.is at c.in_ok-last.ensures.popped in
    back-more c.args.front.now.start c.args.calls.now (places c.args.front.now.levels.items) c.args.place c.loop-alloc.front
    c.pop.new.front c.loop-alloc.again.items c.push.new.self.items c.in-Some.last c.loop-alloc.invariant
    (c.has.ensures.0 c.loop-alloc-test.true) c.in_ok-last.ensures.stands c.in_ok-last.ensures.start popped c.in_ok-push-in-Some.ensures.items

pub returns-clause-stands : goal.returns-clause-stands
returns-clause-stands c = c.loop-alloc.invariant.stands

pub returns-clause-start : goal.returns-clause-start
returns-clause-start c = c.loop-alloc.invariant.same_start

pub returns-clause-again : goal.returns-clause-again
returns-clause-again c =
    c.loop-alloc.invariant.path_is ∙ ap (λ xs. places c.loop-alloc.front.levels.items ++ xs) (sym c.reverse.ensures.items)

pub returns-clause-from : goal.returns-clause-from
returns-clause-from c =
    subst (IsFromOn c.args.place) (sym c.reverse.ensures.items)
    (c.loop-alloc.invariant.from_on (λ h. both_ways c.has.result c.loop-alloc-test.false (c.has.ensures.1 h)))

pub returns-clause-out : goal.returns-clause-out
returns-clause-out c = λ h. both_ways c.has.result c.loop-alloc-test.false (c.has.ensures.1 h)

use Rattle.follow_fronts.proofs.Common.{List, subst, arith, IsStateBut, Level}
use Rattle.follow_fronts.proofs.StandingLemmas.{stands-pop}
use Rattle.follow_fronts.proofs.pushing.pop.Goals as goal

pub returns-then-place-front-clause-stands : goal.returns-then-place-front-clause-stands
returns-then-place-front-clause-stands c =
    let calls = c.args.calls.now in
    let w = c.args.front.now in
    let levels = c.pop.new.self.items in
    let level = c.in-Some.field-0 in
    let s =
    subst (λ (ls : List Level). IsStateBut w.start calls ls w.map w.taken.items w.low) c.in-Some.ensures.items c.requires.stands in
    stands-pop w.start calls levels level w.map w.taken.items w.low s c.undo_call.new.map level.place c.in_ok-undo_call.ensures
    (omega (arith, c.if-place-front.true)) (omega arith)

pub returns-else-place-front-clause-stands : goal.returns-else-place-front-clause-stands
returns-else-place-front-clause-stands c =
    let calls = c.args.calls.now in
    let w = c.args.front.now in
    let levels = c.pop.new.self.items in
    let level = c.in-Some.field-0 in
    let s =
    subst (λ (ls : List Level). IsStateBut w.start calls ls w.map w.taken.items w.low) c.in-Some.ensures.items c.requires.stands in
    stands-pop w.start calls levels level w.map w.taken.items w.low s c.undo_call.new.map w.low c.in_ok-undo_call.ensures
    (omega arith) (omega (arith, c.if-place-front.false))

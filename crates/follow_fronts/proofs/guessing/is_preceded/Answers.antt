use Rattle.follow_fronts.proofs.Common.{⊎_elim, arith, cases_lt}
use borrow.Author.Count.{below_more}
use Rattle.follow_fronts.proofs.GuessLemmas.{completed_before, none_later}
use Rattle.follow_fronts.proofs.guessing.is_preceded.Goals as goal

pub loop-earlier-init : goal.loop-earlier-init
loop-earlier-init c = λ m lt before. c.requires.below m lt (completed_before c.args.calls.now m c.args.place before)

pub loop-earlier-preserved : goal.loop-earlier-preserved
loop-earlier-preserved c = below_more _ _ c.loop-earlier.invariant (c.is_left_before.ensures c.if-is_left_before.false)

pub returns : goal.returns
returns c = λ no m before. ⊎_elim (λ lt. c.loop-earlier.invariant m (omega (arith, c.loop-earlier-test.false, lt)) before)
    (λ ge. absurd (none_later c.args.calls.now m c.args.place c.requires.rising c.requires.apart ge before))
    (cases_lt m c.args.place)

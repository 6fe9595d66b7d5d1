use Rattle.pool.proofs.Common.{All, IfOk, All-head, All-rest, AnswersOneOf}
use Rattle.pool.proofs.GatherLemmas.{All-gathered}
use Rattle.pool.proofs.pool.search_apart.Goals as goal

pub loop-answers-preserved : goal.loop-answers-preserved
loop-answers-preserved g c =
    let kept = c.loop-answers.invariant in
    let next = c.in-Some.ensures.steps.0 in
    let P = AnswersOneOf (g.G.Gate.was_passed c.args.gate.now) c.args.budget c.args.segments.now in
    let here = All-head (λ r. IfOk r (λ v. All P v.items)) c.in-Some.answers _ (rw next at kept.rest) in
    record {
      so_far = All-gathered P (λ v. v.items) _ _ c.in-Some.answers kept.so_far here c.in_ok-gather.ensures;
      rest = All-rest (λ r. IfOk r (λ v. All P v.items)) c.in-Some.answers _ _ next kept.rest;
    }

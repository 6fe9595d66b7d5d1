use Rattle.pool.proofs.Common.{◌≡◌, length, arith, nil_from_length, IsExactAnswer}
use Rattle.pool.proofs.KnownLemmas.{IsHalfKnown-next, IsHalfKnown-known, IsHalfKnown-found, IsHalfKnown-all}
use Rattle.pool.proofs.PassedLemmas.{passed_known, passed_rest, passed_more, all_passed}
use Rattle.pool.proofs.known.complete.Goals.{in-Some-answer, in-None-answer+in_ok-found-in-None-answer}
use Rattle.pool.proofs.known.complete.Goals as goal

pub enter_and_search-requires-clause-known : goal.enter_and_search-requires-clause-known
enter_and_search-requires-clause-known g c =
    let next = IsHalfKnown-next (IsExactAnswer c.args.budget) c.loop-answer.invariant.known c.in-Some.ensures.steps.0 in
    omega (arith, next, c.loop-answer.answers.ok.0)

pub loop-answer-preserved : goal.loop-answer-preserved
loop-answer-preserved g c =
    let P = IsExactAnswer c.args.budget in
    let WasPassed = g.G.Gate.was_passed c.args.gate.now in
    let kept = c.loop-answer.invariant in
    let answers = c.loop-answer.answers.items in
    let next = c.in-Some.ensures.steps.0 in
    rw c.in_ok-push.ensures.items
    (record {
      known = elim c.match-answer.branch [
        | in-Some-answer w ↦ rw w.found-is (IsHalfKnown-known P kept.known next w.in-Some-answer.is)
        | in-None-answer+in_ok-found-in-None-answer w ↦
            let here : w.len-in-None-answer.result ≡ length answers =
            omega (arith, w.len-in-None-answer.ensures, c.loop-answer.answers.ok.0) in
            rw w.found-is (IsHalfKnown-found P kept.known next (rw here at w.in_ok-found-in-None-answer.ensures.exact))
      ];
      passed = elim c.match-answer.branch [
        | in-Some-answer w ↦ passed_more WasPassed answers _ kept.passed
            (passed_known WasPassed (length answers) kept.rest next w.in-Some-answer.is)
        | in-None-answer+in_ok-found-in-None-answer w ↦
            let here : w.len-in-None-answer.result ≡ length answers =
            omega (arith, w.len-in-None-answer.ensures, c.loop-answer.answers.ok.0) in
            passed_more WasPassed answers _ kept.passed (rw here at w.in_ok-found-in-None-answer.ensures.passed)
      ];
      rest = passed_rest WasPassed answers _ kept.rest next;
    })

pub returns : goal.returns
returns g c =
    let P = IsExactAnswer c.args.budget in
    let all = IsHalfKnown-all P c.loop-answer.invariant.known
    (nil_from_length _ (omega (arith, c.in-None.ensures.steps.0, c.loop-answer.answer-iterator.rest.ok.0))) in
    record {
      exact = all;
      passed = all_passed (g.G.Gate.was_passed c.args.gate.now) P c.args.segments.now c.loop-answer.answers.items all
          c.loop-answer.invariant.passed;
    }

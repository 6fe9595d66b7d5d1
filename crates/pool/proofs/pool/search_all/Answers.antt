use Rattle.pool.proofs.Common.{length, IfOk-weaker, AllZip, IsExactAnswer, IsSoundAnswer}
use Rattle.pool.proofs.KnownLemmas.{none_wrong, exact_after, all_sound}
use Rattle.pool.proofs.PassedLemmas.{none_passed, passed_after}
use Rattle.pool.proofs.pool.search_all.Goals as goal

pub complete-requires-clause-exact : goal.complete-requires-clause-exact
complete-requires-clause-exact g c =
    rw c.in_ok-known.ensures
    (exact_after (g.G.Gate.was_passed c.args.gate.now) _ c.in_ok-answers.answers.items
    (none_wrong (IsExactAnswer c.args.budget) c.args.segments.now) c.in_ok-answers.ensures)

pub complete-requires-clause-passed : goal.complete-requires-clause-passed
complete-requires-clause-passed g c =
    let WasPassed = g.G.Gate.was_passed c.args.gate.now in
    rw c.in_ok-known.ensures
    (passed_after WasPassed _ c.in_ok-answers.answers.items (none_passed WasPassed 0 (length c.args.segments.now)) c.in_ok-answers.ensures)

pub returns-clause-sound : goal.returns-clause-sound
returns-clause-sound g c =
    let segments = c.args.segments.now in
    IfOk-weaker _ (λ v. AllZip (IsExactAnswer c.args.budget) segments v.items) (λ v. AllZip (IsSoundAnswer c.args.budget) segments v.items)
    (λ v exact. all_sound c.args.budget segments v.items exact) c.complete.ensures.exact

-- If no two calls of a stream overlap, no answer leaves a doubt.
use Rattle.follow_monitor.proofs.Common.{All-back, operations, Answer, first_of, KeptPart, IsOwn, pasts_of, covered, suc, [], ◌∷◌, ◌++◌, length}
use Rattle.follow_monitor.proofs.Common.{subst, All-head, All-contains, All, Contains, NoDoubtWithoutOverlap}

pub no_doubt_without_overlap : NoDoubtWithoutOverlap
no_doubt_without_overlap start events process reply budget loss apart spent =
    let calls = operations (events ++ Answer process reply ∷ []) in
    let kept = spent.part.0 in
    let doubtful = spent.part.1 in
    let part : KeptPart = record { keys = covered loss.part.ranges.items; pasts = pasts_of loss.part } in
    let first = first_of start (suc (length events)) calls part kept.others kept.are_kept in
    let own = All-head (IsOwn part.keys calls) doubtful.past doubtful.back
    (All-back (IsOwn part.keys calls) doubtful.front (doubtful.past ∷ doubtful.back)
    (subst (All (IsOwn part.keys calls)) doubtful.parts first.own)) in
    doubtful.overlap (λ a b a_left b_left.
    apart a b (All-contains (Contains calls) doubtful.past.left a own.of_calls.left a_left)
    (All-contains (Contains calls) doubtful.past.left b own.of_calls.left b_left))

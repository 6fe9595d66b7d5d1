-- The moments of reads that were answered before a schedule came to its end.
use Rattle.art_schedules.proofs.Common.{ℕ, zero, suc, ◌≤◌, List, [], ◌∷◌, length, take, arith, Contents, Plan, State, opened_on, At, IsRun}
use Rattle.art_schedules.proofs.Common.{run-steps}
use Rattle.art_schedules.specs.moments.Reads.{RunsHaveMomentsOfScans, RunsHaveMomentsOfGets}
use Rattle.art_schedules.proofs.moments.MomentLemmas.{scan-has-moment, get-has-moment}

taken-few : (t : ℕ) (xs : List ℕ) → length (take t xs) ≤ length xs
taken-few zero xs = omega arith
taken-few (suc t) [] = omega arith
taken-few (suc t) (x ∷ xs) = omega (arith, taken-few t xs)

-- the first steps of a schedule are a run
earlier-run : (plan : Plan) (start : Contents) (first schedule : List ℕ) (s : State) → IsRun plan start first schedule s
    → (t : ℕ) (past : State)
    → At plan (opened_on plan first) schedule t past → IsRun plan start first (take t schedule) past
earlier-run plan start first schedule s run t past at =
    let all = run-steps plan schedule (opened_on plan first) s run.gives in
    let some = run-steps plan (take t schedule) (opened_on plan first) past at in
    let few = run.few_steps in
    record {
      within = run.within;
      start_within = run.start_within;
      starts = run.starts;
      gives = at;
      few_steps = omega (arith, all, some, few, taken-few t schedule);
    }

pub runs-have-scans : RunsHaveMomentsOfScans
runs-have-scans plan start words schedule s run v t past at p low high q reply =
    scan-has-moment plan start words (take t schedule) past p low high q reply (earlier-run plan start words schedule s run t past at) v

pub runs-have-gets : RunsHaveMomentsOfGets
runs-have-gets plan start words schedule s run v t past at p key q reply =
    get-has-moment plan start words (take t schedule) past p key q reply (earlier-run plan start words schedule s run t past at) v

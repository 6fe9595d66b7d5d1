-- An answered scan of the optimistic tree has its point at the one moment of its reads.
use Rattle.art_schedules.proofs.Common.{◌≡◌, ℕ, ◌+◌, ◌<◌, ◌≤◌, List, length, take, refl, ap, sym, subst, ◌∙◌, inl, inr, arith, min, slice_get}
use Rattle.art_schedules.proofs.alone.AloneLemmas.{runs-once}
use Rattle.art_schedules.proofs.Common.{cases_lt, length-append, same_Some, slice_get-below, Call, Scan, Reply, operations, Contents, Does}
use Rattle.art_schedules.proofs.Common.{reply_to, act, Plan, State, begun, history_of, known_reply, opened_on, At, IsIn, HasCalls}
use Rattle.art_schedules.proofs.Common.{FrontsHaveMoments, MomentsEndRuns, RunsHaveCalls, ScansAreTheMaps, calm_of, AnsweredScansHavePoints}
use Rattle.art_rows.proofs.TurnLemmas.{answers-of}
use Rattle.art_schedules.proofs.moments.MomentLemmas.{scan-has-moment}
use Rattle.art_schedules.proofs.calm.RunLemmas.{calm-at}
use Rattle.art_schedules.proofs.scan_points.CheckLemmas.{has-more}
use Rattle.art_schedules.proofs.scan_points.AloneLemmas.{moves, runs, unrefused}

-- at two moments a process is in the same call, where it is the last of as many that it has begun
one-call : (plan : Plan) (first : State) (schedule : List ℕ) (s : State) → HasCalls plan first schedule s
    → (t u p calls : ℕ) (now past : State) (call other : Call)
    → At plan first schedule t now → At plan first schedule u past → IsIn now p calls call → IsIn past p calls other → call ≡ other
one-call plan first schedule s h t u p calls now past call other at-t at-u here there =
    let (n, within, process, number) = h.all t now p calls call at-t here in
    let (a, is) = slice_get-below (operations (history_of s)) n within in
    let c = h.call_of n in
    let one : IsIn now c.process c.calls call =
    subst (λ i. IsIn now i c.calls call) (sym process) (subst (λ i. IsIn now p i call) (sym number) here) in
    let two : IsIn past c.process c.calls other =
    subst (λ i. IsIn past i c.calls other) (sym process) (subst (λ i. IsIn past p i other) (sym number) there) in
    ((h.each n a is).within t now call at-t one).1 ∙ sym ((h.each n a is).within u past other at-u two).1

-- the map's reply to a scan is legal, and leaves the map
does-scan : (m : Contents) (low high : ℕ) (reply : Reply) → reply ≡ reply_to m (Scan low high) → Does m (Scan low high) reply m
does-scan m low high reply is = subst (λ r. Does m (Scan low high) r m) (sym is) (inr refl, refl)

sooner : (t u : ℕ) → t ≤ u → (t ≡ u → ⊥) → t < u
sooner t u le apart = elim (cases_lt t u) [
  | inl less ↦ less
  | inr more ↦ absurd (apart (omega (arith, le, more)))
]

pub scan-point : FrontsHaveMoments → MomentsEndRuns → RunsHaveCalls → ScansAreTheMaps → AnsweredScansHavePoints
scan-point fronts ends calls maps plan start words schedule s run v u past at p low high q reply own is known =
    let first = opened_on plan words in
    let some = run.within.shape.root in
    let front = ends plan start words schedule s u past run at in
    let answers = answers-of (act plan.shape plan.variant (Scan low high) q.got) reply (sym (ap (known_reply plan q.got) is) ∙ known) in
    let unrefused-so = unrefused plan low high v some q.got reply answers in
    let h = scan-has-moment plan start words (take u schedule) past p low high q reply front v own is known unrefused-so in
    let at-now : At plan first schedule (min h.t u) h.now = (fronts plan first schedule h.t u h.now).0 h.at in
    let now-run = ends plan start words schedule s (min h.t u) h.now run at-now in
    let calm = calm_of plan words (take (min h.t u) schedule) in
    let is-calm = calm-at plan start words (take (min h.t u) schedule) h.now now-run (inr v) in
    let alone-so = moves plan low high v some h.now.words calm is-calm.free reply h.answers in
    let runs-so = runs plan low high v some calm reply alone-so in
    let here : IsIn h.now p (length (begun q)) h.within.call =
    record { process = h.within.process; own = h.within.own; count = h.within.in_call; is_open = h.within.is_open } in
    let there : IsIn past p (length (begun q)) (Scan low high) = record { process = q; own = own; count = refl; is_open = is } in
    let same : h.within.call ≡ Scan low high =
    one-call plan first schedule s (calls plan start words schedule s run) (min h.t u) u p (length (begun q)) h.now past
    h.within.call (Scan low high)
    at-now at here there in
    let more = has-more plan low high v some first (take u schedule) q.got p (length (begun q)) reply h answers in
    let earlier : min h.t u < u = sooner (min h.t u) u (omega arith) (λ last.
    let one : h.now ≡ past = same_Some h.now past (sym at-now ∙ subst (λ k. At plan first schedule k past) (sym last) at) in
    let process : h.within.process ≡ q = same_Some h.within.process q (sym h.within.own ∙ (ap (λ x. slice_get x.processes p) one ∙ own)) in
    omega (arith, more, h.within.count, ap (λ x. length x.got) process, ap (λ l. length l) h.all, length-append h.earlier h.attempt)) in
    record {
      t = min h.t u;
      before = earlier;
      now = h.now;
      at = at-now;
      is_in = subst (IsIn h.now p (length (begun q))) same here;
      got = length h.earlier + h.n;
      has_got = h.within;
      replies = λ n m few rest means.
          let is-map : reply ≡ reply_to m (Scan low high) =
          (runs-once runs-so (maps plan.shape plan.variant n calm m low high few rest means).runs).1 in
          (is-map, does-scan m low high reply is-map);
    }

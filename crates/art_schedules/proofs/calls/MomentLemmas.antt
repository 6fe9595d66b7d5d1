-- How a process goes on from moment to moment.
use Rattle.art_schedules.proofs.Common.{◌≡◌, ℕ, zero, suc, ◌+◌, ◌*◌, ◌<◌, ◌≤◌, cond, List, [], ◌∷◌, length, take, refl, sym, ap, ap₂, ◌∙◌, subst}
use Rattle.art_schedules.proofs.Common.{inl, inr, ⊎_elim, arith, slice_get, slice_index, is_some, length-append, cases_lt, same_Some, none-some}
use Rattle.art_schedules.proofs.Common.{slice_get_within, slice_get-below, Call, Event, Invoke, Answer, Reply, process_of, Turn, Asks, Answers}
use Rattle.art_schedules.proofs.Common.{act, Process, Plan, State, Move, Invokes, Responds, begun, step, move_of, move_from, next_call}
use Rattle.art_schedules.proofs.Common.{next_move, known_reply, opened_on, invocation, after_move, word_of_move, run_on, At, nowhere, is-moved}
use Rattle.art_schedules.proofs.Common.{changed-at, begun-more, IsIn}
use Rattle.std.proofs.Common.{Option, Some, None}
use Rattle.std.specs.Prelude.{◌⊎◌}
use Rattle.art_core.specs.Core.{Makes}
use Rattle.art_core.proofs.HistoryLemmas.{all-idle, step-lengths}

-- Step t leads to a state.
pub record StepAt (plan : Plan) (first : State) (schedule : List ℕ) (t : ℕ) (next : State) : Type 0 where
  pub before : State
  pub at : At plan first schedule t before
  pub turn : ℕ
  pub here : slice_get schedule t ≡ Some turn
  pub is : step plan before turn ≡ Some next

-- the moment before: the same state past the end of the schedule, or one that a step led from
pub moment-before : (plan : Plan) (first : State) (schedule : List ℕ) (t : ℕ) (next : State) → At plan first schedule (suc t) next
    → (At plan first schedule t next × (length schedule ≤ t)) ⊎ StepAt plan first schedule t next
moment-before plan first [] zero next h = inl (h, omega arith)
moment-before plan first [] (suc t) next h = inl (h, omega arith)
moment-before plan first (x ∷ schedule) zero next h =
    inr (record { before = first; at = refl; turn = x; here = refl; is = one (step plan first x) h })
  where
    one : (o : Option State) → run_on plan o [] ≡ Some next → o ≡ Some next
    one None k = absurd (none-some next k)
    one (Some s) k = k
moment-before plan first (x ∷ schedule) (suc t) next h = go (step plan first x) refl (λ s. moment-before plan s schedule t next) h
  where
    go : (o : Option State) → step plan first x ≡ o
        → ((s : State) → At plan s schedule (suc t) next → (At plan s schedule t next × (length schedule ≤ t))
        ⊎ StepAt plan s schedule t next)
        → run_on plan o (take (suc t) schedule) ≡ Some next
        → (At plan first (x ∷ schedule) (suc t) next × (length (x ∷ schedule) ≤ suc t)) ⊎ StepAt plan first (x ∷ schedule) (suc t) next
    go None e rest k = absurd (nowhere plan (take (suc t) schedule) next k)
    go (Some s) e rest k = ⊎_elim
        (λ over. let short = over.1 in inl (ap (λ o. run_on plan o (take t schedule)) e ∙ over.0, omega arith))
        (λ r. inr (record {
          before = r.before;
          at = ap (λ o. run_on plan o (take t schedule)) e ∙ r.at;
          turn = r.turn;
          here = r.here;
          is =
              r.is;
        })) (rest s k)

-- the move that logs an event
abbrev pub logging : Event → Move
logging (Invoke p call) = Invokes call
logging (Answer p reply) = Responds reply

-- Step t logs the event.
pub record LogsAt (plan : Plan) (first : State) (schedule : List ℕ) (t : ℕ) (e : Event) : Type 0 where
  pub turn : slice_get schedule t ≡ Some (process_of e)
  pub now : State
  pub at : At plan first schedule t now
  pub process : Process
  pub own : slice_get now.processes (process_of e) ≡ Some process
  pub next : next_move plan (process_of e) process ≡ Some (logging e)

-- a process that invokes has no open call, and this is its next one
pub invokes-next : (plan : Plan) (p : ℕ) (w : Process) (call : Call) → next_move plan p w ≡ Some (Invokes call)
    → (w.call ≡ None) × (next_call plan p w ≡ Some call)
invokes-next plan p w call h = go w.call refl h
  where
    calls : (o : Option Call) → next_call plan p w ≡ o → invocation o ≡ Some (Invokes call) → next_call plan p w ≡ Some call
    calls None e k = absurd (none-some (Invokes call) k)
    calls (Some other) e k = let same : other ≡ call = cc in e ∙ ap Some same

    turns : (t : Turn) → ◌≡◌ {A = Option Move} (Some (move_of t)) (Some (Invokes call)) → ⊥
    turns (Asks a point) k = cc
    turns (Answers reply) k = cc

    go : (o : Option Call) → w.call ≡ o → move_from plan p w o ≡ Some (Invokes call) → (w.call ≡ None) × (next_call plan p w ≡ Some call)
    go None e k = (e, calls (next_call plan p w) refl k)
    go (Some other) e k = absurd (turns (act plan.shape plan.variant other w.got) k)

-- a process that responds has an open call, whose reply is known
pub responds-next : (plan : Plan) (p : ℕ) (w : Process) (reply : Reply) → next_move plan p w ≡ Some (Responds reply)
    → (call : Call) × (w.call ≡ Some call) × (known_reply plan w.got (Some call) ≡ Some reply)
responds-next plan p w reply h = go w.call refl h
  where
    calls : (o : Option Call) → invocation o ≡ Some (Responds reply) → ⊥
    calls None k = none-some (Responds reply) k
    calls (Some other) k = cc

    turns : (call : Call) (t : Turn) → act plan.shape plan.variant call w.got ≡ t
        → ◌≡◌ {A = Option Move} (Some (move_of t)) (Some (Responds reply))
        → known_reply plan w.got (Some call) ≡ Some reply
    turns call (Asks a point) e k = absurd (cc k)
    turns call (Answers other) e k = let same : other ≡ reply = cc in rw e (ap Some same)

    go : (o : Option Call) → w.call ≡ o → move_from plan p w o ≡ Some (Responds reply)
        → (call : Call) × (w.call ≡ Some call) × (known_reply plan w.got (Some call) ≡ Some reply)
    go None e k = absurd (calls (next_call plan p w) k)
    go (Some call) e k = (call, e, turns call (act plan.shape plan.variant call w.got) refl k)

-- How process p goes on in a step of process r, from w to q.
pub data Goes (plan : Plan) (r p : ℕ) (w q : Process) : Type 0 where
  Stays : q.call ≡ w.call → length (begun q) ≡ length (begun w) → Goes plan r p w q
  Begins : (call : Call) → r ≡ p → next_move plan p w ≡ Some (Invokes call) → q.call ≡ Some call → length (begun q) ≡ length (begun w) + 1
      → Goes plan r p w q
  Ends : (reply : Reply) → r ≡ p → next_move plan p w ≡ Some (Responds reply) → q.call ≡ None → length (begun q) ≡ length (begun w)
      → Goes plan r p w q

moves-on : (plan : Plan) (p n : ℕ) (w : Process) (m : Move) → next_move plan p w ≡ Some m → Goes plan p p w (after_move p m n w)
moves-on plan p n w (Invokes call) h =
    Begins call refl h refl (ap (λ l. length l) (begun-more w (n, Invoke p call)) ∙ length-append (begun w) (call ∷ []))
moves-on plan p n w (Makes a) h = Stays refl refl
moves-on plan p n w (Responds reply) h =
    Ends reply refl h refl (ap (λ l. length l) (begun-more w (n, Answer p reply)) ∙ (length-append (begun w) [] ∙ omega arith))

pub record Went (plan : Plan) (s : State) (r p : ℕ) (q : Process) : Type 0 where
  pub process : Process
  pub own : slice_get s.processes p ≡ Some process
  pub goes : Goes plan r p process q

pub went : (plan : Plan) (s next : State) (r p : ℕ) (q : Process) → step plan s r ≡ Some next → slice_get next.processes p ≡ Some q
    → Went plan s r p q
went plan s next r p q e own =
    let m = is-moved plan s r next e in
    let n = slice_index s.words (word_of_move m.move) in
    ⊎_elim
    (λ t. record {
      process = m.process;
      own = subst (λ i. slice_get s.processes i ≡ Some m.process) (sym t.0) m.here;
      goes = subst (λ (i : ℕ). Goes plan r i m.process q) (sym t.0)
          (subst (λ (x : Process). Goes plan r r m.process x) (sym t.1) (moves-on plan r n m.process m.move m.is_next));
    })
    (λ t. record { process = q; own = t.1; goes = Stays refl refl })
    (changed-at s.processes r (after_move r m.move n m.process) p q (subst (λ t. slice_get t.processes p ≡ Some q) m.is own))

-- where a process is: in its last call, or after it
abbrev stage_of : Option Call → ℕ → ℕ
stage_of call calls = 2 * calls + cond (is_some call) 0 1

abbrev pub stage : Process → ℕ
stage q = stage_of q.call (length (begun q))

pub stage-open : (q : Process) (call : Call) → q.call ≡ Some call → stage q ≡ 2 * length (begun q)
stage-open q call e = rw e (omega arith)

pub stage-idle : (q : Process) → q.call ≡ None → stage q ≡ 2 * length (begun q) + 1
stage-idle q e = rw e refl

pub goes-up : (plan : Plan) (r p : ℕ) (w q : Process) → Goes plan r p w q → stage w ≤ stage q
goes-up plan r p w q (Stays call count) = let e : stage q ≡ stage w = ap₂ stage_of call count in omega arith
goes-up plan r p w q (Begins call same next now count) =
    let e = stage-open q call now in
    let f = stage-idle w (invokes-next plan p w call next).0 in
    omega arith
goes-up plan r p w q (Ends reply same next now count) =
    let e = stage-idle q now in
    let (call, is, known) = responds-next plan p w reply next in
    let f = stage-open w call is in
    omega arith

module _ (plan : Plan) (first : State) (schedule : List ℕ) (p : ℕ) where
  -- a moment has one state, and a state one process of each number
  pub same-process : (t : ℕ) (now then : State) (w q : Process) → At plan first schedule t now → At plan first schedule t then
      → slice_get now.processes p ≡ Some w → slice_get then.processes p ≡ Some q → w ≡ q
  same-process t now then w q at later own own2 =
      let e = same_Some now then (sym at ∙ later) in
      same_Some w q (sym own ∙ (ap (λ s. slice_get s.processes p) e ∙ own2))

  -- a process never goes back
  pub stage-rises : (t u : ℕ) (now then : State) (w q : Process) → t ≤ u → At plan first schedule t now → At plan first schedule u then
      → slice_get now.processes p ≡ Some w → slice_get then.processes p ≡ Some q → stage w ≤ stage q
  stage-rises t zero now then w q le at later own own2 =
      let same : t ≡ 0 = omega arith in
      let e = ap stage (same-process 0 now then w q (subst (λ i. At plan first schedule i now) same at) later own own2) in
      omega arith
  stage-rises t (suc u) now then w q le at later own own2 = ⊎_elim
      (λ less. ⊎_elim
      (λ over. stage-rises t u now then w q (omega arith) at over.0 own own2)
      (λ r. let b = went plan r.before then r.turn p q r.is own2 in
      let low = stage-rises t u now r.before w b.process (omega arith) at r.at own b.own in
      let high = goes-up plan r.turn p b.process q b.goes in
      omega arith) (moment-before plan first schedule u then later))
      (λ more. let same : t ≡ suc u = omega arith in
      let e = ap stage (same-process (suc u) now then w q (subst (λ i. At plan first schedule i now) same at) later own own2) in
      omega arith) (cases_lt t (suc u))

  -- a call that is open goes on until its process responds
  pub goes-on : (t begun_at calls : ℕ) (call : Call) (now : State) → begun_at < t → At plan first schedule t now
      → ((next : State) → At plan first schedule (suc begun_at) next → IsIn next p calls call)
      → ((u : ℕ) (reply : Reply) → begun_at < u → u < t → LogsAt plan first schedule u (Answer p reply) → ⊥) → IsIn now p calls call
  goes-on zero begun_at calls call now less at begins silent = absurd (omega arith)
  goes-on (suc t) begun_at calls call now less at begins silent = ⊎_elim
      (λ later. ⊎_elim
      (λ over. goes-on t begun_at calls call now later over.0 begins (λ u reply low high. silent u reply low (omega arith)))
      (λ r. one-more r (goes-on t begun_at calls call r.before later r.at begins (λ u reply low high. silent u reply low
      (omega arith))) later)
      (moment-before plan first schedule t now at))
      (λ same. let e : t ≡ begun_at = omega arith in begins now (subst (λ i. At plan first schedule (suc i) now) e at))
      (cases_lt begun_at t)
    where
      one-more : (r : StepAt plan first schedule t now) → IsIn r.before p calls call → begun_at < t → IsIn now p calls call
      one-more r is later =
          let many = slice_get_within r.before.processes p is.process is.own in
          let sizes = step-lengths plan r.before r.turn now r.is in
          let (q, own) = slice_get-below now.processes p (omega (arith, sizes.1)) in
          let b = went plan r.before now r.turn p q r.is own in
          let same = same_Some is.process b.process (sym is.own ∙ b.own) in
          ends r is later q own (subst (λ w. Goes plan r.turn p w q) (sym same) b.goes)
        where
          ends : (r : StepAt plan first schedule t now) (is : IsIn r.before p calls call) → begun_at < t → (q : Process)
              → slice_get now.processes p ≡ Some q
              → Goes plan r.turn p is.process q → IsIn now p calls call
          ends r is later q own (Stays same count) =
              record { process = q; own = own; count = count ∙ is.count; is_open = same ∙ is.is_open }
          ends r is later q own (Begins other turn next open_now count) =
              absurd (none-some call (sym (invokes-next plan p is.process other next).0 ∙ is.is_open))
          ends r is later q own (Ends reply turn next idle count) = absurd (silent t reply later (omega arith) (record {
            turn = r.here ∙ ap Some turn;
            now = r.before;
            at = r.at;
            process = is.process;
            own = is.own;
            next = next;
          }))

-- there is a state at each earlier moment
pub earlier-moment : (plan : Plan) (first : State) (schedule : List ℕ) (t u : ℕ) (now : State) → u ≤ t → At plan first schedule t now
    → (then : State) × At plan first schedule u then
earlier-moment plan first schedule zero u now le at =
    (now, let same : u ≡ 0 = omega arith in subst (λ i. At plan first schedule i now) (sym same) at)
earlier-moment plan first schedule (suc t) u now le at = ⊎_elim
    (λ less. ⊎_elim (λ over. earlier-moment plan first schedule t u now (omega arith) over.0)
    (λ r. earlier-moment plan first schedule t u r.before (omega arith) r.at) (moment-before plan first schedule t now at))
    (λ more. (now, let same : u ≡ suc t = omega arith in subst (λ i. At plan first schedule i now) (sym same) at)) (cases_lt u (suc t))

-- the process that a step is made by, after it
pub record Moved (plan : Plan) (next : State) (p : ℕ) (w : Process) (m : Move) : Type 0 where
  pub word : ℕ
  pub own : slice_get next.processes p ≡ Some (after_move p m word w)

pub moved-now : (plan : Plan) (before next : State) (p : ℕ) (w : Process) (m : Move) → step plan before p ≡ Some next
    → slice_get before.processes p ≡ Some w
    → next_move plan p w ≡ Some m → Moved plan next p w m
moved-now plan before next p w m is own is_next =
    let r = is-moved plan before p next is in
    let same = same_Some r.process w (sym r.here ∙ own) in
    let move : r.move ≡ m = same_Some r.move m (sym r.is_next ∙ (ap (next_move plan p) same ∙ is_next)) in
    let n = slice_index before.words (word_of_move r.move) in
    let within = slice_get_within before.processes p w own in
    let sizes = step-lengths plan before p next is in
    let (q, here) = slice_get-below next.processes p (omega (arith, sizes.1)) in
    let after = after_move p r.move n r.process in
    let known = ⊎_elim (λ t. t.1) (λ t. absurd (t.0 refl))
    (changed-at before.processes p after p q (subst (λ t. slice_get t.processes p ≡ Some q) r.is here)) in
    record { word = n; own = here ∙ ap Some (known ∙ ap₂ (λ (x : Move) (y : Process). after_move p x n y) move same) }

-- after an invocation the process is in the call, and after a response in none
pub in-call : (plan : Plan) (next : State) (p : ℕ) (w : Process) (call : Call) → Moved plan next p w (Invokes call)
    → IsIn next p (length (begun w) + 1) call
in-call plan next p w call m = record {
  process = after_move p (Invokes call) m.word w;
  own = m.own;
  count = ap (λ l. length l) (begun-more w (m.word, Invoke p call)) ∙ length-append (begun w) (call ∷ []);
  is_open = refl;
}

-- after a response its last call is over
pub stage-after : (plan : Plan) (next : State) (p : ℕ) (w : Process) (reply : Reply) (m : Moved plan next p w (Responds reply))
    → stage (after_move p (Responds reply) m.word w) ≡ 2 * length (begun w) + 1
stage-after plan next p w reply m =
    let same : length (begun (after_move p (Responds reply) m.word w)) ≡ length (begun w) =
    ap (λ l. length l) (begun-more w (m.word, Answer p reply)) ∙ (length-append (begun w) [] ∙ omega arith) in
    omega arith

-- a process that is in a call has begun it at a step before
pub begun-before : (plan : Plan) (words schedule : List ℕ) (t : ℕ) (now : State) (p calls : ℕ) (call : Call)
    → At plan (opened_on plan words) schedule t now
    → IsIn now p calls call → (u : ℕ) × (l : LogsAt plan (opened_on plan words) schedule u (Invoke p call))
    × (length (begun l.process) + 1 ≡ calls)
begun-before plan words schedule zero now p calls call at is =
    let first = same_Some (opened_on plan words) now at in
    let idle = all-idle (length plan.scripts) p is.process (ap (λ s. slice_get s.processes p) first ∙ is.own) in
    absurd (none-some call (sym (ap (λ q. q.call) idle) ∙ is.is_open))
begun-before plan words schedule (suc t) now p calls call at is = ⊎_elim
    (λ over. begun-before plan words schedule t now p calls call over.0 is)
    (λ r.
    let b = went plan r.before now r.turn p is.process r.is is.own in
    by_step r b.process b.own b.goes (begun-before plan words schedule t r.before p calls call r.at))
    (moment-before plan (opened_on plan words) schedule t now at)
  where
    by_step : (r : StepAt plan (opened_on plan words) schedule t now) (w : Process) → slice_get r.before.processes p ≡ Some w
        → Goes plan r.turn p w is.process
        → (IsIn r.before p calls call
        → (u : ℕ) × (l : LogsAt plan (opened_on plan words) schedule u (Invoke p call)) × (length (begun l.process) + 1 ≡ calls))
        → (u : ℕ) × (l : LogsAt plan (opened_on plan words) schedule u (Invoke p call)) × (length (begun l.process) + 1 ≡ calls)
    by_step r w own (Stays same count) rest = rest (record {
      process = w;
      own = own;
      count = sym count ∙ is.count;
      is_open = sym
          same ∙ is.is_open;
    })
    by_step r w own (Begins other turn next open_now count) rest =
        let same : other ≡ call = same_Some other call (sym open_now ∙ is.is_open) in (
          t,
          record {
            turn = r.here ∙ ap Some turn;
            now = r.before;
            at = r.at;
            process = w;
            own = own;
            next = next ∙ ap (λ c. Some (Invokes c)) same;
          },
          sym count ∙ is.count,
        )
    by_step r w own (Ends reply turn next idle count) rest = absurd (none-some call (sym idle ∙ is.is_open))

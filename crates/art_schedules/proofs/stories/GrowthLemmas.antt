-- A story of a run, one step more.
use Rattle.art_schedules.proofs.Common.{◌≡◌, ◌≢◌, ℕ, ◌+◌, ◌<◌, ◌≤◌, Bool, true, false, cond, List, [], ◌∷◌, ◌++◌, length, take, refl, sym, ap}
use Rattle.art_schedules.proofs.Common.{◌∙◌, subst, inl, inr, ⊎_elim, arith, slice_get, nat_lt, false≢true, cases_lt, le-ltb, lt-ltb}
use Rattle.art_schedules.proofs.Common.{take-append-le, length-append, same_Some, slice_get_within, take-length, Call, Reply, Contents, Does}
use Rattle.art_schedules.proofs.Common.{Process, Plan, State, begun, known_reply, Gives, At, run_on, IsIn, EndsAt, IsInCallAt, IsOpen, Status}
use Rattle.art_schedules.proofs.Common.{Before, Found, Changed, HasNotChanged, HasReply, Trace, IsInCall, HasKept, HasStatus, IsStory, IsOwnStep}
use Rattle.art_schedules.proofs.Common.{Next, Stays, Forgets, FindsNow, FindsAt}
use Rattle.std.proofs.Common.{Some, None}
use Rattle.std.specs.Prelude.{◌⊎◌}
use Rattle.events.proofs.Lists.{slice_get-append_left, slice_get-middle}
use Rattle.events.specs.declared.event.Reply.TheVariants as replies
use Rattle.art_schedules.proofs.calls.MomentLemmas.{stage-rises, stage-open, stage-idle}

-- The later tale is the same up to moment n, and says this of step n and of the pairs after it.
pub record Continues (n : ℕ) (tale later : Trace) (change : Bool) (next : Contents) : Type 0 where
  pub pairs : (u : ℕ) → u ≤ n → later.pairs u ≡ tale.pairs u
  pub changes : (u : ℕ) → u < n → later.changes u ≡ tale.changes u
  pub here : later.changes n ≡ change
  pub behind : later.pairs (n + 1) ≡ next

abbrev pub continued : ℕ → Trace → Bool → Contents → Trace
continued n tale change next = record {
  pairs = λ u. cond (nat_lt n u) next (tale.pairs u);
  changes = λ u. cond (nat_lt u n)
      (tale.changes u) change;
}

pub continues : (n : ℕ) (tale : Trace) (change : Bool) (next : Contents) → Continues n tale (continued n tale change next) change next
continues n tale change next = record {
  pairs = λ u le. ap (λ b. cond b next (tale.pairs u)) (le-ltb n u le);
  changes = λ u less. ap (λ b. cond b (tale.changes u) change) (lt-ltb u n less);
  here = ap (λ b. cond b (tale.changes n) change) (le-ltb n n (omega arith));
  behind = ap (λ b. cond b next (tale.pairs (n + 1))) (lt-ltb n (n + 1) (omega arith));
}

module _ (plan : Plan) (start : Contents) (first : State) (schedule : List ℕ) (p : ℕ) where
  abbrev longer : List ℕ
  longer = schedule ++ p ∷ []

  abbrev n : ℕ
  n = length schedule

  -- moments of the schedule are moments of the longer one

  front-at : (u : ℕ) (now : State) → u ≤ n → At plan first longer u now → At plan first schedule u now
  front-at u now le at = subst (λ l. run_on plan (Some first) l ≡ Some now) (take-append-le u schedule (p ∷ []) le) at

  back-at : (u : ℕ) (now : State) → u ≤ n → At plan first schedule u now → At plan first longer u now
  back-at u now le at = subst (λ l. run_on plan (Some first) l ≡ Some now) (sym (take-append-le u schedule (p ∷ []) le)) at

  front-in : (u r calls : ℕ) (call : Call) → u ≤ n → IsInCall plan first longer u r calls call → IsInCall plan first schedule u r calls call
  front-in u r calls call le i = record { now = i.now; at = front-at u i.now le i.at; is_in = i.is_in }

  back-in : (u r calls : ℕ) (call : Call) → u ≤ n → IsInCall plan first schedule u r calls call → IsInCall plan first longer u r calls call
  back-in u r calls call le i = record { now = i.now; at = back-at u i.now le i.at; is_in = i.is_in }

  turn-front : (u : ℕ) → u < n → slice_get longer u ≡ slice_get schedule u
  turn-front u less = slice_get-append_left schedule (p ∷ []) u less

  turn-last : slice_get longer n ≡ Some p
  turn-last = slice_get-middle schedule p []

  own-front : (u r calls : ℕ) (call : Call) → u < n → IsOwnStep plan first longer r calls call u
      → IsOwnStep plan first schedule r calls call u
  own-front u r calls call less own = (sym (turn-front u less) ∙ own.0, front-in u r calls call (omega arith) own.1)

  own-back : (u r calls : ℕ) (call : Call) → u < n → IsOwnStep plan first schedule r calls call u
      → IsOwnStep plan first longer r calls call u
  own-back u r calls call less own = (turn-front u less ∙ own.0, back-in u r calls call (omega arith) own.1)

  module _ (s : State) (gives : Gives plan first schedule s) where
    at-last : At plan first schedule n s
    at-last = subst (λ l. run_on plan (Some first) l ≡ Some s) (sym (take-length schedule)) gives

    pub in-now : (r : ℕ) (call : Call) (w : Process) → IsOpen s r call w → IsInCall plan first schedule n r (length (begun w)) call
    in-now r call w o = record { now = s; at = at-last; is_in = record { process = w; own = o.own; count = refl; is_open = o.is_open } }

  pub kept-so-far : (tale : Trace) (t r calls : ℕ) (call : Call) (status : Status) → HasNotChanged status
      → HasStatus plan first schedule tale t r calls call status → HasKept plan first schedule tale t r calls call
  kept-so-far tale t r calls call Before not h = h
  kept-so-far tale t r calls call (Found reply) not h = h.kept
  kept-so-far tale t r calls call (Changed reply) not h = absurd not

  -- a status that goes on where the pairs stay
  pub status-goes : (tale : Trace) (calls : ℕ) (call : Call) (status next : Status) → Next plan first schedule tale p calls call status next
      → IsInCall plan first schedule n p calls call
      → HasStatus plan first schedule tale n p calls call status → HasStatus plan first schedule tale n p calls call next
  status-goes tale calls call status next (Stays e) in-it h = subst (HasStatus plan first schedule tale n p calls call) (sym e) h
  status-goes tale calls call status next (Forgets not e) in-it h =
      subst (HasStatus plan first schedule tale n p calls call) (sym e) (kept-so-far tale n p calls call status not h)
  status-goes tale calls call status next (FindsNow reply not e does) in-it h =
      subst (HasStatus plan first schedule tale n p calls call) (sym e)
      (record { kept = kept-so-far tale n p calls call status not h; moment = n; until = omega arith; within = in-it; finds = does })
  status-goes tale calls call status next (FindsAt reply u not e le within does) in-it h =
      subst (HasStatus plan first schedule tale n p calls call) (sym e)
      (record { kept = kept-so-far tale n p calls call status not h; moment = u; until = le; within = within; finds = does })

  module _ (tale later : Trace) (change : Bool) (next : Contents) (c : Continues n tale later change next) where
    kept-more : (t r calls : ℕ) (call : Call) → t ≤ n → HasKept plan first schedule tale t r calls call
        → HasKept plan first longer later t r calls call
    kept-more t r calls call le kept u less own = c.changes u (omega arith) ∙ kept u less (own-front u r calls call (omega arith) own)

    -- what held at a moment of the schedule holds at it in the longer one
    pub status-more : (t r calls : ℕ) (call : Call) (status : Status) → t ≤ n → HasStatus plan first schedule tale t r calls call status
        → HasStatus plan first longer later t r calls call status
    status-more t r calls call Before le h = kept-more t r calls call le h
    status-more t r calls call (Found reply) le h = record {
      kept = kept-more t r calls call le h.kept;
      moment = h.moment;
      until = h.until;
      within = back-in h.moment r calls call (omega (arith, h.until)) h.within;
      finds = subst (λ m. Does m call reply m) (sym (c.pairs h.moment (omega (arith, h.until)))) h.finds;
    }
    status-more t r calls call (Changed reply) le h = record {
      step = h.step;
      until = h.until;
      own = own-back h.step r calls call (omega (arith, h.until)) h.own;
      change = c.changes h.step (omega (arith, h.until)) ∙ h.change;
      does = subst (λ m. Does m call reply (later.pairs (h.step + 1))) (sym (c.pairs h.step (omega (arith, h.until))))
          (subst (λ m. Does (tale.pairs h.step) call reply m) (sym (c.pairs (h.step + 1) (omega (arith, h.until)))) h.does);
      accepted = h.accepted;
      only = λ u less own change. h.only u less (own-front u r calls call (omega arith) own) (sym (c.changes u (omega arith)) ∙ change);
    }

    -- the process that makes step n as one of a call is p
    its-turn : (r calls : ℕ) (call : Call) → IsOwnStep plan first longer r calls call n → r ≡ p
    its-turn r calls call own = same_Some r p (sym own.0 ∙ turn-last)

    -- a step that is not the call's, or keeps the pairs, leaves its status
    pub status-next : (r calls : ℕ) (call : Call) (status : Status) → (r ≡ p → change ≡ false)
        → HasStatus plan first schedule tale n r calls call status
        → HasStatus plan first longer later (n + 1) r calls call status
    status-next r calls call status none h = go status (status-more n r calls call status (omega arith) h)
      where
        last : (u : ℕ) → u < n + 1 → IsOwnStep plan first longer r calls call u → (u < n) ⊎ (later.changes u ≡ false)
        last u less own = ⊎_elim (λ l. inl l)
            (λ more.
            let e : u ≡ n = omega arith in
            let is = its-turn r calls call (subst (IsOwnStep plan first longer r calls call) e own) in
            inr (ap later.changes e ∙ (c.here ∙ none is)))
            (cases_lt u n)

        kept : HasKept plan first longer later n r calls call → HasKept plan first longer later (n + 1) r calls call
        kept k u less own = ⊎_elim (λ l. k u l own) (λ e. e) (last u less own)

        go : (status : Status) → HasStatus plan first longer later n r calls call status
            → HasStatus plan first longer later (n + 1) r calls call status
        go Before k = kept k
        go (Found reply) k = record {
          kept = kept k.kept;
          moment = k.moment;
          until = omega (arith, k.until);
          within =
              k.within;
          finds = k.finds;
        }
        go (Changed reply) k = record {
          step = k.step;
          until = omega (arith, k.until);
          own = k.own;
          change = k.change;
          does = k.does;
          accepted = k.accepted;
          only = λ u less own change. ⊎_elim (λ l. k.only u l own change) (λ e. absurd (false≢true (sym e ∙ change))) (last u less own);
        }

    -- the step of a call that changes the pairs
    pub status-changed : (calls : ℕ) (call : Call) (reply : Reply) → change ≡ true → HasKept plan first schedule tale n p calls call
        → IsInCall plan first schedule n p calls call → Does (tale.pairs n) call reply next → reply ≢ replies.Refused
        → HasStatus plan first longer later (n + 1) p calls call (Changed reply)
    status-changed calls call reply changes kept in-it does accepted = record {
      step = n;
      until = omega arith;
      own = (turn-last, back-in n p calls call (omega arith) in-it);
      change = c.here ∙ changes;
      does = subst (λ m. Does m call reply (later.pairs (n + 1))) (sym (c.pairs n (omega arith)))
          (subst (λ m. Does (tale.pairs n) call reply m) (sym c.behind) does);
      accepted = accepted;
      only = λ u less own change. ⊎_elim
          (λ l. absurd (false≢true (sym (kept-more n p calls call (omega arith) kept u l own) ∙ change)))
          (λ more. omega arith) (cases_lt u n);
    }

    module _ (s t : State) (gives : Gives plan first schedule s) (gives-next : Gives plan first longer t) where
      -- a call that begins in the step has made none before
      pub status-begun : (calls : ℕ) (call : Call) (w : Process) → slice_get s.processes p ≡ Some w → w.call ≡ None
          → calls ≡ length (begun w) + 1
          → HasStatus plan first longer later (n + 1) p calls call Before
      status-begun calls call w own idle count u less its =
          let i = front-in u p calls call (omega arith) its.1 in
          let rises = stage-rises plan first schedule p u n i.now s i.is_in.process w (omega arith) i.at (at-last s gives)
          i.is_in.own own in
          let opens = stage-open i.is_in.process call i.is_in.is_open in
          let rests = stage-idle w idle in
          absurd (omega (arith, rises, opens, rests, i.is_in.count, count))

      all-of : take (n + 1) longer ≡ longer
      all-of = subst (λ k. take k longer ≡ longer) (length-append schedule (p ∷ [])) (take-length longer)

      at-next : (now : State) → At plan first longer (n + 1) now → now ≡ t
      at-next now at = same_Some now t (sym (subst (λ l. run_on plan (Some first) l ≡ Some now) all-of at) ∙ gives-next)

      -- The story goes on, where it does so at the last moment and in the last step.
      pub story-more : IsStory plan start first schedule tale → (change ≡ false → next ≡ tale.pairs n)
          → (change ≡ true → IsInCallAt plan first schedule n p)
          → ((r : ℕ) (call : Call) (w : Process) → IsOpen t r call w
          → (status : Status) × HasStatus plan first longer later (n + 1) r (length (begun w)) call status)
          → ((call : Call) (w : Process) (reply : Reply) → IsOpen s p call w → known_reply plan w.got (Some call) ≡ Some reply
          → (change ≡ false) × (status : Status) × HasStatus plan first schedule tale n p (length (begun w)) call status
          × HasReply status reply)
          → IsStory plan start first longer later
      story-more story stays in-call last-statuses last-answers = record {
        begins = c.pairs 0 (omega arith) ∙ story.begins;
        stay = stay;
        in_call = in-calls;
        statuses = statuses;
        answers = answers;
      }
        where
          many : length longer ≡ n + 1
          many = length-append schedule (p ∷ [])

          stay : (u : ℕ) → u < length longer → later.changes u ≡ false → later.pairs (u + 1) ≡ later.pairs u
          stay u less none = ⊎_elim
              (λ l. c.pairs (u + 1) (omega arith) ∙ (story.stay u l (sym (c.changes u l) ∙ none) ∙ sym (c.pairs u (omega arith))))
              (λ more.
              let e : u ≡ n = omega (arith, many) in
              ap (λ i. later.pairs (i + 1)) e
              ∙ (c.behind ∙ (stays (sym c.here ∙ (ap later.changes (sym e) ∙ none))
              ∙ (sym (c.pairs n (omega arith)) ∙ ap later.pairs (sym e)))))
              (cases_lt u n)

          in-calls : (u r : ℕ) → slice_get longer u ≡ Some r → later.changes u ≡ true → IsInCallAt plan first longer u r
          in-calls u r turn change = ⊎_elim
              (λ l.
              let (now, calls, call, at, is) = story.in_call u r (sym (turn-front u l) ∙ turn) (sym (c.changes u l) ∙ change) in
              (now, calls, call, back-at u now (omega arith) at, is))
              (λ more.
              let less = slice_get_within longer u r turn in
              let e : u ≡ n = omega (arith, many) in
              let is-p : r ≡ p = same_Some r p (sym turn ∙ (ap (slice_get longer) e ∙ turn-last)) in
              let (now, calls, call, at, is) = in-call (sym c.here ∙ (ap later.changes (sym e) ∙ change)) in
              let at-u = subst (λ i. At plan first longer i now) (sym e) (back-at n now (omega arith) at) in
              (now, calls, call, at-u, subst (λ i. IsIn now i calls call) (sym is-p) is))
              (cases_lt u n)

          statuses : (u r calls : ℕ) (call : Call) → u ≤ length longer → IsInCall plan first longer u r calls call
              → (status : Status) × HasStatus plan first longer later u r calls call status
          statuses u r calls call le i = ⊎_elim
              (λ l.
              let (status, h) = story.statuses u r calls call (omega arith) (front-in u r calls call (omega arith) i) in
              (status, status-more u r calls call status (omega arith) h))
              (λ more.
              let e : u ≡ n + 1 = omega (arith, many) in
              let is-t = at-next i.now (subst (λ j. At plan first longer j i.now) e i.at) in
              let opens : IsOpen t r call i.is_in.process =
              record { own = subst (λ x. slice_get x.processes r ≡ Some i.is_in.process) is-t i.is_in.own; is_open = i.is_in.is_open } in
              let (status, h) = last-statuses r call i.is_in.process opens in (
                status,
                subst (λ j. HasStatus plan first longer later j r calls call status) (sym e)
                    (subst (λ j. HasStatus plan first longer later (n + 1) r j call status) i.is_in.count h),
              ))
              (cases_lt u (n + 1))

          answers : (u r calls : ℕ) (call : Call) (reply : Reply) → EndsAt plan first longer u r calls call reply
              → (later.changes u ≡ false) × (status : Status) × HasStatus plan first longer later u r calls call status
              × HasReply status reply
          answers u r calls call reply ends = ⊎_elim
              (λ l.
              let (none, status, h, same) = story.answers u r calls call reply (record {
                turn = sym (turn-front u l) ∙ ends.turn;
                before = ends.before;
                at = front-at u ends.before (omega arith) ends.at;
                is_in = ends.is_in;
                known = ends.known;
              }) in
              (c.changes u l ∙ none, status, status-more u r calls call status (omega arith) h, same))
              (λ more.
              let less = slice_get_within longer u r ends.turn in
              let e : u ≡ n = omega (arith, many) in
              let is-p : r ≡ p = same_Some r p (sym ends.turn ∙ (ap (slice_get longer) e ∙ turn-last)) in
              let at-n = front-at n ends.before (omega arith) (subst (λ j. At plan first longer j ends.before) e ends.at) in
              let is-s = same_Some ends.before s (sym at-n ∙ at-last s gives) in
              let w = ends.is_in.process in
              let opens : IsOpen s p call w =
              record {
                own = subst (λ i. slice_get s.processes i ≡ Some w) is-p
                    (subst (λ x. slice_get x.processes r ≡ Some w) is-s ends.is_in.own);
                is_open = ends.is_in.is_open;
              } in
              let (none, status, h, same) = last-answers call w reply opens ends.known in (
                ap later.changes e ∙ (c.here ∙ none),
                status,
                subst (λ j. HasStatus plan first longer later j r calls call status) (sym e)
                    (subst (λ i. HasStatus plan first longer later n i calls call status) (sym is-p)
                    (subst (λ j. HasStatus plan first longer later n p j call status) ends.is_in.count
                    (status-more n p (length (begun w)) call status (omega arith) h))),
                same,
              ))
              (cases_lt u n)

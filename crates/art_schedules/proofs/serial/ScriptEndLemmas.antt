-- A script of one process, each call of which may run alone, comes to its end.
use Rattle.art_schedules.proofs.Common.{◌≡◌, ℕ, ◌+◌, ◌*◌, ◌<◌, ◌≤◌, List, [], ◌∷◌, ◌++◌, length, arith, refl, sym, ap, subst, ◌∙◌}
use Rattle.std.proofs.Common.{IsTrue}
use Rattle.art_schedules.proofs.Common.{append_assoc, Option, All, slice_get, slice_set, append-nil, length-append, All-head, All-tail, none-some}
use Rattle.art_schedules.proofs.Common.{same_Some, Call, Reply, Invoke, Answer, call_limit, Contents, after_reply, Shape, Variant, Rest, Answers}
use Rattle.art_schedules.proofs.Common.{act, word_of, is_tree_call, Process, got_by, Plan, State, Move, Invokes, Responds, begun}
use Rattle.art_schedules.proofs.Common.{word_of_move, after_move, move_of, moved_by, move_from, next_move, step, invocation, run_on, begun-more}
use Rattle.art_schedules.proofs.Common.{nowhere, is-moved, RunsAlone, ends, goes, accesses, ticked, sole_plan}
use Rattle.std.specs.Prelude.{Some, None, slice_index}
use Rattle.std.proofs.lemmas.Option.{slice_get_within}
use Rattle.art_core.specs.Core.{new_word, Makes}
use Rattle.art_core.proofs.RunLemmas.{run-on-append}
use Rattle.art_core.proofs.HistoryLemmas.{step-lengths}
use Rattle.art_schedules.proofs.serial.KeptLemmas.{Said, IsKept}

-- If this is said, the call, run alone, makes at most 1,000 accesses.
abbrev pub IsBrief : Shape → Variant → Said → Call → Type 0
IsBrief shape variant claim call = (n : ℕ) (words : List ℕ) (m : Contents) → n < call_limit → claim n words m
    → (last : List ℕ) (reply : Reply)
    (r : RunsAlone (act shape variant call) words last reply) → accesses r ≤ 1000

call-at : (before later : List Call) (call : Call) → slice_get (before ++ call ∷ later) (length before) ≡ Some call
call-at [] later call = refl
call-at (c ∷ before) later call = call-at before later call

none-behind : (calls : List Call) → slice_get calls (length calls) ≡ None
none-behind [] = refl
none-behind (c ∷ calls) = none-behind calls

-- One process: no schedule is longer than one that comes to the end.

module _ (plan : Plan) where
  own-step : (s : State) (p : ℕ) (next : State) → length s.processes ≡ 1 → step plan s p ≡ Some next → p ≡ 0
  own-step s p next one h =
      let m = is-moved plan s p next h in
      let within = slice_get_within s.processes p m.process m.here in
      omega arith

  pub no-longer : (schedule earlier : List ℕ) (first s t : State) → length first.processes ≡ 1 → run_on plan (Some first) schedule ≡ Some s
      → run_on plan (Some first) earlier ≡ Some t → step plan s 0 ≡ None → length earlier ≤ length schedule
  no-longer schedule [] first s t one h k over = omega arith
  no-longer [] (q ∷ earlier) first s t one h k over = go (step plan first q) refl k
    where
      go : (o : Option State) → step plan first q ≡ o → run_on plan o earlier ≡ Some t → length (q ∷ earlier) ≤ 0
      go None e l = absurd (nowhere plan earlier t l)
      go (Some next) e l = absurd (none-some next (sym over ∙ (sym (ap (λ u. step plan u 0) (same_Some first s h))
          ∙ (ap (step plan first) (sym (own-step first q next one e)) ∙ e))))
  no-longer (p ∷ schedule) (q ∷ earlier) first s t one h k over =
      go (step plan first p) (step plan first q) refl refl h k (λ next one l m. no-longer schedule earlier next s t one l m over)
    where
      go : (o u : Option State) → step plan first p ≡ o → step plan first q ≡ u → run_on plan o schedule ≡ Some s
          → run_on plan u earlier ≡ Some t
          → ((next : State) → length next.processes ≡ 1 → run_on plan (Some next) schedule ≡ Some s
          → run_on plan (Some next) earlier ≡ Some t
          → length earlier ≤ length schedule) → length (q ∷ earlier) ≤ length (p ∷ schedule)
      go None u e f l m later = absurd (nowhere plan schedule s l)
      go (Some next) None e f l m later = absurd (nowhere plan earlier t m)
      go (Some next) (Some other) e f l m later =
          let same : p ≡ q = own-step first p next one e ∙ sym (own-step first q other one f) in
          let to = same_Some other next (sym f ∙ (ap (step plan first) (sym same) ∙ e)) in
          let few = later next ((step-lengths plan first p next e).1 ∙ one) l (subst (λ u. run_on plan (Some u) earlier ≡ Some t) to m) in
          omega (arith, few)

module _ (shape : Shape) (variant : Variant) (script : List Call) where
  abbrev plan : Plan
  plan = sole_plan shape variant script

  -- the state of one process
  abbrev pub sole : List ℕ → Process → State
  sole words q = record { words = words; processes = q ∷ [] }

  -- some schedule of n steps leads from the one state to the other
  pub record Leads (n : ℕ) (s t : State) : Type 0 where
    pub schedule : List ℕ
    pub gives : run_on plan (Some s) schedule ≡ Some t
    pub long : length schedule ≡ n

  on : {a b : ℕ} {s t u : State} → Leads a s t → Leads b t u → Leads (a + b) s u
  on {a} {b} {s} {t} {u} h k = record {
    schedule = h.schedule ++ k.schedule;
    gives = run-on-append plan (Some s) h.schedule k.schedule ∙ (ap (λ o. run_on plan o k.schedule) h.gives ∙ k.gives);
    long = let one = h.long in let more = k.long in omega (arith, one, more, length-append h.schedule k.schedule);
  }

  moves : (words : List ℕ) (q : Process) (m : Move) → next_move plan 0 q ≡ Some m
      → Leads 1 (sole words q) (sole (slice_set words (word_of_move m) (new_word m (slice_index words (word_of_move m))))
      (after_move 0 m (slice_index words (word_of_move m)) q))
  unfolding step
  moves words q m h = record { schedule = 0 ∷ []; gives = ap (λ o. run_on plan (moved_by (sole words q) 0 q o) []) h; long = refl }

  -- An open call that runs alone comes to its reply.
  record IsReplied (n : ℕ) (words : List ℕ) (call : Call) (q : Process) (last : List ℕ) (reply : Reply) : Type 0 where
    to : Process
    leads : Leads n (sole words q) (sole last to)
    asked : to.call ≡ Some call
    log : to.log ≡ q.log
    replied : act shape variant call to.got ≡ Answers reply

  replies : (call : Call) (q : Process) (rest : Rest) {words last : List ℕ} {reply : Reply} → q.call ≡ Some call
      → ((more : List ℕ) → rest more ≡ act shape variant call (q.got ++ more)) → (r : RunsAlone rest words last reply)
      → IsReplied (accesses r) words call q last reply
  replies call q rest asked e (ends h) = record {
    to = q;
    leads = record { schedule = []; gives = refl; long = refl };
    asked = asked;
    log = refl;
    replied = ap (act shape variant call) (sym (append-nil q.got)) ∙ (sym (e []) ∙ h);
  }
  replies call q rest asked e (goes {words = words} a p h k) =
      let turn = ap (act shape variant call) (sym (append-nil q.got)) ∙ (sym (e []) ∙ h) in
      let next : next_move plan 0 q ≡ Some (Makes a) = ap (move_from plan 0 q) asked ∙ ap (λ t. Some (move_of t)) turn in
      let later = replies call (after_move 0 (Makes a) (slice_index words (word_of a)) q) (λ got. rest (got_by a words ∷ got)) asked
      (λ more. e (got_by a words ∷ more) ∙ ap (act shape variant call) (sym (append_assoc q.got (got_by a words ∷ []) more))) k in
      record {
        to = later.to;
        leads = on (moves words q (Makes a) next) later.leads;
        asked = later.asked;
        log = later.log;
        replied = later.replied;
      }

  -- A call from its invocation to its response.
  record IsDone (n : ℕ) (words : List ℕ) (q : Process) (call : Call) (last : List ℕ) : Type 0 where
    to : Process
    leads : Leads n (sole words q) (sole (ticked last) to)
    free : to.call ≡ None
    begins : begun to ≡ begun q ++ call ∷ []

  does : (words : List ℕ) (q : Process) (call : Call) {last : List ℕ} {reply : Reply} → q.call ≡ None
      → slice_get script (length (begun q)) ≡ Some call
      → (r : RunsAlone (act shape variant call) (ticked words) last reply) → IsDone (1 + (accesses r + 1)) words q call last
  does words q call {last} {reply} free at r =
      let asks = after_move 0 (Invokes call) (slice_index words 0) q in
      let next : next_move plan 0 q ≡ Some (Invokes call) = ap (move_from plan 0 q) free ∙ ap invocation at in
      let run = replies call asks (act shape variant call) refl (λ more. refl) r in
      let answer : next_move plan 0 run.to ≡ Some (Responds reply) = ap (move_from plan 0 run.to) run.asked
      ∙ ap (λ t. Some (move_of t)) run.replied in
      record {
        to = after_move 0 (Responds reply) (slice_index last 0) run.to;
        leads = on (moves words q (Invokes call) next) (on run.leads (moves last run.to (Responds reply) answer));
        free = refl;
        begins = begun-more run.to (slice_index last 0, Answer 0 reply)
            ∙ (append-nil (begun run.to) ∙ (ap (λ log. begun (record run.to { log = log })) run.log ∙ begun-more q
            (slice_index words 0, Invoke 0 call)));
      }

  -- A state in which nothing is left to do, after this many steps at most.
  pub record ComesToEnd (most : ℕ) (words : List ℕ) (q : Process) : Type 0 where
    pub steps : ℕ
    pub few : steps ≤ most
    pub last : List ℕ
    pub to : Process
    pub leads : Leads steps (sole words q) (sole last to)
    pub over : next_move plan 0 to ≡ None

  module _ (claim : Said) (kept : IsKept shape variant claim) where
    pub ends-script : (left : List Call) (words : List ℕ) (m : Contents) (q : Process) → q.call ≡ None → script ≡ begun q ++ left
        → All (λ call. IsTrue (is_tree_call call)) left → All (IsBrief shape variant claim) left
        → length (begun q) + length left ≤ call_limit
        → claim (length (begun q)) words m → ComesToEnd (1002 * length left) words q
    ends-script [] words m q free all tree briefs few said = record {
      steps = 0;
      few = omega arith;
      last = words;
      to = q;
      leads = record { schedule = []; gives = refl; long = refl };
      over = ap (move_from plan 0 q) free
          ∙ ap invocation (ap (λ calls. slice_get calls (length (begun q))) (all ∙ append-nil (begun q)) ∙ none-behind (begun q));
    }
    ends-script (call ∷ left) words m q free all tree briefs few said =
        let at = ap (λ calls. slice_get calls (length (begun q))) all ∙ call-at (begun q) left call in
        let may = kept.calls (length (begun q)) (ticked words) m call (All-head (λ call. IsTrue (is_tree_call call)) call left tree)
        (omega (arith, few))
        (kept.stamps (length (begun q)) words m said) in
        let brief = All-head (IsBrief shape variant claim) call left briefs (length (begun q)) (ticked words) m (omega (arith, few))
        (kept.stamps (length (begun q)) words m said) may.last may.reply may.runs in
        let one = does words q call free at may.runs in
        let more : length (begun one.to) ≡ length (begun q) + 1 = ap (λ calls. length calls) one.begins
        ∙ length-append (begun q) (call ∷ []) in
        let rest = ends-script left (ticked may.last) (after_reply m call may.reply) one.to one.free
        (all ∙ (sym (append_assoc (begun q) (call ∷ []) left) ∙ ap (λ calls. calls ++ left) (sym one.begins)))
        (All-tail (λ call. IsTrue (is_tree_call call)) call left tree) (All-tail (IsBrief shape variant claim) call left briefs)
        (omega (arith, few, more))
        (subst (λ n. claim n (ticked may.last) (after_reply m call may.reply)) (sym more)
        (kept.stamps (length (begun q) + 1) may.last (after_reply m call may.reply) may.keeps)) in
        let later = rest.few in
        record {
          steps = 1 + (accesses may.runs + 1) + rest.steps;
          few = omega (arith, brief, later);
          last = rest.last;
          to = rest.to;
          leads = on one.leads rest.leads;
          over = rest.over;
        }

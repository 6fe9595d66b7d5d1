-- A history that is serial so far: at most one call is open, and that one has run alone so far.
use Rattle.art_schedules.proofs.Common.{◌≡◌, ℕ, zero, suc, List, [], ◌∷◌, ◌++◌, length, refl, sym, ap, subst, ◌∙◌, inl, inr, Option}
use Rattle.std.proofs.Common.{IsTrue, map}
use Rattle.art_core.specs.Core.{Makes}
use Rattle.art_schedules.proofs.Common.{All, slice_get, slice_set, All-nil, All-cons, All-append, none-some, same_Some, All-at, Call, Reply, Event}
use Rattle.art_schedules.proofs.Common.{Invoke, Answer, Access, Point, act, word_of, Turn, Asks, Answers, is_tree_call, Process, Plan, State, Move}
use Rattle.art_schedules.proofs.Common.{Invokes, Responds, begun, moved, after_move, opened_on, move_of, next_in, next_call, move_from}
use Rattle.art_schedules.proofs.Common.{invocation, IsPlan, IsSerial, IsLogged, logged, ticked, SerialRun, none, more}
use Rattle.std.specs.Prelude.{◌⊎◌, Some, None, slice_index}
use Rattle.std.specs.Option.{option_map}
use Rattle.std.proofs.lemmas.List.{map-set}
use Rattle.std.proofs.lemmas.Option.{slice_get-map}
use Rattle.events.specs.Logs.{events_by_stamp, history_of_logs}
use Rattle.events.proofs.GrowthLemmas.{history-push}
use Rattle.art_core.proofs.HistoryLemmas.{map-same, changed-at, no-logs, all-idle}
use Rattle.art_schedules.proofs.serial.AloneRunLemmas.{HasCome, comes-further, comes-to-end}
use Rattle.art_schedules.proofs.serial.SerialHistoryLemmas.{IsSerialSoFar, calls_of, so-far-front, one-open, with_call, more-serial, more-calls}

abbrev pub AreTreeCalls : List (Call × Reply) → Type 0
AreTreeCalls done = All (λ call. IsTrue (is_tree_call call.0)) done

module _ (plan : Plan) (first : List ℕ) where
  -- No call is open: those of the history have run alone.
  pub record IsAtRest (s : State) : Type 0 where
    pub events : List Event
    pub history : logged s.processes ≡ events
    pub serial : IsSerial events
    pub run : SerialRun plan.shape plan.variant first (calls_of events) s.words
    pub idle : (i : ℕ) (q : Process) → slice_get s.processes i ≡ Some q → q.call ≡ None
    pub calls : AreTreeCalls (calls_of events)

  -- One call is open, and has run alone so far, as those before it.
  pub record IsInCall (s : State) (p : ℕ) (q : Process) (call : Call) : Type 0 where
    pub before : List Event
    pub history : logged s.processes ≡ before ++ Invoke p call ∷ []
    pub serial : IsSerial before
    pub words : List ℕ
    pub run : SerialRun plan.shape plan.variant first (calls_of before) words
    pub here : slice_get s.processes p ≡ Some q
    pub asked : q.call ≡ Some call
    pub others : (i : ℕ) (r : Process) → slice_get s.processes i ≡ Some r → (i ≡ p) ⊎ (r.call ≡ None)
    pub come : HasCome (act plan.shape plan.variant call) (ticked words) q.got s.words
    pub calls : AreTreeCalls (calls_of before)
    pub of_tree : IsTrue (is_tree_call call)

  abbrev pub HasOneInCall : State → Type 0
  HasOneInCall s = (p : ℕ) × (q : Process) × (call : Call) × IsInCall s p q call

  -- a state is orderly as long as the history is serial
  abbrev pub IsOrderly : State → Type 0
  IsOrderly s = IsSerialSoFar (logged s.processes) → IsAtRest s ⊎ HasOneInCall s

pub set-here : {A : Type 0} (xs : List A) (p : ℕ) (x y : A) → slice_get xs p ≡ Some x → slice_get (slice_set xs p y) p ≡ Some y
set-here [] p x y h = absurd (none-some x h)
set-here (z ∷ zs) zero x y h = refl
set-here (z ∷ zs) (suc p) x y h = set-here zs p x y h

next-of-tree : (plan : Plan) → IsPlan plan → (p : ℕ) (q : Process) (call : Call) → next_call plan p q ≡ Some call
    → IsTrue (is_tree_call call)
next-of-tree plan within p q call h = go (slice_get plan.scripts p) refl h
  where
    go : (o : Option (List Call)) → slice_get plan.scripts p ≡ o → next_in o (length (begun q)) ≡ Some call → IsTrue (is_tree_call call)
    go None e k = absurd (none-some call k)
    go (Some script) e k = All-at (λ call. IsTrue (is_tree_call call)) script (length (begun q)) call
        (All-at (λ script. All (λ call. IsTrue (is_tree_call call)) script) plan.scripts p script within.calls e) k

module _ (plan : Plan) (first : List ℕ) (within : IsPlan plan) (s : State) (p : ℕ) (q : Process) (logs : IsLogged plan s)
    (here : slice_get s.processes p ≡ Some q) where
  abbrev pub now : ℕ
  now = slice_index s.words 0

  -- a stamp appends its event to the history
  pub pushed : (e : Event) (q' : Process) → q'.log ≡ q.log ++ (now, e) ∷ []
      → logged (slice_set s.processes p q') ≡ logged s.processes ++ e ∷ []
  pushed e q' log =
      let its-log = slice_get-map (λ q. q.log) s.processes p ∙ ap (λ o. option_map (λ q. q.log) o) here in
      ap history_of_logs (map-set (λ q. q.log) s.processes p q' ∙ ap (λ log. slice_set (map (λ q. q.log) s.processes) p log) log)
      ∙ history-push (map (λ q. q.log) s.processes) p q.log (now, e) its-log logs.stamps

  begins : (call : Call) → q.call ≡ None → IsTrue (is_tree_call call) → IsOrderly plan first s
      → IsOrderly plan first (moved s p q (Invokes call))
  begins call free tree orderly so = elim (orderly (so-far-front (logged s.processes) (Invoke p call) so')) [
    | inl r ↦ inr (
      p,
      after_move p (Invokes call) now q,
      call,
      record {
        before = r.events;
        history = grown ∙ ap (λ es. es ++ Invoke p call ∷ []) r.history;
        serial = r.serial;
        words = s.words;
        run = r.run;
        here = set-here s.processes p q (after_move p (Invokes call) now q) here;
        asked = refl;
        others = λ i x at. elim (changed-at s.processes p (after_move p (Invokes call) now q) i x at) [
          | inl t ↦ inl t.0
          | inr t ↦ inr (r.idle i x t.1)
        ];
        come = λ last reply k. k;
        calls = r.calls;
        of_tree = tree;
      },
    )
    | inr o ↦ absurd (one-open o.3.before o.0 o.2 p call o.3.serial
        (subst (λ es. IsSerialSoFar (es ++ Invoke p call ∷ [])) o.3.history so'))
  ]
    where
      grown : logged (slice_set s.processes p (after_move p (Invokes call) now q)) ≡ logged s.processes ++ Invoke p call ∷ []
      grown = pushed (Invoke p call) (after_move p (Invokes call) now q) refl

      so' : IsSerialSoFar (logged s.processes ++ Invoke p call ∷ [])
      so' = subst IsSerialSoFar grown so

  module _ (call : Call) (asked : q.call ≡ Some call) where
    -- the open call is this one
    own : HasOneInCall plan first s → IsInCall plan first s p q call
    own o = elim (o.3.others p q here) [
      | inl e ↦
          let same : o.1 ≡ q = same_Some o.1 q (sym o.3.here ∙ (ap (slice_get s.processes) (sym e) ∙ here)) in
          let same-call : o.2 ≡ call = same_Some o.2 call (sym o.3.asked ∙ (ap (λ q. q.call) same ∙ asked)) in
          let here-called : IsInCall plan first s p o.1 o.2 = subst (λ i. IsInCall plan first s i o.1 o.2) (sym e) o.3 in
          subst (IsInCall plan first s p q) same-call (subst (λ q. IsInCall plan first s p q o.2) same here-called)
      | inr e ↦ absurd (none-some call (sym e ∙ asked))
    ]

    pub busy : IsAtRest plan first s ⊎ HasOneInCall plan first s → IsInCall plan first s p q call
    busy (inl r) = absurd (none-some call (sym (r.idle p q here) ∙ asked))
    busy (inr o) = own o

    goes-on : (a : Access) (point : Option Point) → act plan.shape plan.variant call q.got ≡ Asks a point → IsOrderly plan first s
        → IsOrderly plan first (moved s p q (Makes a))
    goes-on a point asks orderly so =
        let q' = after_move p (Makes a) (slice_index s.words (word_of a)) q in
        let same = ap history_of_logs (map-same (λ q. q.log) s.processes p q q' here refl) in
        let c = busy (orderly (subst IsSerialSoFar same so)) in
        inr (
          p,
          q',
          call,
          record {
            before = c.before;
            history = same ∙ c.history;
            serial = c.serial;
            words = c.words;
            run = c.run;
            here = set-here s.processes p q q' here;
            asked = asked;
            others = λ i x at. elim (changed-at s.processes p q' i x at) [
              | inl t ↦ inl t.0
              | inr t ↦ c.others i x t.1
            ];
            come = comes-further (act plan.shape plan.variant call) (ticked c.words) q.got s.words a point c.come asks;
            calls = c.calls;
            of_tree = c.of_tree;
          },
        )

    is-answered : (reply : Reply) → act plan.shape plan.variant call q.got ≡ Answers reply → IsOrderly plan first s
        → IsOrderly plan first (moved s p q (Responds reply))
    is-answered reply answers orderly so =
        let q' = after_move p (Responds reply) now q in
        let grown = pushed (Answer p reply) q' refl in
        let c = busy (orderly (so-far-front (logged s.processes) (Answer p reply) (subst IsSerialSoFar grown so))) in
        let done = more-calls p call reply c.before c.serial in
        inl (record {
          events = with_call p call reply c.before;
          history = grown ∙ ap (λ es. es ++ Answer p reply ∷ []) c.history;
          serial = more-serial p call reply c.before c.serial;
          run = subst (λ d. SerialRun plan.shape plan.variant first d (ticked s.words)) (sym done)
              (more call reply c.run (comes-to-end (act plan.shape plan.variant call) (ticked c.words) q.got s.words reply c.come answers));
          idle = λ i x at. elim (changed-at s.processes p q' i x at) [
            | inl t ↦ ap (λ x. x.call) t.1
            | inr t ↦ elim (c.others i x t.1) [
              | inl e ↦ absurd (t.0 e)
              | inr e ↦ e
            ]
          ];
          calls = subst AreTreeCalls (sym done)
              (All-append (λ call. IsTrue (is_tree_call call.0)) (calls_of c.before) ((call, reply) ∷ []) c.calls
              (All-cons (λ call. IsTrue (is_tree_call call.0)) (call, reply) [] c.of_tree
              (All-nil (λ call. IsTrue (is_tree_call call.0)))));
        })

  pub one-more : (o : Option Call) (m : Move) → q.call ≡ o → move_from plan p q o ≡ Some m → IsOrderly plan first s
      → IsOrderly plan first (moved s p q m)
  one-more None m e k orderly = go (next_call plan p q) refl k
    where
      go : (o : Option Call) → next_call plan p q ≡ o → invocation o ≡ Some m → IsOrderly plan first (moved s p q m)
      go None f l = absurd (none-some m l)
      go (Some call) f l =
          subst (λ m. IsOrderly plan first (moved s p q m)) (same_Some (Invokes call) m l)
          (begins call e (next-of-tree plan within p q call f) orderly)
  one-more (Some call) m e k orderly = go (act plan.shape plan.variant call q.got) refl k
    where
      go : (t : Turn) → act plan.shape plan.variant call q.got ≡ t → ◌≡◌ {A = Option Move} (Some (move_of t)) (Some m)
          → IsOrderly plan first (moved s p q m)
      go (Asks a point) f l = subst (λ m. IsOrderly plan first (moved s p q m)) (same_Some (Makes a) m l) (goes-on call e a point f orderly)
      go (Answers reply) f l = subst (λ m. IsOrderly plan first (moved s p q m)) (same_Some (Responds reply) m l)
          (is-answered call e reply f orderly)

pub opened-orderly : (plan : Plan) (first : List ℕ) → IsOrderly plan first (opened_on plan first)
opened-orderly plan first so = inl (record {
  events = [];
  history = ap events_by_stamp (no-logs (length plan.scripts));
  serial = tt;
  run = none;
  idle = λ i q at. ap (λ q. q.call) (all-idle (length plan.scripts) i q at);
  calls = All-nil (λ call. IsTrue (is_tree_call call.0));
})

-- One process alone: its history is its log, and it begins the calls of its script in their order.
use Rattle.art_schedules.proofs.Common.{◌≡◌, ℕ, zero, suc, List, [], ◌∷◌, ◌++◌, length, refl, sym, ap, subst, ◌∙◌, inl, inr, append_assoc}
use Rattle.std.proofs.Common.{map}
use Rattle.art_core.specs.Core.{Makes}
use Rattle.art_schedules.proofs.Common.{Option, slice_get, slice_set, filter_map, append-nil, none-some, same_Some, Call, Reply, Event, Invoke}
use Rattle.art_schedules.proofs.Common.{Answer, Shape, Variant, Access, act, word_of, Turn, Asks, Answers, Process, Plan, State, Move, Invokes}
use Rattle.art_schedules.proofs.Common.{Responds, begun, invoked, answered, moved, word_of_move, after_move, idle, opened_on, history_of}
use Rattle.art_schedules.proofs.Common.{move_of, next_in, next_call, next_move, move_from, invocation, step, HasFewSteps, IsPlan, IsSerial}
use Rattle.art_schedules.proofs.Common.{begun-more, IsLogged, opened-logged, logged, is-moved, sole_plan}
use Rattle.std.specs.Prelude.{◌⊎◌, Some, None, slice_index}
use Rattle.std.proofs.lemmas.List.{map-append}
use Rattle.art_schedules.specs.serial.Laws.{SoleProcessRunsScript}
use Rattle.art_schedules.proofs.serial.SerialHistoryLemmas.{IsSerialSoFar, calls_of, so-far, with_call, more-serial, so-far-more, calls-invoked}
use Rattle.art_schedules.proofs.serial.SerialHistoryLemmas.{replies-answered, filter_map-events}
use Rattle.art_schedules.proofs.serial.OrderlyLemmas.{IsAtRest, HasOneInCall, IsOrderly, pushed, busy, now, opened-orderly}
use Rattle.art_schedules.proofs.serial.SerialScheduleLemmas.{along, orderly-step, runs-alone}

sole-at : {A : Type 0} (x : A) (i : ℕ) (y : A) → slice_get (x ∷ []) i ≡ Some y → (i ≡ 0) × (x ≡ y)
sole-at x zero y h = (refl, same_Some x y h)
sole-at x (suc i) y h = absurd (none-some y h)

rest-at : {A : Type 0} (xs rest : List A) (x : A) → slice_get (xs ++ rest) (length xs) ≡ Some x → (later : List A) × (rest ≡ x ∷ later)
rest-at [] [] x h = absurd (none-some x h)
rest-at [] (y ∷ later) x h = (later, ap (λ z. z ∷ later) (same_Some y x h))
rest-at (z ∷ xs) rest x h = rest-at xs rest x h

no-rest : {A : Type 0} (xs rest : List A) → slice_get (xs ++ rest) (length xs) ≡ None → rest ≡ []
no-rest [] [] h = refl
no-rest [] (y ∷ later) h = absurd (none-some y (sym h))
no-rest (z ∷ xs) rest h = no-rest xs rest h

-- the state has this process alone
record IsSole (script : List Call) (s : State) (q : Process) : Type 0 where
  processes : s.processes ≡ q ∷ []
  log : logged s.processes ≡ map (λ e. e.1) q.log
  left : List Call
  begins : script ≡ begun q ++ left
  serial : IsSerialSoFar (logged s.processes)

module _ (shape : Shape) (variant : Variant) (script : List Call) (first : List ℕ) (within : IsPlan (sole_plan shape variant script)) where
  abbrev plan : Plan
  plan = sole_plan shape variant script

  module _ (s : State) (p : ℕ) (q : Process) (logs : IsLogged plan s) (orderly : IsOrderly plan first s)
      (here : slice_get s.processes p ≡ Some q)
      (sole : IsSole script s q) where
    is-zero : p ≡ 0
    is-zero = (sole-at q p q (ap (λ ps. slice_get ps p) (sym sole.processes) ∙ here)).0

    set-sole : (q' : Process) → slice_set s.processes p q' ≡ q' ∷ []
    set-sole q' = ap (λ ps. slice_set ps p q') sole.processes ∙ ap (λ i. slice_set (q ∷ []) i q') is-zero

    longer-log : (e : Event) (q' : Process) → q'.log ≡ q.log ++ (now plan first within s p q logs here, e) ∷ []
        → logged (slice_set s.processes p q') ≡ map (λ e. e.1) q'.log
    longer-log e q' log = pushed plan first within s p q logs here e q' log
        ∙ (ap (λ es. es ++ e ∷ []) sole.log
        ∙ (sym (map-append (λ e. e.1) q.log ((now plan first within s p q logs here, e) ∷ [])) ∙ ap (map (λ e. e.1)) (sym log)))

    -- no call is open
    rests : q.call ≡ None → IsSerial (logged s.processes)
    rests free = go (orderly sole.serial)
      where
        go : IsAtRest plan first s ⊎ HasOneInCall plan first s → IsSerial (logged s.processes)
        go (inl r) = subst IsSerial (sym r.history) r.serial
        go (inr o) =
            let same = (sole-at q o.0 o.1 (ap (λ ps. slice_get ps o.0) (sym sole.processes) ∙ o.3.here)).1 in
            absurd (none-some o.2 (sym free ∙ (ap (λ q. q.call) same ∙ o.3.asked)))

    begins-call : (call : Call) → q.call ≡ None → next_call plan p q ≡ Some call
        → IsSole script (moved s p q (Invokes call)) (after_move p (Invokes call) (slice_index s.words 0) q)
    begins-call call free next =
        let q' = after_move p (Invokes call) (slice_index s.words 0) q in
        let at : slice_get script (length (begun q)) ≡ Some call =
        ap (λ i. next_in (slice_get (script ∷ []) i) (length (begun q))) (sym is-zero) ∙ next in
        let later = rest-at (begun q) sole.left call (ap (λ l. slice_get l (length (begun q))) (sym sole.begins) ∙ at) in
        record {
          processes = set-sole q';
          log = longer-log (Invoke p call) q' refl;
          left = later.0;
          begins = sole.begins ∙ (ap (λ l. begun q ++ l) later.1
              ∙ (sym (append_assoc (begun q) (call ∷ []) later.0)
              ∙ ap (λ l. l ++ later.0) (sym (begun-more q (slice_index s.words 0, Invoke p call)))));
          serial = subst IsSerialSoFar (sym (pushed plan first within s p q logs here (Invoke p call) q' refl))
              (so-far-more (logged s.processes) p call (rests free));
        }

    makes-access : (a : Access) → IsSole script (moved s p q (Makes a)) (after_move p (Makes a) (slice_index s.words (word_of a)) q)
    makes-access a =
        let q' = after_move p (Makes a) (slice_index s.words (word_of a)) q in
        let same : logged (slice_set s.processes p q') ≡ logged s.processes = ap logged (set-sole q') ∙ sym (ap logged sole.processes) in
        record {
          processes = set-sole q';
          log = same ∙ sole.log;
          left = sole.left;
          begins = sole.begins;
          serial = subst IsSerialSoFar (sym same) sole.serial;
        }

    answers-call : (call : Call) (reply : Reply) → q.call ≡ Some call
        → IsSole script (moved s p q (Responds reply)) (after_move p (Responds reply) (slice_index s.words 0) q)
    answers-call call reply asked =
        let q' = after_move p (Responds reply) (slice_index s.words 0) q in
        let c = busy plan first within s p q logs here call asked (orderly sole.serial) in
        let grown = pushed plan first within s p q logs here (Answer p reply) q' refl ∙ ap (λ es. es ++ Answer p reply ∷ []) c.history in
        record {
          processes = set-sole q';
          log = longer-log (Answer p reply) q' refl;
          left = sole.left;
          begins = sole.begins
              ∙ ap (λ l. l ++ sole.left) (sym (begun-more q (slice_index s.words 0, Answer p reply) ∙ append-nil (begun q)));
          serial = subst IsSerialSoFar (sym grown)
              (so-far (with_call p call reply c.before) (more-serial p call reply c.before c.serial));
        }

    one-move-more : (o : Option Call) (m : Move) → q.call ≡ o → move_from plan p q o ≡ Some m
        → IsSole script (moved s p q m) (after_move p m (slice_index s.words (word_of_move m)) q)
    one-move-more None m e k = go (next_call plan p q) refl k
      where
        go : (o : Option Call) → next_call plan p q ≡ o → invocation o ≡ Some m
            → IsSole script (moved s p q m) (after_move p m (slice_index s.words (word_of_move m)) q)
        go None f l = absurd (none-some m l)
        go (Some call) f l = subst (λ m. IsSole script (moved s p q m) (after_move p m (slice_index s.words (word_of_move m)) q))
            (same_Some (Invokes call) m l)
            (begins-call call e f)
    one-move-more (Some call) m e k = go (act shape variant call q.got) refl k
      where
        go : (t : Turn) → act shape variant call q.got ≡ t → ◌≡◌ {A = Option Move} (Some (move_of t)) (Some m)
            → IsSole script (moved s p q m) (after_move p m (slice_index s.words (word_of_move m)) q)
        go (Asks a point) f l = subst (λ m. IsSole script (moved s p q m) (after_move p m (slice_index s.words (word_of_move m)) q))
            (same_Some (Makes a) m l)
            (makes-access a)
        go (Answers reply) f l = subst (λ m. IsSole script (moved s p q m) (after_move p m (slice_index s.words (word_of_move m)) q))
            (same_Some (Responds reply) m l) (answers-call call reply e)

  -- Each state of a schedule.

  abbrev HasSole : State → Type 0
  HasSole t = (IsLogged plan t × IsOrderly plan first t) × ((q : Process) × IsSole script t q)

  sole-step : (t : State) (p : ℕ) (next : State) → step plan t p ≡ Some next → HasFewSteps next → HasSole t → HasSole next
  sole-step t p next e few h =
      let m = is-moved plan t p next e in
      let same = (sole-at h.1.0 p m.process (ap (λ ps. slice_get ps p) (sym h.1.1.processes) ∙ m.here)).1 in
      let sole = subst (IsSole script t) same h.1.1 in
      let n = slice_index t.words (word_of_move m.move) in (
        orderly-step plan first within t p next e few h.0,
        (
          after_move p m.move n m.process,
          subst (λ u. IsSole script u (after_move p m.move n m.process)) (sym m.is)
              (one-move-more t p m.process h.0.0 h.0.1 m.here sole m.process.call m.move refl m.is_next),
        ),
      )

  opened-sole : IsSole script (opened_on plan first) idle
  opened-sole = record { processes = refl; log = refl; left = script; begins = refl; serial = tt }

  -- nothing is left to do
  free-at-end : (q : Process) → next_move plan 0 q ≡ None → q.call ≡ None
  free-at-end q h = go q.call refl h
    where
      go : (o : Option Call) → q.call ≡ o → move_from plan 0 q o ≡ None → q.call ≡ None
      go None e k = e
      go (Some call) e k = absurd (none-some (move_of (act shape variant call q.got)) (sym k))

  all-begun : (q : Process) → next_move plan 0 q ≡ None → slice_get script (length (begun q)) ≡ None
  all-begun q h = go (slice_get script (length (begun q))) refl (sym (ap (move_from plan 0 q) (free-at-end q h)) ∙ h)
    where
      go : (o : Option Call) → slice_get script (length (begun q)) ≡ o → invocation (slice_get script (length (begun q))) ≡ None
          → slice_get script (length (begun q)) ≡ None
      go None e k = e
      go (Some call) e k = absurd (none-some (Invokes call) (sym (sym (ap invocation e) ∙ k)))

pub sole-runs-script : SoleProcessRunsScript
unfolding history_of
sole-runs-script shape variant script first schedule s q run here end =
    let plan = sole_plan shape variant script in
    let h = along plan (HasSole shape variant script first run.within) (sole-step shape variant script first run.within) schedule
    (opened_on plan first) s
    run.gives run.few_steps (
      (opened-logged plan first run.table run.clock_zero, opened-orderly plan first),
      (idle, opened-sole shape variant script first run.within),
    ) in
    let same : h.1.0 ≡ q = same_Some h.1.0 q (ap (λ ps. slice_get ps 0) (sym h.1.1.processes) ∙ here) in
    let sole = subst (IsSole script s) same h.1.1 in
    let serial = rests shape variant script first run.within s 0 q h.0.0 h.0.1 here sole (free-at-end shape variant script first
    run.within q end) in
    let at-end = all-begun shape variant script first run.within q end in
    let none-left = no-rest (begun q) sole.left (ap (λ l. slice_get l (length (begun q))) (sym sole.begins) ∙ at-end) in (
      calls_of (logged s.processes),
      record {
        serial = serial;
        alone = runs-alone plan first s h.0.0 h.0.1 serial;
        calls = calls-invoked (logged s.processes) serial
            ∙ (ap (filter_map invoked) sole.log
            ∙ (sym (filter_map-events invoked q.log) ∙ sym (sole.begins ∙ (ap (λ l. begun q ++ l) none-left ∙ append-nil (begun q)))));
        replies = replies-answered (logged s.processes) serial
            ∙ (ap (filter_map answered) sole.log ∙ sym (filter_map-events answered q.log));
      },
    )

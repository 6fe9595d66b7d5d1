-- What is recorded of a history of a cache is well formed.
use Rattle.certificate.proofs.Common.{◌≡◌, ℕ, ◌-◌, ◌<◌, ◌&&◌, nat_lt, nat_le, not, Bool, true, false, cond, List, [], ◌∷◌, ◌++◌, Option, Some, ◌==◌}
use Rattle.certificate.proofs.Common.{None, IsTrue, refl, sym, ap, ◌∙◌, subst, ⊎_elim, arith, ◌≢◌, All, AllPairs, false≢true, cases_Bool, cases_lt}
use Rattle.certificate.proofs.Common.{eqb-true, eqb-false, ne_eqb, eq-eqb, and_parts, All-nil, All-cons, All-head, All-tail, All-contains}
use Rattle.certificate.proofs.Common.{AllPairs-filter, AllPairs-nil, AllPairs-head, AllPairs-tail, Call, Get, Reply, Event, Invoke, Answer}
use Rattle.certificate.proofs.Common.{process_of, events_of, events_alternate, HistoryView, recorded_reply, missed_keys, is_missed, helper}
use Rattle.certificate.proofs.Common.{answer_to_come, recorded_invocation, recorded_answer, last_after, recorded_events, recording_of, ◌/◌, ◌%◌}
use Rattle.certificate.proofs.Common.{list_all, ltb-true, filter-append, has_number, has_number-Contains, IsWellFormed, is_small, pair_count}
use Rattle.certificate.proofs.Common.{HistoriesOfCachesHaveRecordings}
use Rattle.events.specs.Limits.{pair_limit}
use Rattle.certificate.proofs.CacheRecordingLemmas.{call_of, keys_of, invokes, answers, invocation_is, helper_above, helper_differs, AreSmall}
use Rattle.certificate.proofs.CacheListLemmas.{recording_is}

-- none of these events is of a process
none_of_invokes : (p q : ℕ) (keys : List ℕ) → ((key : ℕ) → helper p key ≢ q) → events_of q (invokes p keys) ≡ []
none_of_invokes p q [] differ = refl
none_of_invokes p q (key ∷ keys) differ = rw (ne_eqb (helper p key) q (differ key)) (none_of_invokes p q keys differ)

none_of_answers : (p q : ℕ) (keys : List ℕ) → ((key : ℕ) → helper p key ≢ q) → events_of q (answers p keys) ≡ []
none_of_answers p q [] differ = refl
none_of_answers p q (key ∷ keys) differ = rw (ne_eqb (helper p key) q (differ key)) (none_of_answers p q keys differ)

-- ---- a process of the history has its events in turn

module _ (fresh : ℕ) (keys : List ℕ) (q : ℕ) (small_q : q < 64) where
  own_invocation : (p : ℕ) (call : Call) (o : Option Reply) → events_of q (recorded_invocation fresh keys p call o)
      ≡ cond (p == q) (Invoke p (call_of fresh call o) ∷ []) []
  own_invocation p call o =
      rw (invocation_is fresh keys p call o, none_of_invokes p q (keys_of keys call o) (λ key. helper_above p key q small_q)) refl

  own_answer : (p : ℕ) (call : Call) (reply : Reply) → events_of q (recorded_answer keys p call reply)
      ≡ cond (p == q) (Answer p (recorded_reply call reply) ∷ []) []
  own_answer p call reply = rw (none_of_answers p q (missed_keys keys call reply) (λ key. helper_above p key q small_q)) refl

  pub same_turns : (last : ℕ → Call) (events : List Event) (waiting : Bool)
      → events_alternate waiting (events_of q (recorded_events fresh keys last events)) ≡ events_alternate waiting (events_of q events)
  same_turns last [] waiting = refl
  same_turns last (Invoke p call ∷ events) waiting =
      let o = answer_to_come p events in
      let later = last_after last (Invoke p call) in
      rw (
        filter-append (λ e. process_of e == q) (recorded_invocation fresh keys p call o) (recorded_events fresh keys later events),
        own_invocation p call o,
      )
      (either (p == q) (call_of fresh call o) (events_of q (recorded_events fresh keys later events)) (same_turns later events))
    where
      either : (b : Bool) (c : Call) (xs : List Event) → ((w : Bool) → events_alternate w xs ≡ events_alternate w (events_of q events))
          → events_alternate waiting (cond b (Invoke p c ∷ []) [] ++ xs) ≡ events_alternate waiting (cond b (Invoke p call ∷ events_of q events) (events_of q events))
      either true c xs rest = ap (λ (x : Bool). not waiting && x) (rest true)
      either false c xs rest = rest waiting
  same_turns last (Answer p reply ∷ events) waiting =
      rw (
        filter-append (λ e. process_of e == q) (recorded_answer keys p (last p) reply) (recorded_events fresh keys last events),
        own_answer p (last p) reply,
      )
      (either (p == q) (recorded_reply (last p) reply) (events_of q (recorded_events fresh keys last events)) (same_turns last events))
    where
      either : (b : Bool) (r : Reply) (xs : List Event) → ((w : Bool) → events_alternate w xs ≡ events_alternate w (events_of q events))
          → events_alternate waiting (cond b (Answer p r ∷ []) [] ++ xs) ≡ events_alternate waiting (cond b (Answer p reply ∷ events_of q events) (events_of q events))
      either true r xs rest = ap (λ (x : Bool). waiting && x) (rest false)
      either false r xs rest = rest waiting

-- ---- a process that removes has them too, because the keys are distinct

module _ (fresh : ℕ) (keys : List ℕ) (distinct : AllPairs (λ a b. a ≢ b) keys) (p key : ℕ) (small_p : p < 64) where
  abbrev own : ℕ
  own = helper p key

  abbrev has : List ℕ → Bool
  has removed = has_number removed key

  same_helper : (k : ℕ) → helper p k ≡ own → k ≡ key
  same_helper k same = omega arith

  has_none : (k : ℕ) (removed : List ℕ) → k ≡ key → All (λ b. k ≢ b) removed → has removed ≡ false
  has_none k removed same others = ⊎_elim
      (λ yes. absurd (All-contains (λ b. k ≢ b) removed key others (has_number-Contains removed key yes) same)) (λ no. no) (cases_Bool (has removed))

  turns_of_invokes : (removed : List ℕ) → AllPairs (λ a b. a ≢ b) removed → (waiting : Bool) (xs : List Event)
      → events_alternate waiting (events_of own (invokes p removed) ++ xs)
      ≡ cond (has removed) (not waiting && events_alternate true xs) (events_alternate waiting xs)
  turns_of_invokes [] pairs waiting xs = refl
  turns_of_invokes (k ∷ removed) pairs waiting xs = ⊎_elim
      (λ same. let is = eqb-true k key same in
      rw (eq-eqb (helper p k) own (ap (helper p) is), same)
      (ap (λ (b : Bool). not waiting && b)
      (turns_of_invokes removed rest true xs ∙ rw (has_none k removed is (AllPairs-head (λ a b. a ≢ b) k removed pairs)) refl)))
      (λ other. rw (ne_eqb (helper p k) own (λ same. eqb-false k key other (same_helper k same)), other) (turns_of_invokes removed rest waiting xs))
      (cases_Bool (k == key))
    where
      rest : AllPairs (λ a b. a ≢ b) removed
      rest = AllPairs-tail (λ a b. a ≢ b) k removed pairs

  turns_of_answers : (removed : List ℕ) → AllPairs (λ a b. a ≢ b) removed → (waiting : Bool) (xs : List Event)
      → events_alternate waiting (events_of own (answers p removed) ++ xs)
      ≡ cond (has removed) (waiting && events_alternate false xs) (events_alternate waiting xs)
  turns_of_answers [] pairs waiting xs = refl
  turns_of_answers (k ∷ removed) pairs waiting xs = ⊎_elim
      (λ same. let is = eqb-true k key same in
      rw (eq-eqb (helper p k) own (ap (helper p) is), same)
      (ap (λ (b : Bool). waiting && b)
      (turns_of_answers removed rest false xs ∙ rw (has_none k removed is (AllPairs-head (λ a b. a ≢ b) k removed pairs)) refl)))
      (λ other. rw (ne_eqb (helper p k) own (λ same. eqb-false k key other (same_helper k same)), other) (turns_of_answers removed rest waiting xs))
      (cases_Bool (k == key))
    where
      rest : AllPairs (λ a b. a ≢ b) removed
      rest = AllPairs-tail (λ a b. a ≢ b) k removed pairs

  -- an event of another process adds none
  other_invocation : (q : ℕ) (call : Call) (o : Option Reply) → q < 64 → (q ≡ p → ⊥) → events_of own (recorded_invocation fresh keys q call o) ≡ []
  other_invocation q call o q_small differ =
      rw (invocation_is fresh keys q call o, ne_eqb q own (λ same. helper_above p key q q_small (sym same)))
      (none_of_invokes q own (keys_of keys call o) (λ k. helper_differs q p k key q_small small_p differ))

  other_answer : (q : ℕ) (call : Call) (reply : Reply) → q < 64 → (q ≡ p → ⊥) → events_of own (recorded_answer keys q call reply) ≡ []
  other_answer q call reply q_small differ =
      rw (ne_eqb q own (λ same. helper_above p key q q_small (sym same)))
      (none_of_answers q own (missed_keys keys call reply) (λ k. helper_differs q p k key q_small small_p differ))

  -- an event of the process of the scan adds those of the removes
  own_invocations : (call : Call) (o : Option Reply) → events_of own (recorded_invocation fresh keys p call o) ≡ events_of own (invokes p (keys_of keys call o))
  own_invocations call o =
      rw (invocation_is fresh keys p call o, ne_eqb p own (λ same. helper_above p key p small_p (sym same))) refl

  own_answers : (call : Call) (reply : Reply) → events_of own (recorded_answer keys p call reply) ≡ events_of own (answers p (missed_keys keys call reply))
  own_answers call reply = rw (ne_eqb p own (λ same. helper_above p key p small_p (sym same))) refl

  distinct_keys : (call : Call) (o : Option Reply) → AllPairs (λ a b. a ≢ b) (keys_of keys call o)
  distinct_keys call None = AllPairs-nil (λ a b. a ≢ b)
  distinct_keys call (Some reply) = AllPairs-filter (λ a b. a ≢ b) (is_missed call reply) keys distinct

  -- whether the remove is open: while a call is open that misses the key
  abbrev is_removing : Bool → Call → List Event → Bool
  is_removing false call events = false
  is_removing true call events = has (keys_of keys call (answer_to_come p events))

  past_invocation : (q : ℕ) (call last : Call) (events : List Event) (waiting : Bool)
      → is_removing waiting last (Invoke q call ∷ events) ≡ is_removing waiting last events
  past_invocation q call last events true = refl
  past_invocation q call last events false = refl

  past_answer : (q : ℕ) (reply : Reply) (last : Call) (events : List Event) (waiting : Bool) → (q == p) ≡ false
      → is_removing waiting last (Answer q reply ∷ events) ≡ is_removing waiting last events
  past_answer q reply last events true other = rw other refl
  past_answer q reply last events false other = refl

  mine_invoked : (q : ℕ) (call : Call) (events xs : List Event) → q ≡ p → events_alternate (has (keys_of keys call (answer_to_come p events))) xs ≡ true
      → events_alternate false (events_of own (recorded_invocation fresh keys q call (answer_to_come q events)) ++ xs) ≡ true
  mine_invoked q call events xs is rest =
      let o = answer_to_come p events in
      let removed = keys_of keys call o in
      subst (λ x. events_alternate false (events_of own (recorded_invocation fresh keys x call (answer_to_come x events)) ++ xs) ≡ true) (sym is)
      (ap (λ (l : List Event). events_alternate false (l ++ xs)) (own_invocations call o)
      ∙ (turns_of_invokes removed (distinct_keys call o) false xs ∙ either (has removed) rest))
    where
      either : (b : Bool) → events_alternate b xs ≡ true → cond b (events_alternate true xs) (events_alternate false xs) ≡ true
      either true h = h
      either false h = h

  mine_answered : (q : ℕ) (last : ℕ → Call) (reply : Reply) (xs : List Event) → q ≡ p → events_alternate false xs ≡ true
      → events_alternate (has (missed_keys keys (last p) reply)) (events_of own (recorded_answer keys q (last q) reply) ++ xs) ≡ true
  mine_answered q last reply xs is rest =
      let removed = missed_keys keys (last p) reply in
      subst (λ x. events_alternate (has removed) (events_of own (recorded_answer keys x (last x) reply) ++ xs) ≡ true) (sym is)
      (ap (λ (l : List Event). events_alternate (has removed) (l ++ xs)) (own_answers (last p) reply)
      ∙ (turns_of_answers removed (AllPairs-filter (λ a b. a ≢ b) (is_missed (last p) reply) keys distinct) (has removed) xs
      ∙ either (has removed) rest))
    where
      either : (b : Bool) → events_alternate false xs ≡ true → cond b (b && events_alternate false xs) (events_alternate b xs) ≡ true
      either true h = h
      either false h = h

  pub helper_turns : (last : ℕ → Call) (events : List Event) (waiting : Bool) → AreSmall events → events_alternate waiting (events_of p events) ≡ true
      → events_alternate (is_removing waiting (last p) events) (events_of own (recorded_events fresh keys last events)) ≡ true
  helper_turns last [] waiting small turns = refl
  helper_turns last (Invoke q call ∷ events) waiting small turns =
      let o = answer_to_come q events in
      let later = last_after last (Invoke q call) in
      let xs = events_of own (recorded_events fresh keys later events) in
      let q_small = All-head (λ e. process_of e < 64) (Invoke q call) events small in
      let rest = All-tail (λ e. process_of e < 64) (Invoke q call) events small in
      subst (λ (l : List Event). events_alternate (is_removing waiting (last p) (Invoke q call ∷ events)) l ≡ true)
      (sym (filter-append (λ e. process_of e == own) (recorded_invocation fresh keys q call o) (recorded_events fresh keys later events)))
      (⊎_elim (λ same. mine (eqb-true q p same) waiting (rw same at turns) (λ turns. helper_turns later events true rest turns))
      (λ other. others q_small other (helper_turns later events waiting rest (rw other at turns))) (cases_Bool (q == p)))
    where
      mine : q ≡ p → (waiting : Bool) → (not waiting && events_alternate true (events_of p events)) ≡ true
          → (events_alternate true (events_of p events) ≡ true
          → events_alternate (has (keys_of keys (last_after last (Invoke q call) p) (answer_to_come p events)))
          (events_of own (recorded_events fresh keys (last_after last (Invoke q call)) events)) ≡ true)
          → events_alternate (is_removing waiting (last p) (Invoke q call ∷ events))
          (events_of own (recorded_invocation fresh keys q call (answer_to_come q events))
          ++ events_of own (recorded_events fresh keys (last_after last (Invoke q call)) events)) ≡ true
      mine is true h rest = absurd (false≢true h)
      mine is false h rest =
          let is_call : last_after last (Invoke q call) p ≡ call = rw (eq-eqb q p is) refl in
          mine_invoked q call events (events_of own (recorded_events fresh keys (last_after last (Invoke q call)) events)) is
          (subst (λ (c : Call). events_alternate (has (keys_of keys c (answer_to_come p events)))
          (events_of own (recorded_events fresh keys (last_after last (Invoke q call)) events)) ≡ true) is_call (rest h))

      others : q < 64 → (q == p) ≡ false
          → events_alternate (is_removing waiting (last_after last (Invoke q call) p) events)
          (events_of own (recorded_events fresh keys (last_after last (Invoke q call)) events)) ≡ true
          → events_alternate (is_removing waiting (last p) (Invoke q call ∷ events))
          (events_of own (recorded_invocation fresh keys q call (answer_to_come q events))
          ++ events_of own (recorded_events fresh keys (last_after last (Invoke q call)) events)) ≡ true
      others q_small other rest =
          let xs = events_of own (recorded_events fresh keys (last_after last (Invoke q call)) events) in
          let is_last : last_after last (Invoke q call) p ≡ last p = rw other refl in
          ap (λ (l : List Event). events_alternate (is_removing waiting (last p) (Invoke q call ∷ events)) (l ++ xs))
          (other_invocation q call (answer_to_come q events) q_small (eqb-false q p other))
          ∙ (ap (λ (b : Bool). events_alternate b xs) (past_invocation q call (last p) events waiting)
          ∙ subst (λ (c : Call). events_alternate (is_removing waiting c events) xs ≡ true) is_last rest)
  helper_turns last (Answer q reply ∷ events) waiting small turns =
      let q_small = All-head (λ e. process_of e < 64) (Answer q reply) events small in
      let rest = All-tail (λ e. process_of e < 64) (Answer q reply) events small in
      subst (λ (l : List Event). events_alternate (is_removing waiting (last p) (Answer q reply ∷ events)) l ≡ true)
      (sym (filter-append (λ e. process_of e == own) (recorded_answer keys q (last q) reply) (recorded_events fresh keys last events)))
      (⊎_elim (λ same. mine (eqb-true q p same) waiting (rw same at turns) (λ turns. helper_turns last events false rest turns))
      (λ other. others q_small other (helper_turns last events waiting rest (rw other at turns))) (cases_Bool (q == p)))
    where
      mine : q ≡ p → (waiting : Bool) → (waiting && events_alternate false (events_of p events)) ≡ true
          → (events_alternate false (events_of p events) ≡ true → events_alternate false (events_of own (recorded_events fresh keys last events)) ≡ true)
          → events_alternate (is_removing waiting (last p) (Answer q reply ∷ events))
          (events_of own (recorded_answer keys q (last q) reply) ++ events_of own (recorded_events fresh keys last events)) ≡ true
      mine is false h rest = absurd (false≢true h)
      mine is true h rest =
          let to_come : answer_to_come p (Answer q reply ∷ events) ≡ Some reply = rw (eq-eqb q p is) refl in
          subst (λ (o : Option Reply). events_alternate (has (keys_of keys (last p) o))
          (events_of own (recorded_answer keys q (last q) reply) ++ events_of own (recorded_events fresh keys last events)) ≡ true) (sym to_come)
          (mine_answered q last reply (events_of own (recorded_events fresh keys last events)) is (rest h))

      others : q < 64 → (q == p) ≡ false
          → events_alternate (is_removing waiting (last p) events) (events_of own (recorded_events fresh keys last events)) ≡ true
          → events_alternate (is_removing waiting (last p) (Answer q reply ∷ events))
          (events_of own (recorded_answer keys q (last q) reply) ++ events_of own (recorded_events fresh keys last events)) ≡ true
      others q_small other rest =
          let xs = events_of own (recorded_events fresh keys last events) in
          ap (λ (l : List Event). events_alternate (is_removing waiting (last p) (Answer q reply ∷ events)) (l ++ xs))
          (other_answer q (last q) reply q_small (eqb-false q p other))
          ∙ (ap (λ (b : Bool). events_alternate b xs) (past_answer q reply (last p) events waiting other) ∙ rest)

-- ---- so what is recorded of a history is well formed

are_small : (events : List Event) → IsTrue (list_all is_small events) → AreSmall events
are_small [] h = All-nil (λ e. process_of e < 64)
are_small (e ∷ events) h =
    let parts = and_parts (is_small e) (list_all is_small events) h in
    All-cons (λ e. process_of e < 64) e events (by_event e parts.0) (are_small events parts.1)
  where
    by_event : (e : Event) → is_small e ≡ true → process_of e < 64
    by_event (Invoke p call) g = ltb-true p 64 g
    by_event (Answer p reply) g = ltb-true p 64 (and_parts (nat_lt p 64) (nat_le (pair_count reply) pair_limit) g).0

well_formed : (fresh : ℕ) (keys : List ℕ) (history : HistoryView) → IsWellFormed history.events → AreSmall history.events
    → AllPairs (λ a b. a ≢ b) keys → IsWellFormed (recording_of fresh keys history).events
well_formed fresh keys history turns small distinct q = ⊎_elim
    (λ less. same_turns fresh keys q less (λ p. Get 0) history.events false ∙ turns q)
    (λ more. let p = (q - 64) % 64 in
    let key = (q - 64) / 64 in
    let inside : p < 64 = omega arith in
    let is : helper p key ≡ q = omega arith in
    subst (λ x. events_alternate false (events_of x (recording_of fresh keys history).events) ≡ true) is
    (helper_turns fresh keys distinct p key inside (λ p. Get 0) history.events false small (turns p)))
    (cases_lt q 64)

pub have_recordings : HistoriesOfCachesHaveRecordings
have_recordings fresh keys history is distinct =
    let small = are_small history.events is.events.small in (
      well_formed fresh keys history is.events.well_formed small distinct,
      recording_is fresh keys history (λ p. (false, is.events.well_formed p)) small,
    )

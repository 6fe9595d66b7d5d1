-- The calls of events with one event more.
use Rattle.call_effects.proofs.Common.{◌≡◌, ℕ, suc, ◌+◌, ◌<◌, Bool, true, false, not, cond, ◌==◌, List, [], ◌∷◌, ◌++◌, length, map, Some, None, refl}
use Rattle.call_effects.proofs.Common.{sym, ap, ap₂, ◌∙◌, subst, arith, IsTrue, ne_eqb, eq-eqb, eqb-true, false≢true, and_parts, Call, Reply, Event}
use Rattle.call_effects.proofs.Common.{Invoke, Answer, Operation, Response, response_from, operation_of, operations_from, operations, begun_at}
use Rattle.call_effects.proofs.Common.{answered_at}
use Rattle.events.specs.Events.{process_of, events_of, events_alternate}
use Rattle.events.proofs.OperationLemmas.{operations_from-invoke}

-- ---- an invocation

pub operations-invoke : (events : List Event) (process : ℕ) (call : Call)
    → operations (events ++ Invoke process call ∷ []) ≡ operations events ++ begun_at (length events) call ∷ []
operations-invoke events process call =
    let same : 0 + length events ≡ length events = omega arith in
    operations_from-invoke 0 process call events ∙ ap (λ place. operations events ++ begun_at place call ∷ []) same

-- ---- an answer

-- an answer to another process answers nothing
response_from-other : (p i q : ℕ) (reply : Reply) (events : List Event) → (q ≡ p → ⊥)
    → response_from p i (events ++ Answer q reply ∷ []) ≡ response_from p i events
response_from-other p i q reply [] other = rw (ne_eqb q p other) refl
response_from-other p i q reply (Invoke r call ∷ events) other = response_from-other p (suc i) q reply events other
response_from-other p i q reply (Answer r given ∷ events) other = rw (response_from-other p (suc i) q reply events other) refl

-- a response stays
response_from-stays : (p i : ℕ) (events more : List Event) (r : Response) → response_from p i events ≡ Some r
    → response_from p i (events ++ more) ≡ Some r
response_from-stays p i [] more r h = let e : None ≡ Some r = h in cc
response_from-stays p i (Invoke q call ∷ events) more r h = response_from-stays p (suc i) events more r h
response_from-stays p i (Answer q reply ∷ events) more r h = by_test (q == p) h (response_from-stays p (suc i) events more r)
  where
    by_test : (t : Bool) → cond t (Some (record { res = i; reply = reply })) (response_from p (suc i) events) ≡ Some r
        → (response_from p (suc i) events ≡ Some r → response_from p (suc i) (events ++ more) ≡ Some r)
        → cond t (Some (record { res = i; reply = reply })) (response_from p (suc i) (events ++ more)) ≡ Some r
    by_test true h rest = h
    by_test false h rest = rest h

-- where the events of a process take turns, and some are left, its next one is a response
pub response_found : (p i : ℕ) (events : List Event) → events_alternate true (events_of p events) ≡ true → (events_of p events ≡ [] → ⊥)
    → (r : Response) × (response_from p i events ≡ Some r)
response_found p i [] turns some = absurd (some refl)
response_found p i (Invoke q call ∷ events) turns some = by_test (q == p) turns some (response_found p (suc i) events)
  where
    by_test : (t : Bool) → events_alternate true (cond t (Invoke q call ∷ events_of p events) (events_of p events)) ≡ true
        → (cond t (Invoke q call ∷ events_of p events) (events_of p events) ≡ [] → ⊥)
        → (events_alternate true (events_of p events) ≡ true → (events_of p events ≡ [] → ⊥) → (r : Response)
        × (response_from p (suc i) events ≡ Some r))
        → (r : Response) × (response_from p (suc i) events ≡ Some r)
    by_test true turns some rest = absurd (false≢true turns)
    by_test false turns some rest = rest turns some
response_found p i (Answer q reply ∷ events) turns some = by_test (q == p) turns some (response_found p (suc i) events)
  where
    by_test : (t : Bool) → events_alternate true (cond t (Answer q reply ∷ events_of p events) (events_of p events)) ≡ true
        → (cond t (Answer q reply ∷ events_of p events) (events_of p events) ≡ [] → ⊥)
        → (events_alternate true (events_of p events) ≡ true → (events_of p events ≡ [] → ⊥) → (r : Response)
        × (response_from p (suc i) events ≡ Some r))
        → (r : Response) × (cond t (Some (record { res = i; reply = reply })) (response_from p (suc i) events) ≡ Some r)
    by_test true turns some rest = (record { res = i; reply = reply }, refl)
    by_test false turns some rest = rest turns some

-- after the last event of a process comes an answer to it: no other call gets it
module _ (p : ℕ) (reply : Reply) where
  -- no event of another process is one of p
  pub none_of : (e : Event) (events : List Event) → events_of p (e ∷ events) ≡ [] → (process_of e ≡ p → ⊥) × (events_of p events ≡ [])
  none_of e events none = by_test (process_of e == p) refl none
    where
      by_test : (t : Bool) → (process_of e == p) ≡ t → cond t (e ∷ events_of p events) (events_of p events) ≡ [] → (process_of e ≡ p → ⊥)
          × (events_of p events ≡ [])
      by_test true same none = let e : e ∷ events_of p events ≡ [] = none in absurd cc
      by_test false same none = (λ is. false≢true (sym same ∙ eq-eqb (process_of e) p is), none)

  answer_found : (i : ℕ) (events : List Event) → events_of p events ≡ []
      → response_from p i (events ++ Answer p reply ∷ []) ≡ Some (record { res = i + length events; reply = reply })
  answer_found i [] none = let same : i ≡ i + 0 =
      omega arith in rw (eq-eqb p p refl) (ap (λ place. Some (record { res = place; reply = reply })) same)
  answer_found i (Invoke q call ∷ events) none =
      let same : suc i + length events ≡ i + suc (length events) = omega arith in
      answer_found (suc i) events (none_of (Invoke q call) events none).1 ∙ ap (λ place. Some (record { res = place; reply = reply })) same
  answer_found i (Answer q given ∷ events) none =
      let same : suc i + length events ≡ i + suc (length events) = omega arith in
      let parts = none_of (Answer q given) events none in
      rw (ne_eqb q p parts.0) (answer_found (suc i) events parts.1 ∙ ap (λ place. Some (record { res = place; reply = reply })) same)

  none_found : (i : ℕ) (events : List Event) → events_of p events ≡ [] → response_from p i events ≡ None
  none_found i [] none = refl
  none_found i (Invoke q call ∷ events) none = none_found (suc i) events (none_of (Invoke q call) events none).1
  none_found i (Answer q given ∷ events) none =
      let parts = none_of (Answer q given) events none in rw (ne_eqb q p parts.0) (none_found (suc i) events parts.1)

  -- calls that are invoked elsewhere stay as they are
  elsewhere : (inv place : ℕ) (a : Operation) → (a.inv ≡ inv → ⊥) → answered_at inv place reply a ≡ a
  elsewhere inv place a other = rw (ne_eqb a.inv inv other) refl

  behind : (i inv place : ℕ) (events : List Event) → inv < i → events_of p events ≡ []
      → operations_from i (events ++ Answer p reply ∷ []) ≡ map (answered_at inv place reply) (operations_from i events)
  behind i inv place [] less none = refl
  behind i inv place (Answer q given ∷ events) less none =
      behind (suc i) inv place events (omega arith) (none_of (Answer q given) events none).1
  behind i inv place (Invoke q call ∷ events) less none =
      let parts = none_of (Invoke q call) events none in
      rw (
        response_from-other q (suc i) p reply events (λ e. parts.0 (sym e)),
        elsewhere inv place (operation_of q call i events)
            (λ e. omega (arith, e, less)),
      )
      (ap (λ (rest : List Operation). operation_of q call i events ∷ rest) (behind (suc i) inv place events (omega arith) parts.1))

  -- if the events of a process take turns, so do those after the first event
  pub turns_later : (e : Event) (events : List Event) (waiting : Bool) → events_alternate waiting (events_of p (e ∷ events)) ≡ true
      → (then : Bool) × (events_alternate then (events_of p events) ≡ true)
  turns_later e events waiting turns = by_test (process_of e == p) turns
    where
      first : (e : Event) → events_alternate waiting (e ∷ events_of p events) ≡ true → (then : Bool)
          × (events_alternate then (events_of p events) ≡ true)
      first (Invoke q call) h = (true, (and_parts (not waiting) (events_alternate true (events_of p events)) h).1)
      first (Answer q given) h = (false, (and_parts waiting (events_alternate false (events_of p events)) h).1)

      by_test : (t : Bool) → events_alternate waiting (cond t (e ∷ events_of p events) (events_of p events)) ≡ true
          → (then : Bool) × (events_alternate then (events_of p events) ≡ true)
      by_test true h = first e h
      by_test false h = (waiting, h)

  -- some event of the process is left where its open call is
  pub some_left : (before : List Event) (call : Call) (between : List Event) → events_of p (before ++ Invoke p call ∷ between) ≡ [] → ⊥
  some_left [] call between none = (none_of (Invoke p call) between none).0 refl
  some_left (e ∷ before) call between none = some_left before call between (none_of e (before ++ Invoke p call ∷ between) none).1

  -- the open call of the process gets the answer, and no other
  filled : (i : ℕ) (before : List Event) (call : Call) (between : List Event) (waiting : Bool)
      → events_alternate waiting (events_of p (before ++ Invoke p call ∷ between)) ≡ true → events_of p between ≡ []
      → operations_from i ((before ++ Invoke p call ∷ between) ++ Answer p reply ∷ [])
      ≡ map (answered_at (i + length before) (i + length (before ++ Invoke p call ∷ between)) reply)
      (operations_from i (before ++ Invoke p call ∷ between))
  filled i [] call between waiting turns none =
      let own : i ≡ i + 0 = omega arith in
      let place : suc i + length between ≡ i + suc (length between) = omega arith in
      subst (λ inv. operations_from i (Invoke p call ∷ (between ++ Answer p reply ∷ []))
      ≡ map (answered_at inv (i + suc (length between)) reply) (operations_from i (Invoke p call ∷ between))) own
      (rw (answer_found (suc i) between none, none_found (suc i) between none, place, eq-eqb i i refl)
      (ap (λ (rest : List Operation). record {
        call = call;
        inv = i;
        response = Some
            (record { res = i + suc (length between); reply = reply });
      } ∷ rest)
      (behind (suc i) i (i + suc (length between)) between (omega arith) none)))
  filled i (Answer q given ∷ before) call between waiting turns none =
      let inv : suc i + length before ≡ i + suc (length before) = omega arith in
      let place : suc i + length (before ++ Invoke p call ∷ between) ≡ i + suc (length (before ++ Invoke p call ∷ between)) = omega arith in
      let later = turns_later (Answer q given) (before ++ Invoke p call ∷ between) waiting turns in
      filled (suc i) before call between later.0 later.1 none
      ∙ rw (inv, place) refl
  filled i (Invoke q other ∷ before) call between waiting turns none =
      let rest = before ++ Invoke p call ∷ between in
      let inv : suc i + length before ≡ i + suc (length before) = omega arith in
      let place : suc i + length rest ≡ i + suc (length rest) = omega arith in
      let later = turns_later (Invoke q other) rest waiting turns in
      let not_here : (i ≡ i + suc (length before) → ⊥) = λ e. omega (arith, e) in
      let same_response = response_same i q other rest waiting turns (some_left before call between) in
      let tails : operations_from (suc i) (rest ++ Answer p reply ∷ [])
      ≡ map (answered_at (i + suc (length before)) (i + suc (length rest)) reply) (operations_from (suc i) rest) =
      filled (suc i) before call between later.0 later.1 none ∙ rw (inv, place) refl in
      let heads : operation_of q other i (rest ++ Answer p reply ∷ [])
      ≡ answered_at (i + suc (length before)) (i + suc (length rest)) reply (operation_of q other i rest) =
      ap (λ response. record { call = other; inv = i; response = response }) same_response
      ∙ sym (elsewhere (i + suc (length before)) (i + suc (length rest)) (operation_of q other i rest) not_here) in
      ap₂ (λ (a : Operation) (l : List Operation). a ∷ l) heads tails
    where
      response_same : (i q : ℕ) (other : Call) (rest : List Event) (waiting : Bool)
          → events_alternate waiting (events_of p (Invoke q other ∷ rest)) ≡ true
          → (events_of p rest ≡ [] → ⊥) → response_from q (suc i) (rest ++ Answer p reply ∷ []) ≡ response_from q (suc i) rest
      response_same i q other rest waiting turns some = by_test (q == p) refl turns
        where
          by_test : (t : Bool) → (q == p) ≡ t → events_alternate waiting (cond t (Invoke q other ∷ events_of p rest) (events_of p rest)) ≡ true
              → response_from q (suc i) (rest ++ Answer p reply ∷ []) ≡ response_from q (suc i) rest
          by_test false e turns = response_from-other q (suc i) p reply rest (λ same. false≢true (sym e ∙ eq-eqb q p (sym same)))
          by_test true e turns =
              let same = eqb-true q p e in
              let found = response_found p (suc i) rest (and_parts (not waiting) (events_alternate true (events_of p rest)) turns).1 some in
              subst (λ k. response_from k (suc i) (rest ++ Answer p reply ∷ []) ≡ response_from k (suc i) rest) (sym same)
              (response_from-stays p (suc i) rest (Answer p reply ∷ []) found.0 found.1 ∙ sym found.1)

-- ---- the calls of a cell

pub operations-answer : (before between : List Event) (process : ℕ) (call : Call) (reply : Reply)
    → IsTrue (events_alternate false (events_of process (before ++ Invoke process call ∷ between))) → events_of process between ≡ []
    → operations ((before ++ Invoke process call ∷ between) ++ Answer process reply ∷ [])
    ≡ map (answered_at (length before) (length (before ++ Invoke process call ∷ between)) reply)
    (operations (before ++ Invoke process call ∷ between))
operations-answer before between process call reply turns none =
    let events = before ++ Invoke process call ∷ between in
    let inv : 0 + length before ≡ length before = omega arith in
    let place : 0 + length events ≡ length events = omega arith in
    filled process reply 0 before call between false turns none ∙ ap₂ (λ i k. map (answered_at i k reply) (operations events)) inv place

-- A monitor goes on after an event: its open calls, and how many calls there are.
use Rattle.follow_monitor.proofs.Common.{invoked_before, operations-invoke, begun_at, answered_at, All-from_contains, slice_get-append_left}
use Rattle.follow_monitor.proofs.Common.{slice_get-middle, IsWellFormed, low_key, high_key, operations, operations_from, Call, Event, Invoke, Answer}
use Rattle.follow_monitor.proofs.Common.{Reply, Operation, IsOpenCall, IsCallOf, known_call, OpenCall, ◌≡◌, ◌≢◌, ℕ, suc, ◌+◌, ◌≤◌, ◌==◌, cond, List}
use Rattle.follow_monitor.proofs.Common.{[], ◌∷◌, ◌++◌, length, Some, None, sym, ap, ◌∙◌, subst, ⊎_elim, arith, cases_Bool, eq-eqb, eqb-true}
use Rattle.follow_monitor.proofs.Common.{eqb-false, ne_eqb, length-append, length-map, All-contains, none-some, same_Some, slice_get-map}
use Rattle.follow_monitor.proofs.Common.{slice_get_within, option_map, All, slice_get}
use Rattle.follow_monitor.proofs.CallLemmas.{open_call, invoked_later, answered_later}
use Rattle.follow_monitor.proofs.OpenLemmas.{open_on, opened, open_before, calls_are, same_at, open_after, open_still}

-- the open calls as they are known after events
abbrev pub KnowsOpen : List Event → List (ℕ × OpenCall) → Type 0
KnowsOpen events calls = (process : ℕ) (c : OpenCall) → known_call calls process ≡ Some c → IsCallOf events process c

abbrev pub KnowsAll : List Event → List (ℕ × OpenCall) → Type 0
KnowsAll events calls = (process event : ℕ) (call : Call) → IsOpenCall events process event call
    → (c : OpenCall) × (known_call calls process ≡ Some c) × (c.event ≡ event)

abbrev pub IsShaped : Operation → Type 0
IsShaped a = low_key a.call ≤ high_key a.call

-- ---- after an invocation

module _ (events : List Event) (process : ℕ) (call : Call) (formed : IsWellFormed events) (well : IsWellFormed (events ++ Invoke process call ∷ [])) where
  abbrev then : List Event
  then = events ++ Invoke process call ∷ []

  -- an open call is known by the same number
  known_on : (p : ℕ) (c : OpenCall) → IsCallOf events p c → IsCallOf then p c
  known_on p c h = record {
    is_open = open_on events process call well p c.event c.call h.is_open;
    numbered = λ a is at. ⊎_elim
        (λ old.
        let here = h.numbered a old at in
        ap (λ (l : List Operation). slice_get l c.number) (operations-invoke events process call)
        ∙ (slice_get-append_left (operations events) (begun_at (length events) call ∷ []) c.number (slice_get_within (operations events) c.number a here)
        ∙ here))
        (λ new.
        let within = slice_get_within events c.event (Invoke p c.call) h.is_open.invoked in
        let last = ap (λ (b : Operation). b.inv) new in
        absurd (omega (arith, within, last, at)))
        (invoked_later events process call a is);
  }

  -- the new call is known by the next number
  known_new : (c : OpenCall) → c.event ≡ length events → c.call ≡ call → c.number ≡ length (operations events) → IsCallOf then process c
  known_new c place asks number = record {
    is_open = subst (λ (n : ℕ). IsOpenCall then process n c.call) (sym place)
        (subst (IsOpenCall then process (length events)) (sym asks) (opened events process call well));
    numbered = λ a is at. ⊎_elim
        (λ old. let less = invoked_before 0 events a old in absurd (omega (arith, less, at, place)))
        (λ new.
        ap (λ (l : List Operation). slice_get l c.number) (operations-invoke events process call)
        ∙ (ap (slice_get (operations events ++ begun_at (length events) call ∷ [])) number
        ∙ (slice_get-middle (operations events) (begun_at (length events) call) [] ∙ ap Some (sym new))))
        (invoked_later events process call a is);
  }

  module _ (old new : List (ℕ × OpenCall)) (known : OpenCall) (place : known.event ≡ length events) (asks : known.call ≡ call)
      (number : known.number ≡ length (operations events))
      (changed : (p : ℕ) → known_call new p ≡ cond (p == process) (Some known) (known_call old p)) where
    pub knows_open_on : KnowsOpen events old → KnowsOpen then new
    knows_open_on h p c here = ⊎_elim
        (λ own.
        let one : known ≡ c = same_Some known c (sym (changed p ∙ ap (λ b. cond b (Some known) (known_call old p)) own) ∙ here) in
        subst (λ (q : ℕ). IsCallOf then q c) (sym (eqb-true p process own)) (subst (IsCallOf then process) one (known_new known place asks number)))
        (λ other. known_on p c (h p c (sym (changed p ∙ ap (λ b. cond b (Some known) (known_call old p)) other) ∙ here)))
        (cases_Bool (p == process))

    pub knows_all_on : ((p : ℕ) (c : OpenCall) → known_call old p ≡ Some c → p ≢ process) → KnowsAll events old → KnowsAll then new
    knows_all_on apart h p at which is = ⊎_elim
        (λ before.
        let (c, here, same) = h p at which before in
        (c, changed p ∙ (ap (λ b. cond b (Some known) (known_call old p)) (ne_eqb p process (apart p c here)) ∙ here), same))
        (λ last. (
          known,
          changed p ∙ ap (λ b. cond b (Some known) (known_call old p)) (eq-eqb p process last.0),
          place ∙ sym last.1,
        ))
        (open_before events process call well formed p at which is)

  pub shaped_on : low_key call ≤ high_key call → All IsShaped (operations events) → All IsShaped (operations then)
  shaped_on own shaped = All-from_contains IsShaped (operations then) (λ a is. ⊎_elim
      (λ old. All-contains IsShaped (operations events) a shaped old)
      (λ new. subst IsShaped (sym new) own)
      (invoked_later events process call a is))

pub one_call_more : (events : List Event) (process : ℕ) (call : Call)
    → length (operations (events ++ Invoke process call ∷ [])) ≡ length (operations events) + 1
one_call_more events process call =
    ap (λ (l : List Operation). length l) (operations-invoke events process call)
    ∙ length-append (operations events) (begun_at (length events) call ∷ [])

-- there are as many events as calls, or more
calls_from : (i : ℕ) (events : List Event) → length (operations_from i events) ≤ length events
calls_from i [] = omega arith
calls_from i (Answer p reply ∷ events) = let rest = calls_from (suc i) events in omega (arith, rest)
calls_from i (Invoke p call ∷ events) = let rest = calls_from (suc i) events in omega (arith, rest)

pub few_calls : (events : List Event) → length (operations events) ≤ length events
few_calls events = calls_from 0 events

-- ---- after the answer of an open call

module _ (events : List Event) (process name : ℕ) (call : Call) (reply : Reply) (own : IsOpenCall events process name call) where
  abbrev answered : List Event
  answered = events ++ Answer process reply ∷ []

  known_after : (p : ℕ) (c : OpenCall) → p ≢ process → IsCallOf events p c → IsCallOf answered p c
  known_after p c apart h =
      let elsewhere : c.event ≢ name = λ same.
      let both : Some (Invoke p c.call) ≡ Some (Invoke process call) = sym h.is_open.invoked ∙ (ap (slice_get events) same ∙ own.invoked) in
      let one : p ≡ process = cc in apart one in
      record {
        is_open = open_after events process name call reply own p c.event c.call apart h.is_open;
        numbered = λ a is at. ⊎_elim
            (λ done. absurd (elsewhere (sym at ∙ ap (λ (b : Operation). b.inv) done)))
            (λ old.
            ap (λ (l : List Operation). slice_get l c.number) (calls_are events process name call reply own)
            ∙ (slice_get-map (answered_at name (length events) reply) (operations events) c.number
            ∙ (ap (option_map (answered_at name (length events) reply)) (h.numbered a old.0 at)
            ∙ ap Some (same_at events process name call reply own a old.1))))
            (answered_later events process name call reply a own is);
      }

  module _ (old new : List (ℕ × OpenCall))
      (changed : (p : ℕ) → known_call new p ≡ cond (p == process) None (known_call old p)) where
    pub knows_open_after : KnowsOpen events old → KnowsOpen answered new
    knows_open_after h p c here = ⊎_elim
        (λ gone. absurd (none-some c (sym (changed p ∙ ap (λ b. cond b None (known_call old p)) gone) ∙ here)))
        (λ other. known_after p c (eqb-false p process other)
        (h p c (sym (changed p ∙ ap (λ b. cond b None (known_call old p)) other) ∙ here)))
        (cases_Bool (p == process))

    pub knows_all_after : KnowsAll events old → KnowsAll answered new
    knows_all_after h p at which is =
        let (before, elsewhere) = open_still events process name call reply own p at which is in
        let (c, here, same) = h p at which before in
        let (d, there, own_place) = h process name call own in
        let apart : p ≢ process = λ one.
        let both : c ≡ d = same_Some c d (sym here ∙ (ap (known_call old) one ∙ there)) in
        elsewhere (sym same ∙ (ap (λ (x : OpenCall). x.event) both ∙ own_place)) in
        (c, changed p ∙ (ap (λ b. cond b None (known_call old p)) (ne_eqb p process apart) ∙ here), same)

  pub shaped_after : All IsShaped (operations events) → All IsShaped (operations answered)
  shaped_after shaped = All-from_contains IsShaped (operations answered) (λ a is. ⊎_elim
      (λ done.
      let (b, b_is, at, asks, pending) = open_call events process name call own in
      let here : low_key call ≤ high_key call =
      subst (λ (c : Call). low_key c ≤ high_key c) asks (All-contains IsShaped (operations events) b shaped b_is) in
      subst IsShaped (sym done) here)
      (λ old. All-contains IsShaped (operations events) a shaped old.0)
      (answered_later events process name call reply a own is))

  pub as_many_calls : length (operations answered) ≡ length (operations events)
  as_many_calls =
      ap (λ (l : List Operation). length l) (calls_are events process name call reply own)
      ∙ length-map (operations events) (answered_at name (length events) reply)

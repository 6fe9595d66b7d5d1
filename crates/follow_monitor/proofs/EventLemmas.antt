-- Each response is that of one call, and there are at most as many as invocations.
use Rattle.follow_monitor.proofs.Common.{Contains-first, Contains-later, Contains-split, Contains-around, is_invocation, events_of, events_alternate}
use Rattle.follow_monitor.proofs.Common.{IsWellFormed, call_count, response_from, operations_from, Call, Event, Invoke, Answer, Reply, ◌≡◌, ℕ, zero}
use Rattle.follow_monitor.proofs.Common.{suc, ◌+◌, ◌*◌, ◌≤◌, Bool, true, false, not, ◌&&◌, ◌||◌, cond, ◌==◌, List, [], ◌∷◌, length, Some, refl, sym}
use Rattle.follow_monitor.proofs.Common.{ap, subst, inl, inr, ⊎_elim, arith, ◌++◌, ◌∙◌, false≢true, or_cases, and_parts, length-append, sum_by-cons}
use Rattle.follow_monitor.proofs.Common.{none-some, ◌⊎◌, slice_get, IsSomeAnd, Contains}
use Rattle.std.proofs.Common.{eqb-true, eq-eqb}
use Rattle.std.proofs.Math.Nat.{zero-add}

-- a call of a list that starts at a place is answered at this place
abbrev IsAnsweredAt : ℕ → List Event → ℕ → Type 0
IsAnsweredAt i events place = (n : ℕ) × IsSomeAnd (slice_get (operations_from i events) n) (λ a. IsSomeAnd a.response
    (λ response. response.res ≡ place))

-- a call of the list is answered at this place, or the process waits and its first response is the
-- one there
abbrev IsAnswered : ℕ → ℕ → Bool → List Event → ℕ → Type 0
IsAnswered p i waiting events place =
    IsAnsweredAt i events place ⊎ ((waiting ≡ true) × IsSomeAnd (response_from p i events) (λ response. response.res ≡ place))

-- the process of a response
same_process : (q p : ℕ) (answer reply : Reply) → Some (Answer q answer) ≡ Some (Answer p reply) → q ≡ p
same_process q p answer reply h = cc

-- the response at a place is that of a call, or of the call that the process waits for
answered : (p i j : ℕ) (waiting : Bool) (events : List Event) (reply : Reply) → events_alternate waiting (events_of p events) ≡ true
    → slice_get events j ≡ Some (Answer p reply) → IsAnswered p i waiting events (i + j)
answered p i j waiting [] reply turns here = absurd (none-some _ here)
answered p i zero waiting (Invoke q call ∷ events) reply turns here = absurd (cc here)
answered p i (suc j) waiting (Invoke q call ∷ events) reply turns here =
    by_case (λ w k. subst (IsAnswered p (suc i) w events) (omega arith) (answered p (suc i) j w events reply k here)) (q == p) refl turns
  where
    later : IsAnsweredAt (suc i) events (i + suc j) → IsAnswered p i waiting (Invoke q call ∷ events) (i + suc j)
    later (n, is) = inl (suc n, is)

    by_case : ((w : Bool) → events_alternate w (events_of p events) ≡ true → IsAnswered p (suc i) w events (i + suc j))
        → (c : Bool) → (q == p) ≡ c
        → events_alternate waiting (cond c (Invoke q call ∷ events_of p events) (events_of p events)) ≡ true
        → IsAnswered p i waiting (Invoke q call ∷ events) (i + suc j)
    by_case go false other k = ⊎_elim later (λ waits. inr waits) (go waiting k)
    by_case go true own k =
        ⊎_elim later
        (λ waits. inl (
          zero,
          subst (λ r. IsSomeAnd (response_from r (suc i) events) (λ response. response.res ≡ i + suc j))
              (sym (eqb-true q p own)) waits.1,
        ))
        (go true (and_parts (not waiting) _ k).1)
answered p i zero waiting (Answer q answer ∷ events) reply turns here =
    let own : (q == p) ≡ true = eq-eqb q p (same_process q p answer reply here) in
    let waits : waiting ≡ true = (and_parts waiting _ (rw own at turns)).0 in
    inr (waits, rw own (omega arith))
answered p i (suc j) waiting (Answer q answer ∷ events) reply turns here =
    by_case (λ w k. subst (IsAnswered p (suc i) w events) (omega arith) (answered p (suc i) j w events reply k here)) (q == p) refl turns
  where
    by_case : ((w : Bool) → events_alternate w (events_of p events) ≡ true → IsAnswered p (suc i) w events (i + suc j))
        → (c : Bool) → (q == p) ≡ c
        → events_alternate waiting (cond c (Answer q answer ∷ events_of p events) (events_of p events)) ≡ true
        → IsAnswered p i waiting (Answer q answer ∷ events) (i + suc j)
    by_case go false other k = ⊎_elim (λ is. inl is) (λ waits. inr (waits.0, rw other waits.1)) (go waiting k)
    by_case go true own k = ⊎_elim (λ is. inl is) (λ waits. absurd (false≢true waits.0)) (go false (and_parts waiting _ k).1)

pub answer_has_call : (events : List Event) (place p : ℕ) (reply : Reply) → IsWellFormed events
    → slice_get events place ≡ Some (Answer p reply)
    → IsAnsweredAt 0 events place
answer_has_call events place p reply formed here =
    subst (IsAnsweredAt 0 events) (zero-add place)
    (⊎_elim (λ is. is) (λ waits. absurd (false≢true waits.0)) (answered p 0 place false events reply (formed p) here))

-- a process that has called waits, and one that is answered waits no more
after_invoke : (c w : Bool) (p : ℕ) (call : Call) (events : List Event) → events_alternate w (cond c (Invoke p call ∷ events) events) ≡ true
    → events_alternate (c || w) events ≡ true
after_invoke true true p call events h = absurd (false≢true h)
after_invoke true false p call events h = h
after_invoke false w p call events h = h

after_answer : (c w : Bool) (p : ℕ) (reply : Reply) (events : List Event) → events_alternate w (cond c (Answer p reply ∷ events) events) ≡ true
    → events_alternate (not c && w) events ≡ true
after_answer true w p reply events h = (and_parts w _ h).1
after_answer false w p reply events h = h

-- if the processes that wait are among these, there are as many events as twice the calls to come
-- and one answer for each of these
few_from : (waits : ℕ → Bool) (waiting_ones : List ℕ) (events : List Event) → ((q : ℕ) → events_alternate (waits q) (events_of q events) ≡ true)
    → ((q : ℕ) → waits q ≡ true → Contains waiting_ones q) → length events ≤ 2 * call_count events + length waiting_ones
few_from waits waiting_ones [] turns covers = omega arith
few_from waits waiting_ones (Invoke p call ∷ events) turns covers =
    let rest = few_from (λ q. (p == q) || waits q) (p ∷ waiting_ones) events
    (λ q. after_invoke (p == q) (waits q) p call (events_of q events) (turns q))
    (λ q h. ⊎_elim (λ same. subst (Contains (p ∷ waiting_ones)) (eqb-true p q same) (Contains-first p waiting_ones))
    (λ waiting. Contains-later p waiting_ones q (covers q waiting))
    (or_cases (p == q) (waits q) h)) in
    omega (arith, rest, sum_by-cons (λ x. cond (is_invocation x) 1 0) (Invoke p call) events)
few_from waits waiting_ones (Answer p reply ∷ events) turns covers =
    let own : (p == p) ≡ true = eq-eqb p p refl in
    let waiting : waits p ≡ true = (and_parts (waits p) _ (subst (λ (c : Bool). events_alternate (waits p)
    (cond c (Answer p reply ∷ events_of p events) (events_of p events)) ≡ true) own (turns p))).0 in
    let (front, back, parts) = Contains-split waiting_ones p (covers p waiting) in
    let rest = few_from (λ q. not (p == q) && waits q) (front ++ back) events
    (λ q. after_answer (p == q) (waits q) p reply (events_of q events) (turns q))
    (λ q h. ⊎_elim (λ same. absurd (not_itself p q same (and_parts (not (p == q)) (waits q) h).0)) (λ other. other)
    (Contains-around front p back q (subst (λ (all : List ℕ). Contains all q) parts (covers q (and_parts (not (p == q)) (waits q) h).1)))) in
    omega (
      arith,
      rest,
      sum_by-cons (λ x. cond (is_invocation x) 1 0) (Answer p reply) events,
      ap length parts,
      length-append front (p ∷ back),
      length-append front back,
    )
  where
    not_itself : (p q : ℕ) → p ≡ q → not (p == q) ≡ true → ⊥
    not_itself p q same h = let is : (p == q) ≡ true = eq-eqb p q same in false≢true (rw is at h)

pub few_events : (events : List Event) → IsWellFormed events → length events ≤ 2 * call_count events
few_events events formed =
    let few = few_from (λ q. false) [] events (λ q. formed q) (λ q h. absurd (false≢true h)) in omega (arith, few)

-- ---- one call for each response

-- the response that a process waits for is the one at this place
abbrev IsResponseAt : ℕ → ℕ → List Event → ℕ → Type 0
IsResponseAt p i events place = IsSomeAnd (response_from p i events) (λ response. response.res ≡ place)

-- the response to the call of this number is the one at this place
abbrev IsResponseOf : ℕ → List Event → ℕ → ℕ → Type 0
IsResponseOf i events n place = IsSomeAnd (slice_get (operations_from i events) n) (λ a. IsSomeAnd a.response
    (λ response. response.res ≡ place))

-- neither comes before the list
response_from-later : (p i : ℕ) (events : List Event) (place : ℕ) → IsResponseAt p i events place → i ≤ place
response_from-later p i [] place h = absurd h
response_from-later p i (Invoke q call ∷ events) place h = let later = response_from-later p (suc i) events place h in omega arith
response_from-later p i (Answer q reply ∷ events) place h = by_case (λ k. response_from-later p (suc i) events place k) (q == p) h
  where
    by_case : (IsResponseAt p (suc i) events place → suc i ≤ place) → (c : Bool)
        → IsSomeAnd (cond c (Some (record { res = i; reply = reply })) (response_from p (suc i) events))
        (λ response. response.res ≡ place) → i ≤ place
    by_case go true k = omega (arith, k)
    by_case go false k = let later = go k in omega arith

response_of-later : (i : ℕ) (events : List Event) (n place : ℕ) → IsResponseOf i events n place → i ≤ place
response_of-later i [] n place h = absurd h
response_of-later i (Answer p reply ∷ events) n place h = let later = response_of-later (suc i) events n place h in omega arith
response_of-later i (Invoke p call ∷ events) (suc n) place h = let later = response_of-later (suc i) events n place h in omega arith
response_of-later i (Invoke p call ∷ events) zero place h = let later = response_from-later p (suc i) events place h in omega arith

-- two processes have no response in common
own_response : (p q i : ℕ) (events : List Event) (place : ℕ) → (q == p) ≡ false → IsResponseAt p i events place
    → IsResponseAt q i events place → ⊥
own_response p q i [] place other first second = first
own_response p q i (Invoke r call ∷ events) place other first second = own_response p q (suc i) events place other first second
own_response p q i (Answer r reply ∷ events) place other first second =
    by_cases (λ k l. own_response p q (suc i) events place other k l) (r == p) (r == q) refl refl first second
  where
    At : Bool → ℕ → Type 0
    At c s = IsSomeAnd (cond c (Some (record { res = i; reply = reply })) (response_from s (suc i) events))
        (λ response. response.res ≡ place)

    by_cases : (IsResponseAt p (suc i) events place → IsResponseAt q (suc i) events place → ⊥) → (c d : Bool) → (r == p) ≡ c → (r == q) ≡ d
        → At c p → At d q → ⊥
    by_cases go true true is also k l = false≢true (sym other ∙ eq-eqb q p (sym (eqb-true r q also) ∙ eqb-true r p is))
    by_cases go true false is also k l = let later = response_from-later q (suc i) events place l in absurd (omega (arith, k))
    by_cases go false true is also k l = let later = response_from-later p (suc i) events place k in absurd (omega (arith, l))
    by_cases go false false is also k l = go k l

-- the response that a process waits for is that of no call to come
waited_for : (p i : ℕ) (events : List Event) (n place : ℕ) → events_alternate true (events_of p events) ≡ true → IsResponseAt p i events place
    → IsResponseOf i events n place → ⊥
waited_for p i [] n place turns first second = first
waited_for p i (Invoke q call ∷ events) n place turns first second =
    by_case (λ m k l. waited_for p (suc i) events m place k first l) (q == p) refl turns n second
  where
    Goes : Type 0
    Goes = (m : ℕ) → events_alternate true (events_of p events) ≡ true → IsResponseOf (suc i) events m place → ⊥

    by_number : Goes → (q == p) ≡ false → events_alternate true (events_of p events) ≡ true → (m : ℕ)
        → IsResponseOf i (Invoke q call ∷ events) m place → ⊥
    by_number go other k zero l = own_response p q (suc i) events place other first l
    by_number go other k (suc m) l = go m k l

    by_case : Goes → (c : Bool) → (q == p) ≡ c
        → events_alternate true (cond c (Invoke q call ∷ events_of p events) (events_of p events)) ≡ true → (m : ℕ)
        → IsResponseOf i (Invoke q call ∷ events) m place → ⊥
    by_case go true own k m l = false≢true k
    by_case go false other k m l = by_number go other k m l
waited_for p i (Answer q reply ∷ events) n place turns first second =
    by_case (λ k own. waited_for p (suc i) events n place own k second) (q == p) first turns
  where
    by_case : (IsResponseAt p (suc i) events place → events_alternate true (events_of p events) ≡ true → ⊥) → (c : Bool)
        → IsSomeAnd (cond c (Some (record { res = i; reply = reply })) (response_from p (suc i) events)) (λ response. response.res ≡ place)
        → events_alternate true (cond c (Answer q reply ∷ events_of p events) (events_of p events)) ≡ true → ⊥
    by_case go true k own = let later = response_of-later (suc i) events n place second in absurd (omega (arith, k))
    by_case go false k own = go k own

one_call_from : (waits : ℕ → Bool) (i : ℕ) (events : List Event) (m n place : ℕ)
    → ((q : ℕ) → events_alternate (waits q) (events_of q events) ≡ true)
    → IsResponseOf i events m place → IsResponseOf i events n place → m ≡ n
one_call_from waits i [] m n place turns first second = absurd first
one_call_from waits i (Answer p reply ∷ events) m n place turns first second =
    one_call_from (λ q. not (p == q) && waits q) (suc i) events m n place
    (λ q. after_answer (p == q) (waits q) p reply (events_of q events) (turns q)) first second
one_call_from waits i (Invoke p call ∷ events) m n place turns first second =
    by_numbers (λ m n own k l. one_call_from (λ q. (p == q) || waits q) (suc i) events m n place own k l) m n first second
  where
    next : (q : ℕ) → events_alternate ((p == q) || waits q) (events_of q events) ≡ true
    next q = after_invoke (p == q) (waits q) p call (events_of q events) (turns q)

    waiting : events_alternate true (events_of p events) ≡ true
    waiting = subst (λ (c : Bool). events_alternate (c || waits p) (events_of p events) ≡ true) (eq-eqb p p refl) (next p)

    Goes : Type 0
    Goes = (m n : ℕ) → ((q : ℕ) → events_alternate ((p == q) || waits q) (events_of q events) ≡ true) → IsResponseOf (suc i) events m place
        → IsResponseOf (suc i) events n place → m ≡ n

    by_numbers : Goes → (m n : ℕ) → IsResponseOf i (Invoke p call ∷ events) m place
        → IsResponseOf i (Invoke p call ∷ events) n place → m ≡ n
    by_numbers go zero zero k l = refl
    by_numbers go zero (suc n) k l = absurd (waited_for p (suc i) events n place waiting k l)
    by_numbers go (suc m) zero k l = absurd (waited_for p (suc i) events m place waiting l k)
    by_numbers go (suc m) (suc n) k l = ap suc (go m n next k l)

-- a response is that of one call
pub one_call : (events : List Event) (m n place : ℕ) → IsWellFormed events → IsResponseOf 0 events m place
    → IsResponseOf 0 events n place → m ≡ n
one_call events m n place formed first second = one_call_from (λ q. false) 0 events m n place (λ q. formed q) first second

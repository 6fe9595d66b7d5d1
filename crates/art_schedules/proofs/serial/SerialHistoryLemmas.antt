-- Serial histories: how they grow, and which calls they have.
use Rattle.art_schedules.proofs.Common.{◌≡◌, ℕ, suc, ◌≤◌, true, List, [], ◌∷◌, ◌++◌, length, arith, refl, sym, ap, eq-eqb, IsSomeAnd, Option}
use Rattle.std.proofs.Common.{◌==◌}
use Rattle.art_schedules.proofs.Common.{filter_map, AllZip, Call, Reply, Event, Invoke, Answer, invoked, answered, IsSerial, IsDone}
use Rattle.std.specs.Prelude.{cond, map}
use Rattle.std.specs.List.{cons_option}
use Rattle.std.proofs.lemmas.List.Sums.{sum_by-cons}
use Rattle.events.specs.Events.{is_invocation}
use Rattle.events.specs.Histories.{call_count}
use Rattle.events.specs.Operations.{operations_from, response_from}
use Rattle.events.specs.Logs.{Stamped}

-- each call is answered before the next is invoked
abbrev pub IsSerialSoFar : List Event → Type 0
IsSerialSoFar [] = Unit {0}
IsSerialSoFar (Invoke p call ∷ []) = Unit {0}
IsSerialSoFar (Invoke p call ∷ Answer q reply ∷ events) = (p ≡ q) × IsSerialSoFar events
IsSerialSoFar events = ⊥

-- the calls of a serial history, with their replies
abbrev pub calls_of : List Event → List (Call × Reply)
calls_of (Invoke p call ∷ Answer q reply ∷ events) = (call, reply) ∷ calls_of events
calls_of events = []

pub so-far : (es : List Event) → IsSerial es → IsSerialSoFar es
so-far [] h = tt
so-far (Answer p reply ∷ es) h = absurd h
so-far (Invoke p call ∷ []) h = absurd h
so-far (Invoke p call ∷ Invoke q d ∷ es) h = absurd h
so-far (Invoke p call ∷ Answer q reply ∷ es) h = (h.0, so-far es h.1)

pub so-far-front : (es : List Event) (e : Event) → IsSerialSoFar (es ++ e ∷ []) → IsSerialSoFar es
so-far-front [] e h = tt
so-far-front (Answer p reply ∷ es) e h = absurd h
so-far-front (Invoke p call ∷ []) e h = tt
so-far-front (Invoke p call ∷ Invoke q d ∷ es) e h = absurd h
so-far-front (Invoke p call ∷ Answer q reply ∷ es) e h = (h.0, so-far-front es e h.1)

-- while a call is open no other is invoked
pub one-open : (es : List Event) (p : ℕ) (call : Call) (q : ℕ) (d : Call) → IsSerial es
    → IsSerialSoFar ((es ++ Invoke p call ∷ []) ++ Invoke q d ∷ []) → ⊥
one-open [] p call q d h k = k
one-open (Answer i reply ∷ es) p call q d h k = absurd h
one-open (Invoke i c ∷ []) p call q d h k = absurd h
one-open (Invoke i c ∷ Invoke j b ∷ es) p call q d h k = absurd h
one-open (Invoke i c ∷ Answer j reply ∷ es) p call q d h k = one-open es p call q d h.1 k.1

pub not-open : (es : List Event) (p : ℕ) (call : Call) → IsSerial es → IsSerial (es ++ Invoke p call ∷ []) → ⊥
not-open [] p call h k = k
not-open (Answer i reply ∷ es) p call h k = absurd h
not-open (Invoke i c ∷ []) p call h k = absurd h
not-open (Invoke i c ∷ Invoke j b ∷ es) p call h k = absurd h
not-open (Invoke i c ∷ Answer j reply ∷ es) p call h k = not-open es p call h.1 k.1

module _ (p : ℕ) (call : Call) (reply : Reply) where
  abbrev pub with_call : List Event → List Event
  with_call es = (es ++ Invoke p call ∷ []) ++ Answer p reply ∷ []

  pub more-serial : (es : List Event) → IsSerial es → IsSerial (with_call es)
  more-serial [] h = (refl, tt)
  more-serial (Answer i r ∷ es) h = absurd h
  more-serial (Invoke i c ∷ []) h = absurd h
  more-serial (Invoke i c ∷ Invoke j b ∷ es) h = absurd h
  more-serial (Invoke i c ∷ Answer j r ∷ es) h = (h.0, more-serial es h.1)

  pub more-calls : (es : List Event) → IsSerial es → calls_of (with_call es) ≡ calls_of es ++ (call, reply) ∷ []
  more-calls [] h = refl
  more-calls (Answer i r ∷ es) h = absurd h
  more-calls (Invoke i c ∷ []) h = absurd h
  more-calls (Invoke i c ∷ Invoke j b ∷ es) h = absurd h
  more-calls (Invoke i c ∷ Answer j r ∷ es) h = ap (λ l. (c, r) ∷ l) (more-calls es h.1)

-- the calls of a serial history are no more than were invoked
pub calls-counted : (es : List Event) → IsSerial es → length (calls_of es) ≤ call_count es
calls-counted [] h = omega arith
calls-counted (Answer i r ∷ es) h = absurd h
calls-counted (Invoke i c ∷ []) h = absurd h
calls-counted (Invoke i c ∷ Invoke j b ∷ es) h = absurd h
calls-counted (Invoke i c ∷ Answer j r ∷ es) h =
    let rest = calls-counted es h.1 in
    omega (
      arith,
      sum_by-cons (λ e. cond (is_invocation e) 1 0) (Invoke i c) (Answer j r ∷ es),
      sum_by-cons
          (λ e. cond (is_invocation e) 1 0) (Answer j r) es,
    )

-- the calls of a serial history are the history's, in its order
pub calls-are-done : (i : ℕ) (es : List Event) → IsSerial es → AllZip IsDone (operations_from i es) (calls_of es)
calls-are-done i [] h = tt
calls-are-done i (Answer p r ∷ es) h = absurd h
calls-are-done i (Invoke p c ∷ []) h = absurd h
calls-are-done i (Invoke p c ∷ Invoke q b ∷ es) h = absurd h
calls-are-done i (Invoke p c ∷ Answer q r ∷ es) h = ((refl, answered), calls-are-done (suc (suc i)) es h.1)
  where
    answered : IsSomeAnd (response_from p (suc i) (Answer q r ∷ es)) (λ response. response.reply ≡ r)
    answered = let own : (q == p) ≡ true = eq-eqb q p (sym h.0) in rw own refl

-- serial events with one invocation more are serial so far
pub so-far-more : (es : List Event) (p : ℕ) (call : Call) → IsSerial es → IsSerialSoFar (es ++ Invoke p call ∷ [])
so-far-more [] p call h = tt
so-far-more (Answer i r ∷ es) p call h = absurd h
so-far-more (Invoke i c ∷ []) p call h = absurd h
so-far-more (Invoke i c ∷ Invoke j b ∷ es) p call h = absurd h
so-far-more (Invoke i c ∷ Answer j r ∷ es) p call h = (h.0, so-far-more es p call h.1)

-- the calls are those invoked, and their replies those answered
pub calls-invoked : (es : List Event) → IsSerial es → map (λ c. c.0) (calls_of es) ≡ filter_map invoked es
calls-invoked [] h = refl
calls-invoked (Answer i r ∷ es) h = absurd h
calls-invoked (Invoke i c ∷ []) h = absurd h
calls-invoked (Invoke i c ∷ Invoke j b ∷ es) h = absurd h
calls-invoked (Invoke i c ∷ Answer j r ∷ es) h = ap (λ l. c ∷ l) (calls-invoked es h.1)

pub replies-answered : (es : List Event) → IsSerial es → map (λ c. c.1) (calls_of es) ≡ filter_map answered es
replies-answered [] h = refl
replies-answered (Answer i r ∷ es) h = absurd h
replies-answered (Invoke i c ∷ []) h = absurd h
replies-answered (Invoke i c ∷ Invoke j b ∷ es) h = absurd h
replies-answered (Invoke i c ∷ Answer j r ∷ es) h = ap (λ l. r ∷ l) (replies-answered es h.1)

-- Events of a log without their stamps.
pub filter_map-events : {A : Type 0} (f : Event → Option A) (log : List Stamped)
    → filter_map (λ e. f e.1) log ≡ filter_map f (map (λ e. e.1) log)
filter_map-events f [] = refl
filter_map-events f (e ∷ log) = ap (cons_option (f e.1)) (filter_map-events f log)

-- From the answers of each process to those of all calls.
use Rattle.running.proofs.Common.{◌≡◌, ℕ, suc, ◌<◌, ◌≤◌, Bool, true, false, cond, ◌==◌, List, [], ◌∷◌, ◌++◌, append_assoc, refl, ap, ◌∙◌, arith}
use Rattle.std.proofs.Common.{Some}
use Rattle.std.proofs.lemmas.Bool.{ne_eqb}
use Rattle.running.proofs.Common.{subst, eq-eqb, IfSome, All, All-nil, All-cons, All-weaker, filter_none, Call, Reply, Event, Invoke, Answer}
use Rattle.running.proofs.Common.{process_of, events_of, ends_waiting, Pass, events_by, is_waiting, HasRecorded, AreAnswered, AreOwn, first_reply}
use Rattle.running.proofs.Common.{AnswersFit}
use Rattle.events.specs.Operations.{response_from, operation_of, operations_from}
use Rattle.running.proofs.ScriptLemmas.{one-more, own-events}

-- if no call is open, the first reply is there already
first_reply-append : (es fs : List Event) → ends_waiting true es ≡ false → first_reply (es ++ fs) ≡ first_reply es
first_reply-append [] fs idle = cc
first_reply-append (Invoke p call ∷ es) fs idle = first_reply-append es fs idle
first_reply-append (Answer p reply ∷ es) fs idle = refl

-- no event of a list is of a process
pub events_of-none : (n p : ℕ) (es : List Event) → All (λ e. process_of e < n) es → n ≤ p → events_of p es ≡ []
events_of-none n p es known above =
    filter_none (λ e. process_of e == p) es
    (All-weaker (λ e. process_of e < n) (λ e. (process_of e == p) ≡ false)
    (λ e below. ne_eqb (process_of e) p (λ same. omega arith)) es known)

-- the reply of the response that is looked for is the first one among the process's events
response-reply : (P : Reply → Type 0) (p i : ℕ) (es : List Event) → IfSome (first_reply (events_of p es)) P
    → IfSome (response_from p i es) (λ r. P r.reply)
response-reply P p i [] h = tt
response-reply P p i (Invoke q call ∷ es) h = response-reply P p (suc i) es (later (q == p) h)
  where
    later : (b : Bool) → IfSome (first_reply (cond b (Invoke q call ∷ events_of p es) (events_of p es))) P
        → IfSome (first_reply (events_of p es)) P
    later true k = k
    later false k = k
response-reply P p i (Answer q reply ∷ es) h = here (q == p) (response-reply P p (suc i) es) h
  where
    here : (b : Bool) → (IfSome (first_reply (events_of p es)) P → IfSome (response_from p (suc i) es) (λ r. P r.reply))
        → IfSome (first_reply (cond b (Answer q reply ∷ events_of p es) (events_of p es))) P
        → IfSome (cond b (Some (record { res = i; reply = reply })) (response_from p (suc i) es)) (λ r. P r.reply)
    here true rest k = k
    here false rest k = rest k

module _ (may_answer : Call → Reply → Type 0) where
  AnswersFit-append : (w : Bool) (es fs : List Event) → ends_waiting w es ≡ false → AnswersFit may_answer es → AnswersFit may_answer fs
      → AnswersFit may_answer (es ++ fs)
  AnswersFit-append w [] fs idle h k = k
  AnswersFit-append w (Invoke p call ∷ es) fs idle h k =
      (rw (first_reply-append es fs idle) h.0, AnswersFit-append true es fs idle h.1 k)
  AnswersFit-append w (Answer p reply ∷ es) fs idle h k = AnswersFit-append false es fs idle h k

  -- a call and its answer are recorded
  pub AnswersFit-more : {old mid new : Pass} {call : Call} {p q : ℕ} {reply : Reply} → HasRecorded old (Invoke p call) mid
      → HasRecorded mid (Answer q reply) new
      → AreOwn old → is_waiting old ≡ false → AnswersFit may_answer (events_by old) → may_answer call reply
      → AnswersFit may_answer (events_by new)
  AnswersFit-more {old} {mid} {new} {call} {p} {q} {reply} begun ended own idle fit may =
      let more : events_by new ≡ events_by old ++ Invoke p call ∷ Answer q reply ∷ [] =
      one-more ended ∙ (ap (λ l. l ++ Answer q reply ∷ []) (one-more begun) ∙ append_assoc (events_by old) (Invoke p call ∷ [])
      (Answer q reply ∷ [])) in
      let still : ends_waiting false (events_by old) ≡ false = subst (λ es. ends_waiting false es ≡ false) (own-events old own) idle in
      rw more (AnswersFit-append false (events_by old) (Invoke p call ∷ Answer q reply ∷ []) still fit (may, tt))

  -- what fits of a list fits of its rest
  rest-fits : (b : Bool) (e : Event) (es : List Event) → AnswersFit may_answer (cond b (e ∷ es) es) → AnswersFit may_answer es
  rest-fits true (Invoke p call) es h = h.1
  rest-fits true (Answer p reply) es h = h
  rest-fits false e es h = h

  first-fits : (b : Bool) (p : ℕ) (call : Call) (es : List Event) → b ≡ true → AnswersFit may_answer (cond b (Invoke p call ∷ es) es)
      → IfSome (first_reply es) (may_answer call)
  first-fits true p call es is h = h.0
  first-fits false p call es is h = cc

  answered-from : (i : ℕ) (es : List Event) → ((p : ℕ) → AnswersFit may_answer (events_of p es))
      → All (λ a. IfSome a.response (λ r. may_answer a.call r.reply)) (operations_from i es)
  answered-from i [] h = All-nil (λ a. IfSome a.response (λ r. may_answer a.call r.reply))
  answered-from i (Answer p reply ∷ es) h = answered-from (suc i) es (λ q. rest-fits (p == q) (Answer p reply) (events_of q es) (h q))
  answered-from i (Invoke p call ∷ es) h =
      All-cons (λ a. IfSome a.response (λ r. may_answer a.call r.reply)) (operation_of p call i es) (operations_from (suc i) es)
      (response-reply (may_answer call) p (suc i) es (first-fits (p == p) p call (events_of p es) (eq-eqb p p refl) (h p)))
      (answered-from (suc i) es (λ q. rest-fits (p == q) (Invoke p call) (events_of q es) (h q)))

  -- if the answers of each process fit, so do all
  pub AreAnswered-own : (es : List Event) → ((p : ℕ) → AnswersFit may_answer (events_of p es)) → AreAnswered may_answer es
  AreAnswered-own es h = answered-from 0 es h

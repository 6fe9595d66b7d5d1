-- What a pass shows after each call of a script.
use Rattle.running.proofs.Common.{◌≡◌, ℕ, true, cond, ◌==◌, List, [], ◌∷◌, ◌++◌, length, nat_le, refl, sym, ap, ◌∙◌, arith, eq-eqb, and_parts}
use Rattle.running.specs.Drives.{invoked}
use Rattle.running.proofs.Common.{map-append, append-nil, All-push, All-weaker, filter_all, sum_by-cons, Call, Reply, Event, Invoke, Answer}
use Rattle.running.proofs.Common.{process_of, is_invocation, events_of, is_tree_call, Pass, process_number, log_of, events_by, HasRecorded}
use Rattle.running.proofs.Common.{calls_by, AreOwn}
use Rattle.events.specs.declared.event.Call.TheVariants.{Get, Insert, Remove, Scan, Replace}
use Rattle.events.specs.Histories.{has_range, call_count}
use Rattle.recorder.specs.Records.{events_in}

-- Lists of events.

pub invoked-append : (es fs : List Event) → invoked (es ++ fs) ≡ invoked es ++ invoked fs
invoked-append [] fs = refl
invoked-append (Invoke p call ∷ es) fs = ap (λ l. call ∷ l) (invoked-append es fs)
invoked-append (Answer p reply ∷ es) fs = invoked-append es fs

pub count-invoked : (es : List Event) → call_count es ≡ length (invoked es)
count-invoked [] = refl
count-invoked (Invoke p call ∷ es) = omega (arith, count-invoked es, sum_by-cons (λ x. cond (is_invocation x) 1 0) (Invoke p call) es)
count-invoked (Answer p reply ∷ es) = omega (arith, count-invoked es, sum_by-cons (λ x. cond (is_invocation x) 1 0) (Answer p reply) es)

-- a call that a tree can do has its keys in order
pub tree-call-range : (call : Call) → is_tree_call call ≡ true → has_range call ≡ true
tree-call-range (Get key) h = refl
tree-call-range (Insert key value) h = refl
tree-call-range (Remove key) h = refl
tree-call-range (Scan low high) h = (and_parts (nat_le low high) _ h).0
tree-call-range (Replace key old new) h = refl

-- One event more.

module _ {old new : Pass} {e : Event} (h : HasRecorded old e new) where
  pub one-more : events_by new ≡ events_by old ++ e ∷ []
  one-more = ap events_in h.log ∙ map-append (λ e. e.1) (log_of old) ((h.stamp, e) ∷ [])

  pub own-more : process_of e ≡ process_number old → AreOwn old → AreOwn new
  own-more its own =
      let same : process_of e ≡ process_number new = its ∙ sym h.process in
      rw one-more (All-push (λ e. process_of e ≡ process_number new) (events_by old) e (rw h.process own) same)

-- A call and its answer.

pub call-more : {old mid new : Pass} {call : Call} {p q : ℕ} {reply : Reply} → HasRecorded old (Invoke p call) mid
    → HasRecorded mid (Answer q reply) new
    → invoked (events_by new) ≡ invoked (events_by old) ++ call ∷ []
call-more {old} {mid} {new} {call} {p} {q} {reply} begun ended =
    ap invoked (one-more ended)
    ∙ (invoked-append (events_by mid) (Answer q reply ∷ [])
    ∙ (ap (λ l. l ++ []) (ap invoked (one-more begun) ∙ invoked-append (events_by old) (Invoke p call ∷ []))
    ∙ append-nil (invoked (events_by old) ++ call ∷ [])))

-- in a pass whose events are of its process, these are all events of the process, and its calls are all that are invoked
pub own-events : (p : Pass) → AreOwn p → events_of (process_number p) (events_by p) ≡ events_by p
own-events p own =
    let q = process_number p in
    filter_all (λ e. process_of e == q) (events_by p)
    (All-weaker (λ e. process_of e ≡ q) (λ e. (process_of e == q) ≡ true) (λ e same. eq-eqb (process_of e) q same) (events_by p) own)

pub own-calls : (p : Pass) → AreOwn p → calls_by (process_number p) (events_by p) ≡ invoked (events_by p)
own-calls p own = ap invoked (own-events p own)

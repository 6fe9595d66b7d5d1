-- Where calls begin and end among the events, and the bars of a picture.
use Rattle.draw_picture.proofs.Common.{◌≡◌, ℕ, ◌+◌, ◌<◌, List, [], ◌∷◌, ◌++◌, Option, Some, length, subst, sym, ap, ◌∙◌, ⊎_elim, arith, IfSome, Contains}
use Rattle.draw_picture.proofs.Common.{slice_get, IfSome_then, slice_get_within, length-append, All-at, Event, Invoke, process_of, AreHistoryEvents}
use Rattle.draw_picture.proofs.Common.{Verdict, Bar, AreSpansOf, IsBarOf, AreBarsOf, lanes, place-push, same_Some, Operation, operations}
use Rattle.draw_picture.proofs.LaneLemmas.{lane-is}
use Rattle.draw_picture.proofs.EventLemmas.{IsCallIn, calls-in}

-- a call's events
pub call-in : (events : List Event) (n : ℕ) (a : Operation) → slice_get (operations events) n ≡ Some a → IsCallIn events a
call-in events n a here = All-at (IsCallIn events) (operations events) n a (calls-in events) here

-- a call is invoked within the events
pub inv-within : (events : List Event) (n : ℕ) (a : Operation) → slice_get (operations events) n ≡ Some a → a.inv < length events
inv-within events n a here = slice_get_within events a.inv _ (call-in events n a here).invoked

-- a call is answered within the events
pub res-within : (events : List Event) (n : ℕ) (a : Operation) → slice_get (operations events) n ≡ Some a
    → IfSome a.response (λ r. r.res < length events)
res-within events n a here =
    IfSome_then a.response (call-in events n a here).answered (λ r is. slice_get_within events r.res _ is.event)

-- the process that invokes a call is that of the event there
pub invoked-by : (events : List Event) (n : ℕ) (a : Operation) (process : ℕ) → slice_get (operations events) n ≡ Some a
    → IfSome (slice_get events a.inv) (λ e. process ≡ process_of e) → slice_get events a.inv ≡ Some (Invoke process a.call)
invoked-by events n a process here is =
    let call = call-in events n a here in
    let same : process ≡ call.process = subst (λ (e : Option Event). IfSome e (λ e. process ≡ process_of e)) call.invoked is in
    rw same call.invoked

-- the process that invokes a call has a lane
pub lane-in : (events : List Event) (n : ℕ) (a : Operation) (process : ℕ) → AreHistoryEvents events
    → slice_get (operations events) n ≡ Some a
    → IfSome (slice_get events a.inv) (λ e. process ≡ process_of e) → Contains (lanes events) process
lane-in events n a process history here is = lane-is events a.inv (Invoke process a.call) history (invoked-by events n a process here is)

-- the bars of the first calls
pub record AreBarsBelow (events : List Event) (points : List ℕ) (verdict : Verdict) (wrong : Option ℕ) (size : ℕ)
    (bars : List Bar) : Type 0 where
  pub many : length bars ≡ size
  pub each : (n : ℕ) (a : Operation) (bar : Bar) → slice_get (operations events) n ≡ Some a → slice_get bars n ≡ Some bar
      → IsBarOf events points verdict wrong n a bar

-- one bar more
pub bar-more : (events : List Event) (points : List ℕ) (verdict : Verdict) (wrong : Option ℕ) (size : ℕ) (bars : List Bar)
    (a : Operation) (bar : Bar)
    → AreBarsBelow events points verdict wrong size bars → slice_get (operations events) size ≡ Some a
    → IsBarOf events points verdict wrong size a bar
    → AreBarsBelow events points verdict wrong (size + 1) (bars ++ bar ∷ [])
bar-more events points verdict wrong size bars a bar so_far here is =
    let many = length-append bars (bar ∷ []) in
    record {
      many = omega (arith, many, so_far.many);
      each = λ n b other b_here other_here. ⊎_elim (λ old. so_far.each n b other b_here old)
          (λ new.
          let same_n : size ≡ n = sym so_far.many ∙ new.0 in
          let same_b : b ≡ a = same_Some b a (sym b_here ∙ (ap (slice_get (operations events)) (sym same_n) ∙ here)) in
          rw (new.1, same_b, ← same_n) is)
          (place-push bars bar n other other_here);
    }

-- bars go from invocations to responses
pub spans-of : (events : List Event) (points : List ℕ) (verdict : Verdict) (wrong : Option ℕ) (bars : List Bar)
    → AreBarsOf events points verdict wrong bars
    → AreSpansOf (operations events) points bars
spans-of events points verdict wrong bars are =
    record { one_each = are.one_each; each = λ n a bar here bar_here. (are.each n a bar here bar_here).span }

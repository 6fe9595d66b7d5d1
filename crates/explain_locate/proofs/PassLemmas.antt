-- What an event of a history makes of a monitor that has taken the events before it: it is not refused, and if the monitor ends, the history is
-- located.
use Rattle.explain_locate.proofs.Common.{◌≡◌, ℕ, suc, ◌+◌, ◌*◌, ◌<◌, ◌≤◌, Bool, true, false, not, ◌||◌, cond, List, [], ◌∷◌, ◌++◌, length, take, drop, Some}
use Rattle.explain_locate.proofs.Common.{None, refl, sym, ap, ◌∙◌, subst, arith, slice_get, leb-true, le-ltb, lt-leb, take-append-drop, take_more}
use Rattle.explain_locate.proofs.Common.{length-take-le, slice_get_within, get_or_from_slice_get, Call, Get, Insert, Remove, Scan, Replace, Event, Invoke}
use Rattle.explain_locate.proofs.Common.{Answer, Reply, AreHistoryEvents, IsHistory, call_count, has_range, is_shaped, is_small, HistoryView, operations}
use Rattle.explain_locate.proofs.Common.{IsLinearizable, HistoriesHaveFewEvents, GoesWrongAt, IsAnswerOf, Violation, IsFollowing, IsLost, IsSpent, IsAnswered}
use Rattle.explain_locate.proofs.Common.{IsLeftOpen, IsAnswerFollowed, IsLostAt, IsUndecidedAt}
use Rattle.std.proofs.Math.Seq.{drop-cons}
use Rattle.events.specs.declared.fault.HistoryFault.{HistoryFault}
use Rattle.events.specs.Events.{process_of}
use Rattle.events.specs.HistoryFaults.{has_open_call, is_call_too_many, is_out_of_turn}
use Rattle.events.specs.Keys.{low_key, high_key}
use Rattle.events.specs.Limits.{call_limit}
use Rattle.events.proofs.HistoryLemmas.{AreHistoryEvents-next}
use Rattle.follow_monitor.specs.Faults.{event_limit, invocation_fault, answer_fault}
use Rattle.follow_monitor.specs.MonitorView.{MonitorView}
use Rattle.follow_monitor.specs.declared.answered.Answered.{Answered}
use Rattle.follow_monitor.specs.declared.answered.Answered.TheVariants.{Lost, Spent}
use Rattle.events.specs.declared.fault.HistoryFault.TheVariants as faults

-- an event without a fault has its range, and is its process's turn
two_tests : (s m c t : Bool) (x y z : HistoryFault)
    → cond (not s) (Some x) (cond (not m || c) (Some y) (cond t (Some z) None)) ≡ None → (s ≡ true) × (t ≡ false)
two_tests false m c t x y z h = cc
two_tests true false c t x y z h = cc
two_tests true true true t x y z h = cc
two_tests true true false true x y z h = cc
two_tests true true false false x y z h = (refl, refl)

-- a call whose range is sound begins it at its least key
range_rises : (call : Call) → has_range call ≡ true → low_key call ≤ high_key call
range_rises (Get key) h = omega arith
range_rises (Insert key value) h = omega arith
range_rises (Remove key) h = omega arith
range_rises (Scan low high) h = leb-true low high h
range_rises (Replace key old new) h = omega arith

module _ (history : HistoryView) (place : ℕ) (e : Event) (here : slice_get history.events place ≡ Some e) where
  within : place < length history.events
  within = slice_get_within history.events place e here

  -- the events are those before it, it, and those after it
  parts : take place history.events ++ e ∷ drop (suc place) history.events ≡ history.events
  parts =
      let is = get_or_from_slice_get history.events place e e here in
      ap (λ (x : Event). take place history.events ++ x ∷ drop (suc place) history.events) (sym is)
      ∙ (ap (λ (l : List Event). take place history.events ++ l) (sym (drop-cons history.events place e within))
      ∙ take-append-drop place history.events)

  pub next : take place history.events ++ e ∷ [] ≡ take (place + 1) history.events
  next =
      let is = get_or_from_slice_get history.events place e e here in
      ap (λ (x : Event). take place history.events ++ x ∷ []) (sym is) ∙ sym (take_more history.events place e within)

  size : length (take place history.events) ≡ place
  size = let below : place ≤ length history.events = omega (arith, within) in length-take-le place history.events below

  module _ (few : HistoriesHaveFewEvents) (is : IsHistory history) where
    sound : (is_shaped e ≡ true) × (is_out_of_turn (has_open_call (process_of e) (take place history.events)) e ≡ false)
    sound =
        let before = take place history.events in
        two_tests (is_shaped e) (is_small e) (is_call_too_many (call_count before) e)
        (is_out_of_turn (has_open_call (process_of e) before) e) (faults.Shape (length before)) faults.TooMany
        (faults.NotWellFormed (length before))
        (AreHistoryEvents-next before (drop (suc place) history.events) e (subst AreHistoryEvents (sym parts) is.events))

    room : length (take place history.events) < event_limit
    room = let most : length history.events ≤ 2 * call_limit = few history is in omega (arith, size, within, most)

-- an invocation of a history is not refused
pub fine_call : (history : HistoryView) (place process : ℕ) (call : Call) → slice_get history.events place ≡ Some (Invoke process call)
    → HistoriesHaveFewEvents → IsHistory history → invocation_fault (take place history.events) process call ≡ None
fine_call history place process call here few is =
    let e = Invoke process call in
    let (shaped, turn) = sound history place e here few is in
    let rises = range_rises call shaped in
    let space = room history place e here few is in
    rw (le-ltb (high_key call) (low_key call) rises, turn, lt-leb event_limit (length (take place history.events)) space) refl

-- an answer of a history is not refused
pub fine_answer : (history : HistoryView) (place process : ℕ) (reply : Reply) → slice_get history.events place ≡ Some (Answer process reply)
    → HistoriesHaveFewEvents → IsHistory history → answer_fault (take place history.events) process ≡ None
fine_answer history place process reply here few is =
    let e = Answer process reply in
    let turn = (sound history place e here few is).1 in
    let space = room history place e here few is in
    rw (turn, lt-leb event_limit (length (take place history.events)) space) refl

module _ (history : HistoryView) (place process : ℕ) (reply : Reply) (here : slice_get history.events place ≡ Some (Answer process reply))
    (budget : ℕ) (m : MonitorView) (follows : IsFollowing history.start (take place history.events) m) where
  -- what an answer makes of the monitor, said of the event at its place
  followed : (event : ℕ) (answered : Answered) → event ≡ length (take place history.events)
      → IsAnswered history.start (take place history.events) m process reply budget answered → IsAnswerFollowed budget history event answered
  followed event answered event_is is =
      let at : place ≡ event = sym (event_is ∙ size history place (Answer process reply) here) in
      subst (λ (n : ℕ). IsAnswerFollowed budget history n answered) at (record {
        process = process;
        reply = reply;
        event_is = here;
        monitor = m;
        follows = follows;
        answered_is = is;
      })

  pub lost : (loss : Violation) → IsLeftOpen budget history → IsLost history.start (take place history.events) process reply loss
      → IsLostAt budget history loss
  lost loss left is = record {
    open_to_judge = left;
    wrong = subst (λ (es : List Event). GoesWrongAt (record { start = history.start; events = es }) loss.number loss.event)
        (parts history place (Answer process reply) here) (is.wrong (drop (suc place) history.events)).1;
    followed = followed loss.event (Lost loss) is.of_answer.event_is is;
  }

  pub spent : (loss : Violation) → IsLeftOpen budget history → IsSpent history.start (take place history.events) process reply budget loss
      → IsUndecidedAt budget history loss.event loss.number
  spent loss left is = record {
    open_to_judge = left;
    before = subst (λ (n : ℕ). IsLinearizable history.start (operations (take n history.events)))
        (sym (is.of_answer.event_is ∙ size history place (Answer process reply) here)) follows.linearizable;
    answer = subst (λ (es : List Event). IsAnswerOf es loss.number loss.event) (parts history place (Answer process reply) here)
        (is.of_answer.answers reply (drop (suc place) history.events));
    loss = loss;
    event_is = refl;
    number_is = refl;
    followed = followed loss.event (Spent loss) is.of_answer.event_is is;
  }

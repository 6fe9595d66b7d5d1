use Rattle.follow_monitor.proofs.Common.{slice_get-below, IsHistory, HistoryView, operations, Event, Invoke, Answer, prefix_of, GoesWrongAt}
use Rattle.follow_monitor.proofs.Common.{IsLinearizable, IsLinearizableHistory, ◌≡◌, ℕ, ◌+◌, List, Some, sym, subst, take, slice_get}
use Rattle.follow_monitor.proofs.EventLemmas.{answer_has_call}
use Rattle.follow_monitor.proofs.PrefixLemmas.{invocation_keeps_order, take_with}
use Rattle.follow_monitor.proofs.prefix_laws.orders_are_lost_at_answers.Goals as goal

-- the event is no invocation, since with one more the order stays
lost_at : (history : HistoryView) (place : ℕ) (e : Event) → IsHistory history → slice_get history.events place ≡ Some e
    → IsLinearizableHistory (prefix_of history place) → (IsLinearizableHistory (prefix_of history (place + 1)) → ⊥) → (number : ℕ)
    × GoesWrongAt history number place
lost_at history place (Invoke p call) h here before none =
    absurd
    (none
    (subst (λ (events : List Event). IsLinearizable history.start (operations events))
    (sym (take_with history.events place (Invoke p call) here))
    (invocation_keeps_order history.start (take place history.events) p call before)))
lost_at history place (Answer p reply) h here before none =
    let (number, is) = answer_has_call history.events place p reply h.events.well_formed here in
    (number, record { before = before; after = none; answer = is })

pub returns : goal.returns
returns c history place h within before none =
    let (e, here) = slice_get-below history.events place within in lost_at history place e h here before none

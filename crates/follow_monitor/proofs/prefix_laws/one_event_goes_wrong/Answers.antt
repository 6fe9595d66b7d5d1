use Rattle.follow_monitor.proofs.Common.{HistoryView, operations, Event, prefix_of, GoesWrongAt, IsLinearizable, IsLinearizableHistory, ℕ, ◌+◌, ◌<◌}
use Rattle.follow_monitor.proofs.Common.{◌≤◌, List, ⊎_elim, subst, arith, take, cases_order, take-take}
use Rattle.follow_monitor.proofs.PrefixLemmas.{prefix_has_order}
use Rattle.follow_monitor.proofs.prefix_laws.one_event_goes_wrong.Goals as goal

-- what has an order has one on fewer events
fewer_events : (history : HistoryView) (fewer count : ℕ) → fewer ≤ count → IsLinearizableHistory (prefix_of history count)
    → IsLinearizableHistory (prefix_of history fewer)
fewer_events history fewer count within h =
    subst (λ (events : List Event). IsLinearizable history.start (operations events)) (take-take fewer count history.events within)
    (prefix_has_order history.start (take count history.events) fewer h)

none_behind : (history : HistoryView) (number place count : ℕ) → GoesWrongAt history number place → place < count
    → IsLinearizableHistory (prefix_of history count) → ⊥
none_behind history number place count wrong behind h = wrong.after (fewer_events history (place + 1) count (omega arith) h)

pub returns : goal.returns
returns c history number place wrong = (
  λ other elsewhere also. ⊎_elim (λ same. same) (λ apart. ⊎_elim
      (λ earlier. absurd (none_behind history number place elsewhere wrong earlier also.before))
      (λ later. absurd (none_behind history other elsewhere place also later wrong.before)) apart) (cases_order place elsewhere),
  λ h. wrong.after (prefix_has_order history.start history.events (place + 1) h),
  λ count behind h. none_behind history number place count wrong behind h,
)

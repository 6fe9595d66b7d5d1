-- The search for the event at which a history goes wrong, by bisection. If events have an order, so have the first of them. So the judge's
-- verdict on the first events leaves one half. The verdicts are exact at a budget, so there is one way through the halves.
use Rattle.std.specs.Prelude.{◌≡◌, ◌⊎◌, ℕ, ◌+◌, ◌-◌, ◌/◌, ◌<◌, ◌≤◌, ◌==◌, Bool, false, length, Option, Some, None, ⊤}
use Rattle.events.specs.declared.operation.Response.{Response}
use Rattle.events.specs.HistoryView.{HistoryView}
use Rattle.events.specs.Operations.{operations}
use Rattle.orders.specs.Orders.{IsLinearizableHistory}
use Rattle.follow_monitor.specs.Prefixes.{prefix_of}
use Rattle.judge.specs.declared.verdict.Verdict.{Verdict}
use Rattle.judge.specs.declared.verdict.Verdict.TheVariants.{Yes, No, Undecided}
use Rattle.judge.specs.Exact.{IsExactVerdict}

-- the words of verdicts
abbrev pub IsYes : Verdict → Type 0
IsYes (Yes order) = ⊤
IsYes other = ⊥

abbrev pub IsNo : Verdict → Type 0
IsNo (No segment) = ⊤
IsNo other = ⊥

abbrev pub IsUndecided : Verdict → Type 0
IsUndecided (Undecided segment) = ⊤
IsUndecided other = ⊥

-- the exact verdict on the first `count` events of a history has this word
pub record IsJudged (HasWord : Verdict → Type 0) (budget : ℕ) (history : HistoryView) (count : ℕ) : Type 0 where
  pub verdict : Verdict
  pub exact : IsExactVerdict history.start budget (operations (prefix_of history count).events) verdict
  pub word : HasWord verdict

-- the exact verdict on the whole history has this word
abbrev pub IsJudgedWhole : (Verdict → Type 0) → ℕ → HistoryView → Type 0
IsJudgedWhole HasWord budget history = IsJudged HasWord budget history (length history.events)

-- the number of events in the middle of two
abbrev pub middle : ℕ → ℕ → ℕ
middle low high = low + (high - low) / 2

-- What bisection finds, if the first `low` events have an order and the first `high` have none. If these numbers are next to each other, it is
-- the event between them. Otherwise it looks at the verdict on the first events up to the middle. If that is undecided, it finds nothing; else
-- it goes on in the half that the verdict leaves.
pub data IsBisected (budget : ℕ) (history : HistoryView) : ℕ → ℕ → Option ℕ → Type 0 where
  found : {low high : ℕ} → high ≡ low + 1 → IsBisected budget history low high (Some low)
  spent : {low high : ℕ} → low + 1 < high → IsJudged IsUndecided budget history (middle low high) → IsBisected budget history low high None
  upper : {low high : ℕ} {event : Option ℕ} → low + 1 < high → IsJudged IsYes budget history (middle low high)
      → IsBisected budget history (middle low high) high event
      → IsBisected budget history low high event
  lower : {low high : ℕ} {event : Option ℕ} → low + 1 < high → IsJudged IsNo budget history (middle low high)
      → IsBisected budget history low (middle low high) event
      → IsBisected budget history low high event

-- the judge says no to a history, and bisection finds this event or none
pub record IsRefutedWith (budget : ℕ) (history : HistoryView) (event : Option ℕ) : Type 0 where
  pub refuted : IsJudgedWhole IsNo budget history
  pub bisected : IsBisected budget history 0 (length history.events) event

-- the judge's verdicts at the budget leave open where the history goes wrong: the one on the whole history is undecided, or one that
-- bisection needs
abbrev pub IsLeftOpen : ℕ → HistoryView → Type 0
IsLeftOpen budget history = IsJudgedWhole IsUndecided budget history ⊎ IsRefutedWith budget history None

-- a history has an order with this number of its first events, and none with the other number
pub record IsLostBetween (history : HistoryView) (low high : ℕ) : Type 0 where
  pub apart : low < high
  pub within : high ≤ length history.events
  pub before : IsLinearizableHistory (prefix_of history low)
  pub after : IsLinearizableHistory (prefix_of history high) → ⊥

-- a history loses its orders with this event
pub record LosesOrderAt (history : HistoryView) (event : ℕ) : Type 0 where
  pub within : event < length history.events
  pub before : IsLinearizableHistory (prefix_of history event)
  pub after : IsLinearizableHistory (prefix_of history (event + 1)) → ⊥

-- whether an event is this answer of a call
abbrev pub answers_at : Option Response → ℕ → Bool
answers_at None event = false
answers_at (Some response) event = response.res == event

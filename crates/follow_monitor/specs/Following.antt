-- What a monitor knows after some events, which it does not store.
use Rattle.std.specs.Prelude.{◌≡◌, ℕ, ◌≤◌, List, length, Some, None, All, Contains, slice_get}
use Rattle.events.specs.declared.event.Call.{Call}
use Rattle.events.specs.declared.event.Event.{Event}
use Rattle.events.specs.declared.event.Event.TheVariants.{Invoke}
use Rattle.events.specs.declared.operation.Operation.{Operation}
use Rattle.events.specs.Events.{IsWellFormed}
use Rattle.events.specs.Keys.{low_key, high_key}
use Rattle.events.specs.Operations.{operations}
use Rattle.map_object.specs.MapObject.{Contents, IsRising}
use Rattle.orders.specs.Orders.{IsLinearizable}
use Rattle.follow_parts.specs.Keeping.{IsStateOf}
use Rattle.follow_monitor.specs.Puts.{AreRecentPuts}
use Rattle.follow_monitor.specs.MonitorView.{MonitorView, known_call}
use Rattle.follow_monitor.specs.declared.open_calls.OpenCall.{OpenCall}

-- a call of a process is open: it was invoked at this place, and is pending
pub record IsOpenCall (events : List Event) (process place : ℕ) (call : Call) : Type 0 where
  pub well_formed : IsWellFormed events
  pub invoked : slice_get events place ≡ Some (Invoke process call)
  pub pending : (a : Operation) → Contains (operations events) a → a.inv ≡ place → a.response ≡ None

-- an open call as it is known: that of a process, with its number among the calls
pub record IsCallOf (events : List Event) (process : ℕ) (c : OpenCall) : Type 0 where
  pub is_open : IsOpenCall events process c.event c.call
  pub numbered : (a : Operation) → Contains (operations events) a → a.inv ≡ c.event → slice_get (operations events) c.number ≡ Some a

-- A monitor has taken these events, from these pairs. Its parts represent their calls. It knows the open calls, the last puts that were
-- answered, and how many calls there were. So far the events have an order.
pub record IsFollowing (start : Contents) (events : List Event) (m : MonitorView) : Type 0 where
  pub state : IsStateOf start (operations events) m.parts
  pub rising : IsRising start
  pub well_formed : IsWellFormed events
  pub calls_open : (process : ℕ) (c : OpenCall) → known_call m.open_calls process ≡ Some c → IsCallOf events process c
  pub all_open : (process event : ℕ) (call : Call) → IsOpenCall events process event call
      → (c : OpenCall) × (known_call m.open_calls process ≡ Some c) × (c.event ≡ event)
  pub shaped : All (λ a. low_key a.call ≤ high_key a.call) (operations events)
  pub events_are : m.parts.now ≡ length events
  pub puts_are : AreRecentPuts (operations events) m.puts
  pub calls_are : m.calls ≡ length (operations events)
  pub linearizable : IsLinearizable start (operations events)

-- it has taken some events, as each has
pub record FollowsSome (m : MonitorView) : Type 0 where
  pub start : Contents
  pub events : List Event
  pub follows : IsFollowing start events m

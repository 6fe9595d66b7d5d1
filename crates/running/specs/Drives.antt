-- What is recorded while each process does the calls of a script of its own.
use Rattle.std.specs.Prelude.{◌≡◌, ℕ, ◌*◌, ◌<◌, ◌≤◌, true, false, List, [], ◌∷◌, ◌++◌, length, map, Some, IfSome, slice_get, All}
use Rattle.events.specs.Lists.{greatest}
use Rattle.events.specs.Limits.{call_limit}
use Rattle.events.specs.declared.event.Call.{Call}
use Rattle.events.specs.declared.event.Reply.{Reply}
use Rattle.events.specs.declared.event.Event.{Event}
use Rattle.events.specs.declared.event.Event.TheVariants.{Invoke, Answer}
use Rattle.events.specs.Events.{process_of, events_of}
use Rattle.events.specs.HistoryFaults.{has_open_call}
use Rattle.events.specs.HistoryView.{HistoryView}
use Rattle.events.specs.Operations.{operations}

-- the calls that are invoked, in their order
abbrev pub invoked : List Event → List Call
invoked [] = []
invoked (Invoke p call ∷ events) = call ∷ invoked events
invoked (Answer p reply ∷ events) = invoked events

-- the calls that a process invokes, in their order
abbrev pub calls_by : ℕ → List Event → List Call
calls_by p events = invoked (events_of p events)

-- a process did its script: its calls are the whole script, and all of them are completed
pub record HasFinished (events : List Event) (p : ℕ) (script : List Call) : Type 0 where
  pub calls : calls_by p events ≡ script
  pub completed : has_open_call p events ≡ false

-- a process stopped within its script: its calls are a beginning of the script, and only the last
-- of them is pending
pub record HasStopped (events : List Event) (p : ℕ) (script : List Call) : Type 0 where
  pub rest : List Call
  pub calls : calls_by p events ++ rest ≡ script
  pub pending : has_open_call p events ≡ true

-- the processes are exactly those that have a script
abbrev pub HaveScripts : List (List Call) → List Event → Type 0
HaveScripts scripts events = All (λ e. process_of e < length scripts) events

-- each reply to a call is one that may be given to it
abbrev pub AreAnswered : (Call → Reply → Type 0) → List Event → Type 0
AreAnswered may_answer events = All (λ a. IfSome a.response (λ r. may_answer a.call r.reply)) (operations events)

-- the recording of scripts at a subject that may give these answers. The map holds nothing at the
-- start. Each process did its script, and there is no other process. The subject may give each
-- reply to its call
pub record IsDriveOf (may_answer : Call → Reply → Type 0) (scripts : List (List Call)) (history : HistoryView) : Type 0 where
  pub start : history.start ≡ []
  pub processes : HaveScripts scripts history.events
  pub finished : (p : ℕ) (script : List Call) → slice_get scripts p ≡ Some script → HasFinished history.events p script
  pub answered : AreAnswered may_answer history.events

-- how many calls the longest script has
abbrev pub most_calls : List (List Call) → ℕ
most_calls scripts = greatest (map (λ script. length script) scripts)

-- each process may begin as many calls as the longest script has
abbrev pub IsDrivable : List (List Call) → Type 0
IsDrivable scripts = length scripts * most_calls scripts ≤ call_limit

-- Events, processes and well-formed lists of events: Herlihy and Wing 1990, section 2.
use Rattle.std.specs.Prelude.{ℕ, ◌==◌, Bool, true, false, not, ◌&&◌, IsTrue, List, [], ◌∷◌, filter}
use Rattle.events.specs.declared.event.Event.{Event}
use Rattle.events.specs.declared.event.Event.TheVariants.{Invoke, Answer}

-- the process of an event
abbrev pub process_of : Event → ℕ
process_of (Invoke p call) = p
process_of (Answer p reply) = p

-- whether an event is an invocation; else it is a response
abbrev pub is_invocation : Event → Bool
is_invocation (Invoke p call) = true
is_invocation (Answer p reply) = false

-- the events of one process, in their order
abbrev pub events_of : ℕ → List Event → List Event
events_of p events = filter (λ e. process_of e == p) events

-- whether invocations and responses take turns; `waiting` says that the first is to be a response
abbrev pub events_alternate : Bool → List Event → Bool
events_alternate waiting [] = true
events_alternate waiting (Invoke p call ∷ events) = not waiting && events_alternate true events
events_alternate waiting (Answer p reply ∷ events) = waiting && events_alternate false events

-- the events of each process take turns, an invocation first
abbrev pub IsWellFormed : List Event → Type 0
IsWellFormed events = (p : ℕ) → IsTrue (events_alternate false (events_of p events))

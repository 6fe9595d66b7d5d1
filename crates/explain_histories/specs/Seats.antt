-- The state of calls that begin and end one after another: which are open, by which process, and
-- which events there were.
use Rattle.std.specs.Prelude.{◌≡◌, ◌≢◌, ◌⊎◌, ℕ, ◌+◌, ◌<◌, ◌≤◌, true, false, List, [], ◌∷◌, ◌++◌, length, map, take, Option, Some, None}
use Rattle.std.specs.Prelude.{All, AllPairs, Any, Contains, IfSome, IsSomeAnd, slice_get, option_and_then, nat_lt, if◌then◌else◌}
use Rattle.events.specs.declared.event.Event.{Event}
use Rattle.events.specs.declared.event.Event.TheVariants.{Invoke, Answer}
use Rattle.events.specs.declared.event.Call.{Call}
use Rattle.events.specs.declared.event.Reply.{Reply}
use Rattle.events.specs.declared.operation.Operation.{Operation}
use Rattle.events.specs.declared.operation.Response.{Response}
use Rattle.events.specs.Events.{events_of, IsWellFormed}
use Rattle.events.specs.Histories.{AreHistoryEvents}
use Rattle.events.specs.HistoryFaults.{has_open_call}
use Rattle.events.specs.Limits.{process_limit}
use Rattle.events.specs.Operations.{operations}
use Rattle.events.specs.Precedence.{precedes}
use Rattle.events.specs.Lists.{greatest}
use Rattle.call_effects.specs.Groups.{AreAlike, reply_in}
use Rattle.explain_histories.specs.declared.seats.Seat.{Seat}
use Rattle.explain_histories.specs.declared.seats.Seats.{Seats}

-- the place of a response, or none
abbrev pub place_in : Option Response → Option ℕ
place_in None = None
place_in (Some response) = Some response.res

-- the answer of the call with a number, if it has one
abbrev pub reply_at : List Operation → ℕ → Option Reply
reply_at calls number = option_and_then (λ a. reply_in a.response) (slice_get calls number)

-- the last place at which one of this many first calls begins
abbrev pub begun_of : List Operation → ℕ → ℕ
begun_of calls count = greatest (map (λ a. a.inv) (take count calls))

-- no open call is answered before a place
abbrev pub NoneEndsBefore : ℕ → List Seat → Type 0
NoneEndsBefore place open_seats = All (λ s. IfSome s.res (λ res. place ≤ res)) open_seats

-- among some open calls, the one at a place of the list of all is answered first
abbrev pub IsFirstAmong : List Seat → List Seat → ℕ × ℕ → Type 0
IsFirstAmong all some first = IsSomeAnd (slice_get all first.0) (λ s. s.res ≡ Some first.1) × NoneEndsBefore first.1 some

-- the earlier of two answers; the second may be none
abbrev pub earlier : Option (ℕ × ℕ) → ℕ → Option ℕ → Option (ℕ × ℕ)
earlier first at None = first
earlier None at (Some res) = Some (at, res)
earlier (Some first) at (Some res) = Some (if nat_lt res first.1 then (at, res) else first)

-- the call with a number may follow those before it. It does not end before one of them or itself
-- begins. Each of them that ended before one of them began also ends before it begins
abbrev pub EndsBehind : ℕ → Operation → Type 0
EndsBehind place a = IfSome a.response (λ response. place ≤ response.res)

abbrev pub EndsOutside : ℕ → ℕ → Operation → Type 0
EndsOutside low high a = IfSome a.response (λ response. (response.res < low) ⊎ (high ≤ response.res))

abbrev pub MayFollow : List Operation → ℕ → ℕ → Operation → Type 0
MayFollow calls number place a = EndsBehind place a × All (EndsOutside a.inv place) (take number calls)

-- ---- the state of the first calls

-- the call with a number is the open call of a process: no other event of the process follows its
-- invocation
pub record IsOpenAt (events : List Event) (number process : ℕ) : Type 0 where
  pub before : List Event
  pub call : Call
  pub between : List Event
  pub parts : events ≡ before ++ Invoke process call ∷ between
  pub silent : events_of process between ≡ []
  pub is_call : IsSomeAnd (slice_get (operations events) number) (λ c. (c.inv ≡ length before) × (c.response ≡ None))

-- an open call of this many: it is not answered before all have begun
pub record IsSeat (calls : List Operation) (count : ℕ) (events : List Event) (s : Seat) : Type 0 where
  pub within : s.number < count
  pub process : s.process < process_limit
  pub res : (a : Operation) → slice_get calls s.number ≡ Some a → place_in a.response ≡ s.res
  pub later : IfSome s.res (λ res. begun_of calls count ≤ res)
  pub waits : has_open_call s.process events ≡ true
  pub place : IsOpenAt events s.number s.process

-- the two have the same answer, and the first one's comes before a limit
abbrev pub IsAnsweredAs : ℕ → Option Response → Option Response → Type 0
IsAnsweredAs limit (Some response) (Some other) = (response.reply ≡ other.reply) × (response.res < limit)
IsAnsweredAs limit response other = ⊥

-- a call of the list and the call of the events with its number: the second is still open, or is
-- answered as the first
abbrev pub IsOpenOrAnswered : ℕ → List Seat → ℕ → Operation → Operation → Type 0
IsOpenOrAnswered limit open_seats number a c =
    ((s : Seat) × Contains open_seats s × (s.number ≡ number) × (c.response ≡ None)) ⊎ IsAnsweredAs limit a.response c.response

-- an event of one of the calls, by a known process
abbrev pub IsEventOf : List Operation → Event → Type 0
IsEventOf calls (Invoke process call) = (process < process_limit) × Any (λ a. a.call ≡ call) calls
IsEventOf calls (Answer process reply) = (process < process_limit) × Any (λ a. reply_in a.response ≡ Some reply) calls

-- this many calls have begun, and those that are not open were answered before a limit. Also the
-- free processes, the open calls, and the events
pub record AreSeatedAs (calls : List Operation) (count limit : ℕ) (free : List ℕ) (open_seats : List Seat) (events : List Event) : Type 0 where
  pub within : count ≤ length calls
  pub size : length (operations events) ≡ count
  pub call : (n : ℕ) (a c : Operation) → slice_get calls n ≡ Some a → slice_get (operations events) n ≡ Some c → a.call ≡ c.call
  pub status : (n : ℕ) (a c : Operation) → slice_get calls n ≡ Some a → slice_get (operations events) n ≡ Some c
      → IsOpenOrAnswered limit open_seats n a c
  pub precedence : (i j : ℕ) (a b c d : Operation) → slice_get calls i ≡ Some a → slice_get calls j ≡ Some b
      → slice_get (operations events) i ≡ Some c → slice_get (operations events) j ≡ Some d → precedes a b ≡ precedes c d
  pub seats : All (IsSeat calls count events) open_seats
  pub rising : AllPairs (λ s t. s.number < t.number) open_seats
  pub apart : AllPairs (λ s t. s.process ≢ t.process) open_seats
  pub free_known : All (λ p. p < process_limit) free
  pub free_idle : All (λ p. has_open_call p events ≡ false) free
  pub free_apart : AllPairs (λ p q. p ≢ q) free
  pub all_processes : length free + length open_seats ≡ process_limit
  pub well_formed : IsWellFormed events
  pub own : All (IsEventOf calls) events

abbrev pub AreSeated : List Operation → ℕ → ℕ → Seats → Type 0
AreSeated calls count limit s = AreSeatedAs calls count limit s.free.items s.open_seats.items s.events.items

-- ---- the result

-- the events of no history make calls like these
abbrev pub NoEventsHave : List Operation → Type 0
NoEventsHave calls = (events : List Event) → AreHistoryEvents events → AreAlike calls (operations events) → ⊥

-- events make calls like these, and are those of a history if any events that do are
pub record AreEventsWith (calls : List Operation) (events : List Event) : Type 0 where
  pub alike : AreAlike calls (operations events)
  pub history : (others : List Event) → AreHistoryEvents others → AreAlike calls (operations others) → AreHistoryEvents events

-- What a contract sees of a segment, and what is true of each.
use Rattle.std.specs.Prelude.{◌≡◌, ◌≢◌, ℕ, ◌<◌, ◌≤◌, List, [], length, map, All, AllPairs}
use Rattle.std.specs.List.Sorted.{IsStrictlyIncreasing}
use Rattle.events.specs.declared.event.Call.{Call}
use Rattle.events.specs.declared.operation.Operation.{Operation}
use Rattle.events.specs.Limits.{call_limit}
use Rattle.events.specs.Starts.{IsStart}
use Rattle.map_object.specs.MapObject.{Contents, within}
use Rattle.events.specs.Lists.{least, greatest}
use Rattle.events.specs.Precedence.{NonePrecedesItself}
use Rattle.events.specs.Keys.{low_key, high_key}
use Rattle.orders.specs.Orders.{calls_at}

-- some calls by number, with the least and the greatest key that they name; and the pairs of the
-- map at the start, from that least key to that greatest key
pub record SegmentView : Type 0 where
  pub numbers : List ℕ
  pub calls : List Operation
  pub lo : ℕ
  pub hi : ℕ
  pub start : Contents

-- the calls with these numbers, if the map holds these pairs at the start
abbrev pub segment_of : Contents → List Operation → List ℕ → SegmentView
segment_of start calls numbers =
    let taken = calls_at calls numbers in
    let lo = least (map (λ a. low_key a.call) taken) in
    let hi = greatest (map (λ a. high_key a.call) taken) in
    record { numbers = numbers; calls = taken; lo = lo; hi = hi; start = within lo hi start }

-- all keys of a call are within a range
pub record NamesKeysWithin (low high : ℕ) (call : Call) : Type 0 where
  pub low_within : low ≤ low_key call
  pub in_order : low_key call ≤ high_key call
  pub high_within : high_key call ≤ high

-- what is true of every segment
pub record IsSegmentView (segment : SegmentView) : Type 0 where
  pub not_empty : segment.numbers ≢ []
  pub rising : IsStrictlyIncreasing segment.numbers
  pub one_call_each : length segment.calls ≡ length segment.numbers
  pub few : length segment.calls ≤ call_limit
  pub invocations_rise : AllPairs (λ a b. a.inv < b.inv) segment.calls
  pub none_precedes_itself : NonePrecedesItself segment.calls
  pub keys : All (λ a. NamesKeysWithin segment.lo segment.hi a.call) segment.calls
  pub start : IsStart segment.start
  pub start_within : All (λ pair. (segment.lo ≤ pair.0) × (pair.0 ≤ segment.hi)) segment.start

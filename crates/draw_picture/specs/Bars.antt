-- The bars of a picture: one for each call of a history.
use Rattle.std.specs.Prelude.{◌≡◌, ℕ, ◌==◌, Bool, true, false, not, List, length, Option, Some, None, option_map, slice_get, string_bytes}
use Rattle.events.specs.declared.event.Event.{Event}
use Rattle.events.specs.declared.event.Event.TheVariants.{Invoke}
use Rattle.events.specs.declared.operation.Operation.{Operation}
use Rattle.events.specs.declared.operation.Response.{Response}
use Rattle.events.specs.Keys.{low_key, high_key}
use Rattle.events.specs.Operations.{operations}
use Rattle.events.specs.Lists.{has_number}
use Rattle.judge.specs.declared.verdict.Verdict.{Verdict}
use Rattle.judge.specs.declared.verdict.Verdict.TheVariants.{Yes, No, Undecided}
use Rattle.draw_picture.specs.declared.picture.Bar.{Bar}
use Rattle.draw_picture.specs.Columns.{event_column}
use Rattle.draw_picture.specs.Lanes.{lanes}
use Rattle.draw_picture.specs.Words.{call_words, reply_words}

-- whether a verdict concerns a call: a yes concerns all calls, a no and an undecided those of the
-- segment that they name
abbrev pub speaks_of : Verdict → ℕ → Bool
speaks_of (Yes order) n = true
speaks_of (No segment) n = has_number segment.numbers n
speaks_of (Undecided segment) n = has_number segment.numbers n

-- whether an event is given, and is this response
abbrev pub is_response : Option ℕ → Option Response → Bool
is_response None response = false
is_response (Some event) None = false
is_response (Some event) (Some response) = response.res == event

-- a bar goes from the column of a call's invocation to that of its response, or is open if the call
-- is pending
pub record IsSpanOf (points : List ℕ) (a : Operation) (bar : Bar) : Type 0 where
  pub from : bar.from ≡ event_column points a.inv
  pub to : bar.to ≡ option_map (λ r. event_column points r.res) a.response

-- each call has one bar, by number, which goes from its invocation to its response
pub record AreSpansOf (calls : List Operation) (points : List ℕ) (bars : List Bar) : Type 0 where
  pub one_each : length bars ≡ length calls
  pub each : (n : ℕ) (a : Operation) (bar : Bar) → slice_get calls n ≡ Some a → slice_get bars n ≡ Some bar → IsSpanOf points a bar

-- the bar of a call: in the lane of the process that invokes it, from its invocation to its
-- response, with its keys, and with the call and the reply in words
pub record IsBarOf (events : List Event) (points : List ℕ) (verdict : Verdict) (wrong : Option ℕ) (n : ℕ) (a : Operation)
    (bar : Bar) : Type 0 where
  pub number : bar.number ≡ n
  pub inv : bar.inv ≡ a.inv
  pub res : bar.res ≡ option_map (λ r. r.res) a.response
  pub invoked : slice_get events a.inv ≡ Some (Invoke bar.process a.call)
  pub lane : slice_get (lanes events) bar.lane ≡ Some bar.process
  pub span : IsSpanOf points a bar
  pub low : bar.low ≡ low_key a.call
  pub high : bar.high ≡ high_key a.call
  pub call : string_bytes bar.call ≡ call_words a.call
  pub reply : option_map string_bytes bar.reply ≡ option_map (λ r. reply_words r.reply) a.response
  pub pale : bar.is_pale ≡ not (speaks_of verdict n)
  pub goes_wrong : bar.is_wrong ≡ is_response wrong a.response
  pub whole : bar.is_cut ≡ false

-- the bars of a history: one for each call, by number
pub record AreBarsOf (events : List Event) (points : List ℕ) (verdict : Verdict) (wrong : Option ℕ) (bars : List Bar) : Type 0 where
  pub one_each : length bars ≡ length (operations events)
  pub each : (n : ℕ) (a : Operation) (bar : Bar) → slice_get (operations events) n ≡ Some a → slice_get bars n ≡ Some bar
      → IsBarOf events points verdict wrong n a bar

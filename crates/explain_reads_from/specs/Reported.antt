-- The pairs of a key and a value that answers report.
use Rattle.events.specs.declared.event.Reply.TheVariants as replies
use Rattle.std.specs.Prelude.{ℕ, ◌==◌, if◌then◌else◌, List, [], ◌∷◌, ◌++◌, Option, Some, None}
use Rattle.events.specs.declared.event.Call.{Call}
use Rattle.events.specs.declared.event.Reply.{Reply}
use Rattle.events.specs.declared.operation.Operation.{Operation}
use Rattle.events.specs.declared.operation.Response.{Response}
use Rattle.events.specs.Keys.{low_key, high_key}

-- a value, at the key of a call of one key
abbrev pub value_reported : Call → ℕ → List (ℕ × ℕ)
value_reported call value = if low_key call == high_key call then (low_key call, value) ∷ [] else []

-- the pairs that an answer reports: those that it lists, or its value at the key of the call
abbrev pub pairs_reported : Call → Reply → List (ℕ × ℕ)
pairs_reported call replies.None = []
pairs_reported call (replies.Some value) = value_reported call value
pairs_reported call (replies.Pairs pairs) = pairs
pairs_reported call replies.Refused = []
pairs_reported call replies.Done = []
pairs_reported call replies.Found = []
pairs_reported call replies.Other = []

-- the pairs that a call reports; none if it has no answer
abbrev pub pairs_reported_by : Call → Option Response → List (ℕ × ℕ)
pairs_reported_by call None = []
pairs_reported_by call (Some response) = pairs_reported call response.reply

-- the pairs that calls report, one call after another
abbrev pub all_reported : List Operation → List (ℕ × ℕ)
all_reported [] = []
all_reported (a ∷ calls) = pairs_reported_by a.call a.response ++ all_reported calls

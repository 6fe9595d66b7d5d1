-- What a call may put at its key, and which calls depend on it.
use Rattle.events.specs.declared.event.Reply.TheVariants as replies
use Rattle.std.specs.Prelude.{ℕ, ◌==◌, ◌&&◌, ◌||◌, Bool, true, false, not, nat_le, if◌then◌else◌, Option, Some, None, is_some}
use Rattle.events.specs.declared.event.Call.{Call}
use Rattle.events.specs.declared.event.Call.TheVariants.{Get, Insert, Remove, Scan, Replace}
use Rattle.events.specs.declared.event.Reply.{Reply}
use Rattle.events.specs.declared.operation.Operation.{Operation}
use Rattle.events.specs.declared.operation.Response.{Response}
use Rattle.events.specs.Keys.{low_key, high_key}
use Rattle.events.specs.PlainHistories.{is_replace}
use Rattle.events.specs.Told.{is_complete}
use Rattle.map_object.specs.MapObject.{value_at, is_just}
use Rattle.call_effects.specs.Replies.{says_unchanged}

-- whether a key is among those that a call names
abbrev pub names_key : Call → ℕ → Bool
names_key call key = nat_le (low_key call) key && nat_le key (high_key call)

-- whether two values, or none, are the same
abbrev pub is_same : Option ℕ → Option ℕ → Bool
is_same None None = true
is_same None (Some other) = false
is_same (Some value) None = false
is_same (Some value) (Some other) = value == other

-- whether a call without an answer waits for this value at its key
abbrev pub waits_for : Call → Option ℕ → Bool
waits_for (Get key) value = false
waits_for (Insert key put) value = false
waits_for (Remove key) value = false
waits_for (Scan low high) value = false
waits_for (Replace key expected put) value = is_just value expected

-- whether a call with this answer depends on a key having this value, or none. It does if it could
-- not be answered so with another value there, or could leave another one. An insert, a remove and
-- a get with the answer `done` depend on none. A replace with the answer `done` or `found` puts its
-- value or does not, by what it finds; so it depends on each
abbrev pub depends_on : Call → Reply → ℕ → Option ℕ → Bool
depends_on call replies.None key value = is_same None value
depends_on call (replies.Some found) key value = is_same (Some found) value
depends_on call (replies.Pairs pairs) key value = is_same (value_at pairs key) value
depends_on call replies.Refused key value = false
depends_on call replies.Done key value = is_replace call
depends_on call replies.Found key value = is_replace call || is_some value
depends_on call replies.Other key value = is_replace call && not (waits_for call value)

-- whether a call with an answer depends on a key having this value, or none; a call without one,
-- whether it waits for it
abbrev pub is_told_by : Call → Option Response → ℕ → Option ℕ → Bool
is_told_by call None key value = waits_for call value
is_told_by call (Some response) key value = depends_on call response.reply key value

-- whether a call depends on a key having this value, or none, or waits for it
abbrev pub depends_on_value : Operation → ℕ → Option ℕ → Bool
depends_on_value a key value = names_key a.call key && is_told_by a.call a.response key value

-- what a call may put at its key: a value, or none in place of one
abbrev pub put_by : Call → Option (Option ℕ)
put_by (Get key) = None
put_by (Insert key value) = Some (Some value)
put_by (Remove key) = Some None
put_by (Scan low high) = None
put_by (Replace key expected value) = Some (Some value)

-- what a call may put at its key, by its response: nothing if the response says that the call
-- changed nothing
abbrev pub put_of : Call → Option Response → Option (Option ℕ)
put_of call None = put_by call
put_of call (Some response) = if says_unchanged call response.reply then None else put_by call

-- whether a call, as far as its response says, does what it may do. A pending call may not be done.
-- A replace with the answer `done` or `found` may have found another value than the expected one
abbrev pub is_sure : Call → Option Response → Bool
is_sure call None = false
is_sure call (Some response) = not (is_replace call) || is_complete response.reply

-- whether a call depends on what was put at a key, if anything was
abbrev pub tells_put_at : Operation → ℕ → Option (Option ℕ) → Bool
tells_put_at b key None = false
tells_put_at b key (Some value) = depends_on_value b key value

-- whether a call depends on what another may put
abbrev pub tells_put : Operation → Operation → Bool
tells_put b a = tells_put_at b (low_key a.call) (put_of a.call a.response)

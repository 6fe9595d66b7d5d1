-- One key: the value that a call leaves there, and whether the call may be answered so there.
use Rattle.events.specs.declared.event.Reply.TheVariants as replies
use Rattle.std.specs.Prelude.{◌≡◌, ◌⊎◌, ℕ, if◌then◌else◌, Option, Some, None, ⊤}
use Rattle.events.specs.declared.event.Call.{Call}
use Rattle.events.specs.declared.event.Call.TheVariants.{Get, Insert, Remove, Scan, Replace}
use Rattle.events.specs.declared.event.Reply.{Reply}
use Rattle.events.specs.declared.operation.Response.{Response}
use Rattle.map_object.specs.MapObject.{is_just, value_reply, IsAllOrPartOf}

-- a call of a key; no scan is one
abbrev pub IsCallOf : ℕ → Call → Type 0
IsCallOf key (Get own) = own ≡ key
IsCallOf key (Insert own value) = own ≡ key
IsCallOf key (Remove own) = own ≡ key
IsCallOf key (Scan low high) = ⊥
IsCallOf key (Replace own expected value) = own ≡ key

-- the value after a call, unless the call is refused
abbrev pub value_after : Option ℕ → Call → Option ℕ
value_after value (Get key) = value
value_after value (Insert key new) = Some new
value_after value (Remove key) = None
value_after value (Scan low high) = value
value_after value (Replace key expected new) = if is_just value expected then Some new else value

-- the value after a call with this answer
abbrev pub value_after_reply : Option ℕ → Call → Reply → Option ℕ
value_after_reply value call replies.None = value_after value call
value_after_reply value call (replies.Some told) = value_after value call
value_after_reply value call (replies.Pairs pairs) = value_after value call
value_after_reply value call replies.Refused = value
value_after_reply value call replies.Done = value_after value call
value_after_reply value call replies.Found = value_after value call
value_after_reply value call replies.Other = value_after value call

-- the value after a call of a history
abbrev pub value_after_call : Option ℕ → Call → Option Response → Option ℕ
value_after_call value call None = value_after value call
value_after_call value call (Some response) = value_after_reply value call response.reply

-- a call may be answered so if its key has this value, or none
abbrev pub MayBeAnswered : Option ℕ → Call → Option Response → Type 0
MayBeAnswered value call None = ⊤
MayBeAnswered value call (Some response) = (response.reply ≡ replies.Refused) ⊎ IsAllOrPartOf call (value_reply value) response.reply

-- The sequential object: an ordered map, as the list of its pairs by rising key.
use Rattle.events.specs.declared.event.Reply.TheVariants as replies
use Rattle.std.specs.Prelude.{◌≡◌, ℕ, ◌⊎◌, ◌==◌, ◌&&◌, Bool, false, nat_lt, nat_le, if◌then◌else◌, List, [], ◌∷◌, ◌++◌, filter, Option}
use Rattle.std.specs.Prelude.{Some, None, true, not, IsTrue, ⊤}
use Rattle.events.specs.declared.event.Call.{Call}
use Rattle.events.specs.declared.event.Call.TheVariants.{Get, Insert, Remove, Scan, Replace}
use Rattle.events.specs.Starts.{KeysRise}
use Rattle.events.specs.declared.event.Reply.{Reply}

-- pairs of a key and a value
abbrev pub Contents : Type 0
Contents = List (ℕ × ℕ)

-- each key is below the later ones
abbrev pub IsRising : Contents → Type 0
IsRising m = KeysRise m

-- the value at a key
abbrev pub value_at : Contents → ℕ → Option ℕ
value_at [] key = None
value_at ((k, value) ∷ m) key = if k == key then Some value else value_at m key

-- the pairs below a key, above it, and from one key to another
abbrev pub below : ℕ → Contents → Contents
below key m = filter (λ pair. nat_lt pair.0 key) m

abbrev pub above : ℕ → Contents → Contents
above key m = filter (λ pair. nat_lt key pair.0) m

abbrev pub within : ℕ → ℕ → Contents → Contents
within low high m = filter (λ pair. nat_le low pair.0 && nat_le pair.0 high) m

-- the pairs with a value put at a key
abbrev pub put : ℕ → ℕ → Contents → Contents
put key value m = below key m ++ (key, value) ∷ above key m

-- whether there is a value and it is this one
abbrev pub is_just : Option ℕ → ℕ → Bool
is_just None value = false
is_just (Some found) value = found == value

-- a value, or none, as a reply
abbrev pub value_reply : Option ℕ → Reply
value_reply None = replies.None
value_reply (Some value) = replies.Some value

-- the whole answer to a call, unless it is refused
abbrev pub reply_to : Contents → Call → Reply
reply_to m (Get key) = value_reply (value_at m key)
reply_to m (Insert key value) = value_reply (value_at m key)
reply_to m (Remove key) = value_reply (value_at m key)
reply_to m (Scan low high) = replies.Pairs (within low high m)
reply_to m (Replace key expected value) = value_reply (value_at m key)

-- the pairs after a call, unless it is refused
abbrev pub after : Contents → Call → Contents
after m (Get key) = m
after m (Insert key value) = put key value m
after m (Remove key) = below key m ++ above key m
after m (Scan low high) = m
after m (Replace key expected value) = if is_just (value_at m key) expected then put key value m else m

-- the pairs after a call with this answer; a refused call changes nothing
abbrev pub after_reply : Contents → Call → Reply → Contents
after_reply m call replies.Refused = m
after_reply m call reply = after m call

-- whether a complete answer is a value; a list is not one
abbrev pub is_value : Reply → Bool
is_value replies.None = false
is_value (replies.Some value) = true
is_value (replies.Pairs pairs) = false
is_value replies.Refused = false
is_value replies.Done = false
is_value replies.Found = false
is_value replies.Other = false

-- whether a complete answer is none, or another value than this one
abbrev pub is_none_or_other : ℕ → Reply → Bool
is_none_or_other expected replies.None = true
is_none_or_other expected (replies.Some value) = not (value == expected)
is_none_or_other expected (replies.Pairs pairs) = false
is_none_or_other expected replies.Refused = false
is_none_or_other expected replies.Done = false
is_none_or_other expected replies.Found = false
is_none_or_other expected replies.Other = false

-- whether a complete answer says that a replace did not find the expected value
abbrev pub misses : Call → Reply → Bool
misses (Get key) whole = false
misses (Insert key value) whole = false
misses (Remove key) whole = false
misses (Scan low high) whole = false
misses (Replace key expected value) whole = is_none_or_other expected whole

-- a reply says all that the complete answer says, or a part of it: only that the call was done, or
-- that it found a value, or that it did not find the expected one
abbrev pub IsAllOrPartOf : Call → Reply → Reply → Type 0
IsAllOrPartOf call whole replies.Done = ⊤
IsAllOrPartOf call whole replies.Found = IsTrue (is_value whole)
IsAllOrPartOf call whole replies.Other = IsTrue (misses call whole)
IsAllOrPartOf call whole reply = reply ≡ whole

-- a reply is legal if it is `refused`, or if it says all or a part of the answer that the map gives
abbrev pub IsLegalReply : Contents → Call → Reply → Type 0
IsLegalReply m call reply = (reply ≡ replies.Refused) ⊎ IsAllOrPartOf call (reply_to m call) reply

-- the object: from m the call may do this reply and leave m2
abbrev pub Does : Contents → Call → Reply → Contents → Type 0
Does m call reply m2 = IsLegalReply m call reply × (m2 ≡ after_reply m call reply)

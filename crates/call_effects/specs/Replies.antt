-- Replies that say that a call changed nothing, and calls with such answers.
use Rattle.events.specs.declared.event.Reply.TheVariants as replies
use Rattle.std.specs.Prelude.{◌≡◌, ◌==◌, ◌||◌, Bool, true, false, not, IsSomeAnd}
use Rattle.events.specs.declared.event.Call.{Call}
use Rattle.events.specs.declared.event.Call.TheVariants.{Get, Insert, Remove, Scan, Replace}
use Rattle.events.specs.declared.event.Reply.{Reply}
use Rattle.events.specs.declared.operation.Operation.{Operation}

-- whether a legal reply says that the call changed nothing. A partial reply says so if the call
-- leaves the pairs as they are, whatever it found
abbrev pub says_unchanged : Call → Reply → Bool
says_unchanged call replies.Refused = true
says_unchanged call replies.Other = true
says_unchanged (Get key) reply = true
says_unchanged (Scan low high) reply = true
says_unchanged (Insert key value) (replies.Some found) = found == value
says_unchanged (Remove key) replies.None = true
says_unchanged (Replace key expected value) (replies.Some found) = not (found == expected) || (expected == value)
says_unchanged (Replace key expected value) replies.None = true
says_unchanged (Replace key expected value) replies.Done = expected == value
says_unchanged (Replace key expected value) replies.Found = expected == value
says_unchanged call reply = false

-- a call has ended, and its answer says that it changed nothing
abbrev pub IsRead : Operation → Type 0
IsRead a = IsSomeAnd a.response (λ r. says_unchanged a.call r.reply ≡ true)

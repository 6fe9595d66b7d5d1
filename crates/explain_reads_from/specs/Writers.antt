-- Which calls put a value at a key.
use Rattle.events.specs.declared.event.Reply.TheVariants as replies
use Rattle.std.specs.Prelude.{ℕ, ◌==◌, Bool, true, false, not, ◌&&◌, List, filter, Option, Some, None}
use Rattle.events.specs.declared.event.Call.{Call}
use Rattle.events.specs.declared.event.Call.TheVariants.{Get, Insert, Remove, Scan, Replace}
use Rattle.events.specs.declared.event.Reply.{Reply}
use Rattle.events.specs.declared.operation.Operation.{Operation}
use Rattle.events.specs.declared.operation.Response.{Response}
use Rattle.events.specs.Keys.{low_key}
use Rattle.events.specs.PlainHistories.{is_replace}
use Rattle.explain_shrink.specs.Tells.{put_by}
use Rattle.explain_reads_from.specs.External.{is_put}

-- whether a call is a replace that expects another value than this one
abbrev pub expects_other : Call → ℕ → Bool
expects_other (Get key) found = false
expects_other (Insert key value) found = false
expects_other (Remove key) found = false
expects_other (Scan low high) found = false
expects_other (Replace key expected value) found = not (expected == found)

-- whether an answer says that the call was not done: it was refused, or a replace did not find the
-- expected value
abbrev pub says_undone : Call → Reply → Bool
says_undone call replies.None = is_replace call
says_undone call (replies.Some found) = expects_other call found
says_undone call (replies.Pairs pairs) = false
says_undone call replies.Refused = true
says_undone call replies.Done = false
says_undone call replies.Found = false
says_undone call replies.Other = true

abbrev pub is_undone : Call → Option Response → Bool
is_undone call None = false
is_undone call (Some response) = says_undone call response.reply

-- whether a call puts this value at this key, answered or not, unless its answer says that it was
-- not done
abbrev pub writes : ℕ × ℕ → Operation → Bool
writes pair a = low_key a.call == pair.0 && (is_put (put_by a.call) pair.1 && not (is_undone a.call a.response))

-- the calls that put this value at this key
abbrev pub writers_of : ℕ × ℕ → List Operation → List Operation
writers_of pair calls = filter (writes pair) calls

-- The line of an event that is given by its values: a number for its kind, and those of its keys
-- and values.
use Rattle.events.specs.declared.event.Reply.TheVariants as replies
use Rattle.std.specs.Prelude.{ℕ, ◌==◌, if◌then◌else◌, List, map, Option, Some, None, codes}
use Rattle.events.specs.declared.event.Call.{Call}
use Rattle.events.specs.declared.event.Call.TheVariants.{Get, Insert, Remove, Scan, Replace}
use Rattle.events.specs.declared.event.Reply.{Reply}
use Rattle.events.specs.declared.event.Event.TheVariants.{Invoke, Answer}
use Rattle.cli_follow.specs.EventLines.{event_line}
use Rattle.potzendai.specs.declared.kinds.PotzendaiPair.{PotzendaiPair}

-- the call of a kind; numbers that such a call does not have are ignored
abbrev pub call_of : ℕ → ℕ → ℕ → ℕ → Option Call
call_of kind key value other =
    if kind == 0 then Some (Get key)
    else if kind == 1 then Some (Insert key value)
    else if kind == 2 then Some (Remove key)
    else if kind == 3 then Some (Scan key value)
    else if kind == 4 then Some (Replace key value other)
    else None

-- pairs of keys and values
abbrev pub pairs_of : List PotzendaiPair → List (ℕ × ℕ)
pairs_of pairs = map (λ pair. (pair.key, pair.value)) pairs

-- the reply of a kind; a value and pairs that such a reply does not have are ignored
abbrev pub reply_of : ℕ → ℕ → List PotzendaiPair → Option Reply
reply_of kind value pairs =
    if kind == 0 then Some replies.None
    else if kind == 1 then Some (replies.Some value)
    else if kind == 2 then Some (replies.Pairs (pairs_of pairs))
    else if kind == 3 then Some replies.Refused
    else if kind == 4 then Some replies.Done
    else if kind == 5 then Some replies.Found
    else if kind == 6 then Some replies.Other
    else None

-- the line of an invocation; without a call, a line that spells no event
abbrev pub call_line : ℕ → Option Call → List ℕ
call_line process None = codes "{\"invoke\":null}"
call_line process (Some call) = event_line (Invoke process call)

-- the line of an answer; without a reply, a line that spells no event
abbrev pub reply_line : ℕ → Option Reply → List ℕ
reply_line process None = codes "{\"answer\":[null]}"
reply_line process (Some reply) = event_line (Answer process reply)

-- Which calls another one misses. In each order, what such a call left at its key is there when the
-- other call takes effect, but that one was answered otherwise. In the field the other call has a
-- stale read, or loses an update.
use Rattle.events.specs.declared.event.Reply.TheVariants as replies
use Rattle.std.specs.Prelude.{ℕ, ◌==◌, ◌&&◌, Bool, true, false, not, if◌then◌else◌, List, [], ◌∷◌, Option, Some, None}
use Rattle.std.specs.List.{list_any}
use Rattle.events.specs.declared.event.Call.{Call}
use Rattle.events.specs.declared.event.Reply.{Reply}
use Rattle.events.specs.declared.operation.Operation.{Operation}
use Rattle.events.specs.declared.operation.Response.{Response}
use Rattle.events.specs.Keys.{low_key}
use Rattle.events.specs.Precedence.{precedes}
use Rattle.explain_shrink.specs.Tells.{names_key, depends_on, put_by, is_sure, tells_put}
use Rattle.explain_reads_from.specs.Writers.{is_undone}
use Rattle.explain_reads_from.specs.declared.missing.Missed.{Missed}

-- what a call left at its key, as its answer says: a value, or none in place of one. Nothing is
-- known of a call that has no answer, was not done, or may not have been done
abbrev pub left_by : Operation → Option (Option ℕ)
left_by b = if is_sure b.call b.response && not (is_undone b.call b.response) then put_by b.call else None

-- whether an answer says something about what its call found
abbrev pub says_found : Reply → Bool
says_found replies.None = true
says_found (replies.Some value) = true
says_found (replies.Pairs pairs) = true
says_found replies.Refused = false
says_found replies.Done = false
says_found replies.Found = true
says_found replies.Other = true

-- whether an answer shows that the key had another value than the one that was left there, if
-- anything was
abbrev pub is_other : Call → Reply → ℕ → Option (Option ℕ) → Bool
is_other call reply key None = false
is_other call reply key (Some value) = says_found reply && not (depends_on call reply key value)

abbrev pub is_contradicted : Call → Option Response → ℕ → Option (Option ℕ) → Bool
is_contradicted call None key left = false
is_contradicted call (Some response) key left = is_other call response.reply key left

-- whether a call contradicts another. The other one was answered before this call began, and left
-- something at one of its keys that this call, by its answer, did not find there
abbrev pub contradicts : Operation → Operation → Bool
contradicts r b = precedes b r && (names_key r.call (low_key b.call) && is_contradicted r.call r.response (low_key b.call) (left_by b))

-- whether a third call may have put at that key, after the other call and before this one, what
-- this call reports
abbrev pub may_mend : Operation → Operation → Operation → Bool
may_mend r b c =
    not (c.inv == r.inv) && (low_key c.call == low_key b.call && (tells_put r c && (not (precedes c b) && not (precedes r c))))

-- whether a call contradicts one of these later calls of the same key
abbrev pub contradicts_later : Operation → Operation → List Operation → Bool
contradicts_later r b later = list_any (λ c. low_key c.call == low_key b.call && contradicts r c) later

-- Whether one of some calls misses another, given the calls that began after that one. It
-- contradicts that one, and none of the later calls at its key, and no call may mend that.
abbrev pub is_missed : List Operation → Operation → Operation → List Operation → Bool
is_missed calls r b later = contradicts r b && (not (contradicts_later r b later) && not (list_any (may_mend r b) calls))

-- the calls that one call misses among the last of some calls
abbrev pub missed_from : List Operation → Operation → List Operation → List Operation
missed_from calls r [] = []
missed_from calls r (b ∷ later) = if is_missed calls r b later then b ∷ missed_from calls r later else missed_from calls r later

-- the calls that one call misses among some, in the order in which they began: at each key the last
-- that it contradicts, if no call may mend that
abbrev pub missed_writes : Operation → List Operation → List Operation
missed_writes r calls = missed_from calls r calls

-- what is reported of a call that another misses: what was called, and the event of its invocation
abbrev pub missed_of : Operation → Missed
missed_of b = record { call = b.call; event = b.inv }

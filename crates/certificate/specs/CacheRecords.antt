-- How the calls of a cache are recorded: a key that a call misses has no value from then on.
use Rattle.events.specs.declared.event.Reply.TheVariants as replies
use Rattle.std.specs.Prelude.{◌≡◌, ℕ, ◌<◌, ◌≤◌, true, false, Bool, List, length, Option, Some, None, slice_get, Contains}
use Rattle.events.specs.declared.event.Call.{Call}
use Rattle.events.specs.declared.event.Call.TheVariants.{Get, Insert, Remove, Scan, Replace}
use Rattle.events.specs.declared.event.Reply.{Reply}
use Rattle.events.specs.declared.operation.Operation.{Operation}
use Rattle.events.specs.declared.operation.Response.{Response}
use Rattle.events.specs.Precedence.{precedes}
use Rattle.map_object.specs.MapObject.{Contents, value_at}

-- the call that is recorded for one with this answer. A get and a replace that found no value
-- become a remove. A replace that found another value than it expects stores a fresh value instead
-- of its own. All other calls stay
abbrev pub recorded_call : ℕ → Call → Reply → Call
recorded_call fresh (Get key) replies.None = Remove key
recorded_call fresh (Replace key expected value) replies.None = Remove key
recorded_call fresh (Replace key expected value) replies.Other = Replace key expected fresh
recorded_call fresh call reply = call

-- the answer that is recorded: `done` for a call of one key that found no value, and for a replace
-- that found another one. All other answers stay
abbrev pub recorded_reply : Call → Reply → Reply
recorded_reply (Get key) replies.None = replies.Done
recorded_reply (Insert key value) replies.None = replies.Done
recorded_reply (Remove key) replies.None = replies.Done
recorded_reply (Replace key expected value) replies.None = replies.Done
recorded_reply (Replace key expected value) replies.Other = replies.Done
recorded_reply call reply = reply

-- a call and its response are recorded as these. Fresh values are those from a bound on. A pending
-- call stays as it is
abbrev pub AreRecordedAs : ℕ → Call → Option Response → Call → Option Response → Type 0
AreRecordedAs bound call None recorded None = recorded ≡ call
AreRecordedAs bound call None recorded (Some response) = ⊥
AreRecordedAs bound call (Some response) recorded None = ⊥
AreRecordedAs bound call (Some response) recorded (Some r) =
    (fresh : ℕ) × (bound ≤ fresh) × (recorded ≡ recorded_call fresh call response.reply) × (r.reply ≡ recorded_reply call response.reply)

-- the call was answered so
abbrev pub IsAnswered : Operation → Reply → Type 0
IsAnswered a reply = (res : ℕ) × (a.response ≡ Some (record { res = res; reply = reply }))

-- a scan misses a key of its range: it was answered with pairs, and none of them has the key
pub record MissesKey (a : Operation) (key : ℕ) : Type 0 where
  pub low : ℕ
  pub high : ℕ
  pub pairs : Contents
  pub is_scan : a.call ≡ Scan low high
  pub answered : IsAnswered a (replies.Pairs pairs)
  pub from : low ≤ key
  pub to : key ≤ high
  pub missing : value_at pairs key ≡ None

-- a remove, answered `done`, of a key that a scan misses
pub record IsHelperOf (a t : Operation) : Type 0 where
  pub key : ℕ
  pub misses : MissesKey a key
  pub call : t.call ≡ Remove key
  pub done : IsAnswered t replies.Done

-- what is recorded of the calls of a cache: each call, and next to a scan a remove of each key that
-- it misses. Removes of these keys are all there; those of other keys may be missing. Both lists
-- name calls by number. A remove has the interval of its scan: a recorded call precedes another
-- exactly if their calls do
pub record IsRecordOf (bound : ℕ) (keys : List ℕ) (calls recorded : List Operation) : Type 0 where
  -- the number of a call among the recorded ones
  pub number : ℕ → ℕ
  -- the call to which a recorded one belongs, and whether it is a remove next to a scan
  pub source : ℕ → ℕ
  pub helps : ℕ → Bool
  -- each call is recorded once
  pub itself : (n : ℕ) (a : Operation) → slice_get calls n ≡ Some a → (t : Operation) × (slice_get recorded (number n) ≡ Some t)
      × AreRecordedAs bound a.call a.response t.call t.response × (source (number n) ≡ n) × (helps (number n) ≡ false)
  pub once : (j : ℕ) → j < length recorded → helps j ≡ false → (source j < length calls) × (number (source j) ≡ j)
  -- all other recorded calls are removes next to scans, and no remove of these keys is missing
  pub helpers : (j : ℕ) (t : Operation) → slice_get recorded j ≡ Some t → helps j ≡ true
      → (a : Operation) × (slice_get calls (source j) ≡ Some a) × IsHelperOf a t
  pub all_helped : (n key : ℕ) (a : Operation) → slice_get calls n ≡ Some a → Contains keys key → MissesKey a key
      → (j : ℕ) × (t : Operation) × (slice_get recorded j ≡ Some t) × (t.call ≡ Remove key) × (source j ≡ n) × (helps j ≡ true)
  -- recorded calls have the precedence of their calls
  pub precedence : (i j : ℕ) (s t a b : Operation) → slice_get recorded i ≡ Some s → slice_get recorded j ≡ Some t
      → slice_get calls (source i) ≡ Some a → slice_get calls (source j) ≡ Some b → precedes s t ≡ precedes a b

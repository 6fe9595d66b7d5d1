-- Premises on the keys, the values and the answers of a cache's calls.
use Rattle.events.specs.declared.event.Reply.TheVariants as replies
use Rattle.std.specs.Prelude.{◌≢◌, ℕ, ◌<◌, List, Option, Some, None, All, Contains, ⊤}
use Rattle.events.specs.declared.event.Call.{Call}
use Rattle.events.specs.declared.event.Call.TheVariants.{Get, Insert, Remove, Scan, Replace}
use Rattle.events.specs.declared.event.Reply.{Reply}
use Rattle.events.specs.declared.operation.Operation.{Operation}
use Rattle.events.specs.declared.operation.Response.{Response}
use Rattle.events.specs.Keys.{low_key}
use Rattle.map_object.specs.MapObject.{Contents}
use Rattle.certificate.specs.CacheRecords.{IsAnswered}

-- the key at which the call may put a value is one of these
abbrev pub PutsWithin : List ℕ → Call → Type 0
PutsWithin keys (Get key) = ⊤
PutsWithin keys (Insert key value) = Contains keys key
PutsWithin keys (Remove key) = ⊤
PutsWithin keys (Scan low high) = ⊤
PutsWithin keys (Replace key expected value) = Contains keys key

-- these are all keys that may ever have a value
pub record AreAllKeys (keys : List ℕ) (start : Contents) (calls : List Operation) : Type 0 where
  pub at_start : All (λ pair. Contains keys pair.0) start
  pub of_calls : All (λ a. PutsWithin keys a.call) calls

-- each value that a call names is below a bound
abbrev pub CallBelow : ℕ → Call → Type 0
CallBelow bound (Get key) = ⊤
CallBelow bound (Insert key value) = value < bound
CallBelow bound (Remove key) = ⊤
CallBelow bound (Scan low high) = ⊤
CallBelow bound (Replace key expected value) = (expected < bound) × (value < bound)

-- each value in a reply is below a bound
abbrev pub ReplyBelow : ℕ → Reply → Type 0
ReplyBelow bound replies.None = ⊤
ReplyBelow bound (replies.Some value) = value < bound
ReplyBelow bound (replies.Pairs pairs) = All (λ pair. pair.1 < bound) pairs
ReplyBelow bound replies.Refused = ⊤
ReplyBelow bound replies.Done = ⊤
ReplyBelow bound replies.Found = ⊤
ReplyBelow bound replies.Other = ⊤

-- each value of a response's answer is below a bound; a pending call has none
abbrev pub ResponseBelow : ℕ → Option Response → Type 0
ResponseBelow bound None = ⊤
ResponseBelow bound (Some response) = ReplyBelow bound response.reply

-- each value of the start, of the calls and of their answers is below a bound; so the values from
-- the bound on are fresh
pub record AreBelow (bound : ℕ) (start : Contents) (calls : List Operation) : Type 0 where
  pub at_start : All (λ pair. pair.1 < bound) start
  pub of_calls : All (λ a. CallBelow bound a.call × ResponseBelow bound a.response) calls

-- no key has both a call with the answer `found` and a replace with the answer `other`
abbrev pub NoneFoundWhereOther : List Operation → Type 0
NoneFoundWhereOther calls = (a b : Operation) → Contains calls a → Contains calls b → IsAnswered a replies.Found
    → IsAnswered b replies.Other → low_key a.call ≢ low_key b.call

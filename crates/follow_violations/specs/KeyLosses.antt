-- What is said of the keys of a part that does not go on.
use Rattle.events.specs.declared.event.Reply.TheVariants as replies
use Rattle.std.specs.Prelude.{◌≡◌, ◌≢◌, ◌⊎◌, ◌↔◌, ℕ, ◌<◌, ◌≤◌, List, ◌∷◌, ◌++◌, All, AllPairs, Any, Contains, Option, None, Some}
use Rattle.events.specs.declared.event.Call.{Call}
use Rattle.events.specs.declared.event.Call.TheVariants.{Get, Insert, Remove, Scan, Replace}
use Rattle.events.specs.declared.event.Reply.{Reply}
use Rattle.events.specs.declared.operation.Operation.{Operation}
use Rattle.events.specs.declared.operation.Response.{Response}
use Rattle.events.specs.Keys.{low_key, high_key}
use Rattle.map_object.specs.MapObject.{Contents, value_at}
use Rattle.follow_laws.specs.Pasts.{KeptPast}
use Rattle.follow_violations.specs.declared.lost_keys.KeyViolation.{KeyViolation}
use Rattle.follow_violations.specs.declared.lost_keys.Origin.{Origin}
use Rattle.follow_violations.specs.declared.puts.Put.{Put}

-- a key of a call
pub record HasKey (o : Operation) (key : ℕ) : Type 0 where
  pub low : low_key o.call ≤ key
  pub high : key ≤ high_key o.call

-- the only key of a call
abbrev pub IsOnlyKey : Operation → ℕ → Type 0
IsOnlyKey o key = (low_key o.call ≡ key) × (high_key o.call ≡ key)

-- the pairs that a reply lists, and those that a response reports
abbrev pub pairs_in : Reply → Option Contents
pairs_in (replies.Pairs pairs) = Some pairs
pairs_in reply = None

abbrev pub reported_by : Option Response → Option Contents
reported_by None = None
reported_by (Some response) = pairs_in response.reply

-- a call reports something else at a key than these pairs have there
pub record ReportsOther (pairs : Contents) (o : Operation) (key : ℕ) : Type 0 where
  pub has_key : HasKey o key
  pub reported : Contents
  pub reports : reported_by o.response ≡ Some reported
  pub other : value_at reported key ≢ value_at pairs key

-- a key is the only one of a call that is left in some past, or a scan that is left there reports something else at it
abbrev pub IsNamed : List KeptPast → ℕ → Type 0
IsNamed pasts key = Any (λ past. Any (λ o. IsOnlyKey o key ⊎ ReportsOther past.pairs o key) past.left) pasts

-- a put is of this value at this key, and its call is none of those that are left
pub record IsPutBefore (left : List Operation) (key value : ℕ) (p : Put) : Type 0 where
  pub key_is : p.key ≡ key
  pub value_is : p.value ≡ value
  pub not_left : Any (λ o. o.inv ≡ p.event) left → ⊥

-- the last such put is that of the call that was invoked at this event
pub record IsLastPut (left : List Operation) (puts : List Put) (key value event : ℕ) : Type 0 where
  pub before : List Put
  pub put : Put
  pub after : List Put
  pub parts : puts ≡ before ++ put ∷ after
  pub is : IsPutBefore left key value put
  pub none_after : All (λ p. IsPutBefore left key value p → ⊥) after
  pub event_is : put.event ≡ event

-- who put a value at a key before the calls that are left: the last such put, or none if there is none; and none if there is no value
abbrev pub IsPutBy : List Operation → List Put → ℕ → Option ℕ → Option ℕ → Type 0
IsPutBy left puts key None put = put ≡ None
IsPutBy left puts key (Some value) None = All (λ p. IsPutBefore left key value p → ⊥) puts
IsPutBy left puts key (Some value) (Some event) = IsLastPut left puts key value event

-- the value that a key has in a past, and who put it
pub record IsOriginIn (puts : List Put) (key : ℕ) (past : KeptPast) (origin : Origin) : Type 0 where
  pub value_is : value_at past.pairs key ≡ origin.value
  pub put_is : IsPutBy past.left puts key origin.value origin.put

-- what is said of a key: each value that it has in some past, once for each call that put it, and the invocations of the calls left that have
-- the key
pub record IsKeyLoss (pasts : List KeptPast) (puts : List Put) (loss : KeyViolation) : Type 0 where
  pub distinct : AllPairs (λ a b. a ≢ b) loss.from.items
  pub from : (origin : Origin) → Contains loss.from.items origin ↔ Any (λ past. IsOriginIn puts loss.key past origin) pasts
  pub rising : AllPairs (λ a b. a < b) loss.invoked.items
  pub invoked : (inv : ℕ) → Contains loss.invoked.items inv ↔ Any (λ past. Any (λ o. (o.inv ≡ inv) × HasKey o loss.key) past.left) pasts

-- the key of a call; a scan has none of its own
abbrev pub key_of : Call → Option ℕ
key_of (Get key) = Some key
key_of (Insert key value) = Some key
key_of (Remove key) = Some key
key_of (Scan low high) = None
key_of (Replace key expected value) = Some key

-- the key of a call, if a call is given
abbrev pub IsOwnKey : Option Call → ℕ → Type 0
IsOwnKey None key = ⊥
IsOwnKey (Some call) key = key_of call ≡ Some key

-- what is said of all keys that are named, and of the key of a call, by rising key
pub record AreKeyLosses (own : Option Call) (pasts : List KeptPast) (puts : List Put) (losses : List KeyViolation) : Type 0 where
  pub rising : AllPairs (λ a b. a.key < b.key) losses
  pub named : (key : ℕ) → Any (λ loss. loss.key ≡ key) losses ↔ (IsNamed pasts key ⊎ IsOwnKey own key)
  pub each : All (IsKeyLoss pasts puts) losses

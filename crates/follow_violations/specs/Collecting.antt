-- What loops over pasts, calls and pairs collect.
use Rattle.std.specs.Prelude.{◌≡◌, ◌≢◌, ◌⊎◌, ◌↔◌, ℕ, ◌≤◌, ◌==◌, ◌&&◌, Bool, not, if◌then◌else◌, List, [], ◌∷◌, ◌++◌, Option, None, Some, Any, Contains}
use Rattle.std.specs.List.{list_any}
use Rattle.events.specs.declared.event.Reply.{Reply}
use Rattle.events.specs.declared.operation.Operation.{Operation}
use Rattle.events.specs.Keys.{low_key, high_key}
use Rattle.map_object.specs.MapObject.{Contents, value_at}
use Rattle.follow_laws.specs.Pasts.{KeptPast}
use Rattle.follow_violations.specs.KeyLosses.{IsOnlyKey, ReportsOther, pairs_in}
use Rattle.follow_violations.specs.declared.lost_keys.Origin.{Origin}
use Rattle.follow_violations.specs.declared.puts.Put.{Put}

-- what some item gives was added to what there was
abbrev pub AreAdded : {X Y : Type 0} → (X → Y → Type 0) → List X → List Y → List Y → Type 0
AreAdded {X} {Y} gives items old new = (y : Y) → Contains new y ↔ (Contains old y ⊎ Any (λ x. gives x y) items)

-- what has a property was added to what there was
abbrev pub AreAddedOf : {Y : Type 0} → (Y → Type 0) → List Y → List Y → Type 0
AreAddedOf {Y} P old new = (y : Y) → Contains new y ↔ (Contains old y ⊎ P y)

-- a key of a range where two maps differ
pub record DiffersWithin (m n : Contents) (low high key : ℕ) : Type 0 where
  pub above : low ≤ key
  pub below : key ≤ high
  pub other : value_at m key ≢ value_at n key

-- a reply lists another value at a key of a range than these pairs have there, or only one of the two has one
pub record ListsOther (pairs : Contents) (reply : Reply) (low high key : ℕ) : Type 0 where
  pub listed : Contents
  pub lists : pairs_in reply ≡ Some listed
  pub differs : DiffersWithin listed pairs low high key

-- the key of a pair, of a range, where two maps differ
abbrev pub GivesDiffering : Contents → Contents → ℕ → ℕ → ℕ × ℕ → ℕ → Type 0
GivesDiffering m n low high pair key = (pair.0 ≡ key) × DiffersWithin m n low high key

-- a call that is left names a key
abbrev pub Names : Contents → Operation → ℕ → Type 0
Names pairs o key = IsOnlyKey o key ⊎ ReportsOther pairs o key

-- some call that is left in a past does
abbrev pub NamesIn : KeptPast → ℕ → Type 0
NamesIn past key = Any (λ o. Names past.pairs o key) past.left

-- the place of a call's invocation, and its least and greatest key
abbrev pub span_of : Operation → ℕ × ℕ × ℕ
span_of o = (o.inv, low_key o.call, high_key o.call)

abbrev pub IsSpanOf : Operation → ℕ × ℕ × ℕ → Type 0
IsSpanOf o span = span_of o ≡ span

abbrev pub IsSpanIn : KeptPast → ℕ × ℕ × ℕ → Type 0
IsSpanIn past span = Any (λ o. IsSpanOf o span) past.left

-- the spans of all calls that are left
abbrev pub AreSpansOf : List KeptPast → List (ℕ × ℕ × ℕ) → Type 0
AreSpansOf pasts spans = (span : ℕ × ℕ × ℕ) → Contains spans span ↔ Any (λ past. IsSpanIn past span) pasts

-- a span over a key, of an invocation
pub record IsSpanAt (key : ℕ) (span : ℕ × ℕ × ℕ) (inv : ℕ) : Type 0 where
  pub inv_is : span.0 ≡ inv
  pub above : span.1 ≤ key
  pub below : key ≤ span.2

-- something is noted, unless it was
abbrev pub IsNotedOnce : {Y : Type 0} → Y → List Y → List Y → Type 0
IsNotedOnce y old new = (Contains old y × (new ≡ old)) ⊎ ((Contains old y → ⊥) × (new ≡ old ++ y ∷ []))

-- whether a put is of this value at this key, and its call is not left in a past
abbrev pub is_put_before : KeptPast → ℕ → ℕ → Put → Bool
is_put_before past key value p = p.key == key && (p.value == value && not (list_any (λ o. o.inv == p.event) past.left))

-- the event of the last such put
abbrev pub last_put : KeptPast → ℕ → ℕ → Option ℕ → List Put → Option ℕ
last_put past key value last [] = last
last_put past key value last (p ∷ puts) = last_put past key value (if is_put_before past key value p then Some p.event else last) puts

-- who put a value that a key has in a past
abbrev pub put_in : List Put → KeptPast → ℕ → Option ℕ → Option ℕ
put_in puts past key None = None
put_in puts past key (Some value) = last_put past key value None puts

-- the value that a key has in a past, and who put it
abbrev pub origin_in : List Put → ℕ → KeptPast → Origin
origin_in puts key past = record { value = value_at past.pairs key; put = put_in puts past key (value_at past.pairs key) }

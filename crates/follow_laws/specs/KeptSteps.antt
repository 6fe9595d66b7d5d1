-- Laws of parts that are kept, between events.
use Rattle.std.specs.Prelude.{◌≡◌, ◌≢◌, ◌⊎◌, ◌↔◌, ℕ, ◌≤◌, true, false, List, [], ◌∷◌, ◌++◌, None, All, Any, Contains}
use Rattle.std.specs.List.{AllZip}
use Rattle.events.specs.declared.event.Event.{Event}
use Rattle.events.specs.declared.operation.Operation.{Operation}
use Rattle.events.specs.Keys.{low_key, may_change}
use Rattle.events.specs.Operations.{operations}
use Rattle.map_object.specs.MapObject.{Contents, IsRising, value_at}
use Rattle.orders.specs.Orders.{IsLinearizable}
use Rattle.follow_laws.specs.KeyedCalls.{concerns_key}
use Rattle.follow_laws.specs.Cuts.{Keys}
use Rattle.follow_laws.specs.Apart.{AreApart}
use Rattle.follow_laws.specs.Left.{HasKeysIn}
use Rattle.follow_laws.specs.Pasts.{FoundAt, KeptPast}
use Rattle.follow_laws.specs.Unions.{both_keys, ArePairs, FallsApart}
use Rattle.follow_laws.specs.Leads.{Leads, IsMadeOf}
use Rattle.follow_laws.specs.KeptParts.{KeptPart, AreKept}

-- the order of parts does not matter
abbrev pub PartsMove : Type 0
PartsMove =
    (start : Contents) (place : ℕ) (calls : List Operation) (part : KeptPart) (front back : List KeptPart)
    → AreKept start place calls (front ++ part ∷ back) ↔ AreKept start place calls (part ∷ front ++ back)

-- a part's keys may be given in another way
abbrev pub SameKeysAreKept : Type 0
SameKeysAreKept =
    (start : Contents) (place : ℕ) (calls : List Operation) (keys others : Keys) (pasts : List KeptPast) (rest : List KeptPart)
    → ((key : ℕ) → others key ≡ keys key) → AreKept start place calls (record { keys = keys; pasts = pasts } ∷ rest)
    → AreKept start place calls (record { keys = others; pasts = pasts } ∷ rest)

-- a past may be dropped if what is left of it has no order
abbrev pub DeadPastsAreLost : Type 0
DeadPastsAreLost =
    (start : Contents) (place : ℕ) (calls : List Operation) (keys : Keys) (past : KeptPast) (front back : List KeptPast) (rest : List KeptPart)
    → (IsLinearizable past.pairs past.left → ⊥)
    → AreKept start place calls (record { keys = keys; pasts = front ++ past ∷ back } ∷ rest)
    → AreKept start place calls (record { keys = keys; pasts = front ++ back } ∷ rest)

-- pending reads of these keys began no earlier than a moment
abbrev pub ReadsBeganAfter : Keys → ℕ → List Operation → Type 0
ReadsBeganAfter keys moment calls =
    (o : Operation) (key : ℕ) → Contains calls o → o.response ≡ None → may_change o.call ≡ false → keys key ≡ true
    → concerns_key o.call key ≡ true → moment ≤ o.inv

-- at a past moment pasts become others
abbrev pub PastsMoveOn : Type 0
PastsMoveOn =
    (start : Contents) (place moment : ℕ) (calls : List Operation) (keys : Keys) (pasts nexts : List KeptPast) (rest : List KeptPart)
    → ReadsBeganAfter keys moment calls → Leads moment pasts nexts
    → All (λ next. Any (λ past. IsMadeOf past next) pasts) nexts
    → AreKept start place calls (record { keys = keys; pasts = pasts } ∷ rest)
    → AreKept start place calls (record { keys = keys; pasts = nexts } ∷ rest)

-- two parts become one of all pairs of their pasts
abbrev pub KeptPartsUnite : Type 0
KeptPartsUnite =
    (start : Contents) (place : ℕ) (calls : List Operation) (part other : KeptPart) (all : List KeptPast) (rest : List KeptPart)
    → ArePairs part.keys part.pasts other.pasts all → AreKept start place calls (part ∷ other ∷ rest)
    → AreKept start place calls (record { keys = both_keys part.keys other.keys; pasts = all } ∷ rest)

-- a part may be split in two if all its pasts have the same at some of its keys
abbrev pub KeptPartsFallApart : Type 0
KeptPartsFallApart =
    (start : Contents) (place : ℕ) (calls : List Operation) (keys others : Keys) (a : KeptPast) (all other_kept : List KeptPast)
    (rest : List KeptPart) → AreApart keys others → all ≢ [] → AllZip (λ c b. FallsApart keys others c a b) all other_kept
    → AreKept start place calls (record { keys = both_keys keys others; pasts = all } ∷ rest)
    → AreKept start place calls (record { keys = keys; pasts = a ∷ [] } ∷ record { keys = others; pasts = other_kept } ∷ rest)

-- the order of a part's pasts does not matter, nor how often each appears
abbrev pub PastsInAnyOrderAreKept : Type 0
PastsInAnyOrderAreKept =
    (start : Contents) (place : ℕ) (calls : List Operation) (keys : Keys) (pasts others : List KeptPast) (rest : List KeptPart)
    → ((past : KeptPast) → Contains pasts past → Contains others past) → ((past : KeptPast) → Contains others past → Contains pasts past)
    → AreKept start place calls (record { keys = keys; pasts = pasts } ∷ rest)
    → AreKept start place calls (record { keys = keys; pasts = others } ∷ rest)

-- a past says something of these keys only
pub record IsWithinKeys (keys : Keys) (past : KeptPast) : Type 0 where
  pub rising : IsRising past.pairs
  pub nothing : (key : ℕ) → keys key ≡ false → value_at past.pairs key ≡ None
  pub left : All (HasKeysIn keys) past.left
  pub found : (f : FoundAt) → Contains past.found f → keys f.key ≡ true

-- each past of a part says something of the part's keys only
abbrev pub KeptPastsAreWithin : Type 0
KeptPastsAreWithin =
    (start : Contents) (place : ℕ) (calls : List Operation) (part : KeptPart) (rest : List KeptPart) → AreKept start place calls (part ∷ rest)
    → All (IsWithinKeys part.keys) part.pasts

-- a call is left, or the past has what it found and no call of its invocation is left
abbrev pub IsKnownIn : Operation → KeptPast → Type 0
IsKnownIn o past =
    Contains past.left o
    ⊎ ((f : FoundAt) × Contains past.found f × (f.inv ≡ o.inv) × (f.key ≡ low_key o.call) × All (λ p. p.inv ≢ o.inv) past.left)

-- in each past of its part a pending call that may change the map is left, or the past has what it
-- found
abbrev pub OpenChangesAreKept : Type 0
OpenChangesAreKept =
    (start : Contents) (place : ℕ) (calls : List Operation) (part : KeptPart) (rest : List KeptPart) (o : Operation) → Contains calls o
    → o.response ≡ None → may_change o.call ≡ true → part.keys (low_key o.call) ≡ true → AreKept start place calls (part ∷ rest)
    → All (IsKnownIn o) part.pasts

-- some past of a part goes on: what is left there has an order
abbrev pub PartGoesOn : KeptPart → Type 0
PartGoesOn part = Any (λ past. IsLinearizable past.pairs past.left) part.pasts

-- the events so far have an order exactly if each part goes on
abbrev pub KeptPartsDecide : Type 0
KeptPartsDecide =
    (start : Contents) (events : List Event) (place : ℕ) (parts : List KeptPart) → IsRising start
    → AreKept start place (operations events) parts → IsLinearizable start (operations events) ↔ All PartGoesOn parts

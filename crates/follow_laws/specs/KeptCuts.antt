-- Laws of cuts: pasts at a past moment, step by step.
use Rattle.std.specs.Prelude.{◌≡◌, ◌⊎◌, ℕ, ◌+◌, ◌<◌, true, false, List, ◌∷◌, ◌++◌, Option, Some, All, AllPairs, Contains}
use Rattle.events.specs.declared.operation.Operation.{Operation}
use Rattle.events.specs.Precedence.{is_before}
use Rattle.map_object.specs.MapObject.{Contents, value_at}
use Rattle.orders.specs.Orders.{IsLinearizable}
use Rattle.follow_laws.specs.KeyedCalls.{KeyedCall, IsFormed, is_completed, place_of, effect_at, keyed}
use Rattle.follow_laws.specs.KeyedOrders.{AreKeyedCalls}
use Rattle.follow_laws.specs.Choices.{Choice}
use Rattle.follow_laws.specs.Cuts.{Keys}
use Rattle.follow_laws.specs.Apart.{IsRead}
use Rattle.follow_laws.specs.Parts.{Part, Represent}
use Rattle.follow_laws.specs.Operations.{HasSomeKeyIn, OperationMayCome}
use Rattle.follow_laws.specs.Left.{HasKeysIn, HaveKeysTogether}
use Rattle.follow_laws.specs.Pasts.{KeptPast, IsPast, ArePasts, IsPastAfter, AreKeptAlike, OpenReadsBeganAfter}

-- Suppose that an operation of some of the keys is left that was answered, and no pending read
-- began before. Then a past becomes those after each operation that may come next there.
abbrev pub PastsComeNext : Type 0
PastsComeNext =
    (held : ℕ → Option ℕ) (place res : ℕ) (calls : List KeyedCall) (keys some : Keys) (kept : KeptPast) (past : Choice) (others : List Choice)
    (rest : List Part) (nexts : List KeptPast) (ended : Operation) → AreKeyedCalls calls → All IsFormed calls
    → ((key : ℕ) → some key ≡ true → keys key ≡ true)
    → Contains kept.left ended → place_of ended.response ≡ Some res → HasSomeKeyIn some ended → HaveKeysTogether some (res + 1) kept.left
    → OpenReadsBeganAfter keys (res + 1) calls kept → IsPast keys calls kept past
    → ((o : Operation) → Contains kept.left o → OperationMayCome some kept.pairs kept.left o
    → (next : KeptPast) × Contains nexts next × IsPastAfter kept o next)
    → ((next : KeptPast) → Contains nexts next
    → (o : Operation) × Contains kept.left o × OperationMayCome some kept.pairs kept.left o × IsPastAfter kept o next)
    → Represent held place calls (record { keys = keys; pasts = past ∷ others } ∷ rest)
    → (pasts : List Choice) × ArePasts keys calls nexts pasts
    × Represent held place calls (record { keys = keys; pasts = pasts ++ others } ∷ rest)

-- at one of these keys an operation does not fit what the map holds there
abbrev pub IsBarredBy : Keys → Contents → Operation → Type 0
IsBarredBy keys pairs o = (key : ℕ) × (keys key ≡ true) × ((effect_at o.call o.response key).fits (value_at pairs key) ≡ false)

-- operations that began before a place, and have some key among these, have all, or are barred at these
abbrev pub AreOwnOrBarredBy : Keys → ℕ → Contents → List Operation → Type 0
AreOwnOrBarredBy keys place pairs left =
    (o : Operation) → Contains left o → o.inv < place → HasSomeKeyIn keys o → HasKeysIn keys o ⊎ IsBarredBy keys pairs o

-- Suppose that this operation is the first left that ended. Then an operation may have some of these keys and others, if it is barred at these.
-- The past becomes those after each operation of some of these keys that may come next at all keys of the part.
abbrev pub UnbarredPastsComeNext : Type 0
UnbarredPastsComeNext =
    (held : ℕ → Option ℕ) (place res : ℕ) (calls : List KeyedCall) (keys some : Keys) (kept : KeptPast) (past : Choice) (others : List Choice)
    (rest : List Part) (nexts : List KeptPast) (ended : Operation) → AreKeyedCalls calls → All IsFormed calls
    → ((key : ℕ) → some key ≡ true → keys key ≡ true)
    → Contains kept.left ended → place_of ended.response ≡ Some res → HasSomeKeyIn some ended
    → All (λ o. is_before o.response res ≡ false) kept.left → AreOwnOrBarredBy some (res + 1) kept.pairs kept.left
    → OpenReadsBeganAfter keys (res + 1) calls kept → IsPast keys calls kept past
    → ((o : Operation) → Contains kept.left o → HasSomeKeyIn some o → OperationMayCome keys kept.pairs kept.left o
    → (next : KeptPast) × Contains nexts next × IsPastAfter kept o next)
    → ((next : KeptPast) → Contains nexts next
    → (o : Operation) × Contains kept.left o × OperationMayCome keys kept.pairs kept.left o × IsPastAfter kept o next)
    → Represent held place calls (record { keys = keys; pasts = past ∷ others } ∷ rest)
    → (pasts : List Choice) × ArePasts keys calls nexts pasts
    × Represent held place calls (record { keys = keys; pasts = pasts ++ others } ∷ rest)

-- a read that was answered, and may come next at some of the keys, is taken at once
abbrev pub ReadsOfPastsComeNext : Type 0
ReadsOfPastsComeNext =
    (held : ℕ → Option ℕ) (place : ℕ) (calls : List KeyedCall) (keys some : Keys) (kept next : KeptPast) (past : Choice) (others : List Choice)
    (rest : List Part) (b : Operation) → AreKeyedCalls calls → All IsFormed calls → ((key : ℕ) → some key ≡ true → keys key ≡ true)
    → Contains kept.left b → is_completed (keyed b) ≡ true → IsRead (keyed b) → OperationMayCome some kept.pairs kept.left b
    → HaveKeysTogether some (b.inv + 1) kept.left → OpenReadsBeganAfter keys (b.inv + 1) calls kept → IsPast keys calls kept past
    → IsPastAfter kept b next → Represent held place calls (record { keys = keys; pasts = past ∷ others } ∷ rest)
    → (after : Choice) × IsPast keys calls next after
    × Represent held place calls (record { keys = keys; pasts = after ∷ others } ∷ rest)

-- a past may be replaced by one that is like it
abbrev pub AlikePastsStand : Type 0
AlikePastsStand =
    (held : ℕ → Option ℕ) (place : ℕ) (calls : List KeyedCall) (keys : Keys) (kept other : KeptPast) (past twin : Choice) (others : List Choice)
    (rest : List Part) → AreKeptAlike kept other → IsPast keys calls kept past → IsPast keys calls other twin
    → Represent held place calls (record { keys = keys; pasts = past ∷ others } ∷ rest)
    → Represent held place calls (record { keys = keys; pasts = twin ∷ others } ∷ rest)

-- if two pasts are alike, one may be dropped
abbrev pub AlikePastsGo : Type 0
AlikePastsGo =
    (held : ℕ → Option ℕ) (place : ℕ) (calls : List KeyedCall) (keys : Keys) (kept other : KeptPast) (past twin : Choice) (others : List Choice)
    (rest : List Part) → AreKeptAlike kept other → IsPast keys calls kept past → IsPast keys calls other twin
    → Represent held place calls (record { keys = keys; pasts = past ∷ twin ∷ others } ∷ rest)
    → Represent held place calls (record { keys = keys; pasts = twin ∷ others } ∷ rest)

-- a past may be dropped if what is left after it has no order
abbrev pub PastsWithoutOrderGo : Type 0
PastsWithoutOrderGo =
    (held : ℕ → Option ℕ) (place : ℕ) (calls : List KeyedCall) (keys : Keys) (kept : KeptPast) (past : Choice) (others : List Choice)
    (rest : List Part) → AreKeyedCalls calls → AllPairs (λ a b. a.inv < b.inv) calls → (IsLinearizable kept.pairs kept.left → ⊥)
    → IsPast keys calls kept past → Represent held place calls (record { keys = keys; pasts = past ∷ others } ∷ rest)
    → Represent held place calls (record { keys = keys; pasts = others } ∷ rest)

-- the order of a part's pasts does not matter, nor how often each appears
abbrev pub PastsInAnyOrder : Type 0
PastsInAnyOrder =
    (held : ℕ → Option ℕ) (place : ℕ) (calls : List KeyedCall) (keys : Keys) (pasts others : List Choice) (rest : List Part)
    → ((past : Choice) → Contains pasts past → Contains others past) → ((past : Choice) → Contains others past → Contains pasts past)
    → Represent held place calls (record { keys = keys; pasts = pasts } ∷ rest)
    → Represent held place calls (record { keys = keys; pasts = others } ∷ rest)

-- Rules that go further than the laws, and are false.
use Rattle.std.specs.Prelude.{◌≡◌, ℕ, ◌<◌, true, false, List, [], ◌∷◌, ◌++◌, Option, All, AllPairs, Contains}
use Rattle.follow_laws.specs.KeyedCalls.{KeyedCall, ends_before, is_completed}
use Rattle.follow_laws.specs.KeyedOrders.{HasKeyedOrder}
use Rattle.follow_laws.specs.Growth.{HaveGrown}
use Rattle.follow_laws.specs.Choices.{Choice, rest_of}
use Rattle.follow_laws.specs.Cuts.{Keys}
use Rattle.follow_laws.specs.Parts.{Part, Represent, SomePastGoesOn}
use Rattle.follow_laws.specs.Steps.{IsLeftAt, MayComeNext, IsAfterCall, AreKnownAt, ArePartedBefore, IsReadAt}

-- that calls have an order if each part has a past that goes on, though a call is left at the keys of two parts
abbrev pub AnyPartsDecide : Type 0
AnyPartsDecide =
    (held : ℕ → Option ℕ) (place : ℕ) (calls : List KeyedCall) (parts : List Part) → HaveGrown place calls calls
    → AllPairs (λ a b. a.inv < b.inv) calls → Represent held place calls parts → All (SomePastGoesOn calls) parts → HasKeyedOrder held calls

-- that a past may be replaced by those after each call that may come next, if a call that was not answered is left
abbrev pub PendingCallsMustCome : Type 0
PendingCallsMustCome =
    (held : ℕ → Option ℕ) (place limit : ℕ) (calls : List KeyedCall) (keys : Keys) (past : Choice) (others nexts : List Choice) (rest : List Part)
    (begun : KeyedCall) → Contains calls begun → begun.inv < limit → begun.refused ≡ false → IsLeftAt keys past begun
    → AreKnownAt keys limit past calls
    → ArePartedBefore keys limit (record { keys = keys; pasts = past ∷ [] } ∷ rest) calls
    → ((a : KeyedCall) → Contains calls a → MayComeNext keys past calls a
    → (next : Choice) × Contains nexts next × IsAfterCall keys past a next)
    → ((next : Choice) → Contains nexts next
    → (a : KeyedCall) × Contains calls a × MayComeNext keys past calls a × IsAfterCall keys past a next)
    → Represent held place calls (record { keys = keys; pasts = past ∷ others } ∷ rest)
    → Represent held place calls (record { keys = keys; pasts = nexts ++ others } ∷ rest)

-- that a past may be replaced by those after each call that may come next at some keys, though a call is left at these and at others
abbrev pub TiedCallsComeNext : Type 0
TiedCallsComeNext =
    (held : ℕ → Option ℕ) (place limit : ℕ) (calls : List KeyedCall) (keys some : Keys) (past : Choice) (others nexts : List Choice)
    (rest : List Part) (ended : KeyedCall) → ((key : ℕ) → some key ≡ true → keys key ≡ true)
    → Contains calls ended → ends_before ended.res limit ≡ true → ended.refused ≡ false
    → IsLeftAt some past ended → AreKnownAt some limit past calls
    → ((a : KeyedCall) → Contains calls a → MayComeNext some past calls a
    → (next : Choice) × Contains nexts next × IsAfterCall keys past a next)
    → ((next : Choice) → Contains nexts next
    → (a : KeyedCall) × Contains calls a × MayComeNext some past calls a × IsAfterCall keys past a next)
    → Represent held place calls (record { keys = keys; pasts = past ∷ others } ∷ rest)
    → Represent held place calls (record { keys = keys; pasts = nexts ++ others } ∷ rest)

-- that a read that was answered is taken if it fits what the keys hold, though calls that may change them are left
abbrev pub ReadsAreTakenAtOnce : Type 0
ReadsAreTakenAtOnce =
    (held : ℕ → Option ℕ) (place : ℕ) (calls : List KeyedCall) (keys : Keys) (past next : Choice) (others : List Choice) (rest : List Part)
    (b : KeyedCall) → Contains calls b → is_completed b ≡ true → b.refused ≡ false → IsReadAt keys past b
    → ((key : ℕ) → keys key ≡ true → ((rest_of past b).effect key).fits (past.holds key) ≡ true) → IsAfterCall keys past b next
    → Represent held place calls (record { keys = keys; pasts = past ∷ others } ∷ rest)
    → Represent held place calls (record { keys = keys; pasts = next ∷ others } ∷ rest)

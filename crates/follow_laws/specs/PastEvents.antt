-- Laws of what is kept of a past as events come.
use Rattle.std.specs.Prelude.{◌≡◌, ◌≢◌, ◌⊎◌, ◌↔◌, ℕ, ◌<◌, true, false, List, [], ◌∷◌, ◌++◌, Option, None, Some, All, Contains}
use Rattle.events.specs.declared.operation.Operation.{Operation}
use Rattle.events.specs.declared.operation.Response.{Response}
use Rattle.events.specs.Keys.{low_key, high_key}
use Rattle.map_object.specs.MapObject.{Contents, IsRising, value_at}
use Rattle.follow_laws.specs.KeyedCalls.{KeyedCall, IsNoEffect, is_refusal, effect_at, keyed}
use Rattle.follow_laws.specs.KeyedOrders.{AreKeyedCalls}
use Rattle.follow_laws.specs.Forms.{HasForm}
use Rattle.follow_laws.specs.Choices.{Choice, at_first}
use Rattle.follow_laws.specs.Cuts.{Keys}
use Rattle.follow_laws.specs.Apart.{IsRead}
use Rattle.follow_laws.specs.Parts.{Part, Represent}
use Rattle.follow_laws.specs.Operations.{HasSomeKeyIn}
use Rattle.follow_laws.specs.Left.{HasKeysIn, HasNoKeyIn, answered}
use Rattle.follow_laws.specs.Pasts.{KeptPast, FoundAt, IsPast}

-- before any event nothing is left
abbrev pub NothingIsKept : Type 0
NothingIsKept =
    (pairs : Contents) → IsRising pairs
    → IsPast (λ key. true) [] (record { pairs = pairs; left = []; found = [] }) (at_first (value_at pairs))

-- a call of one key begins: it is left at its key
abbrev pub BegunCallsAreKept : Type 0
BegunCallsAreKept =
    (keys : Keys) (calls : List KeyedCall) (pairs : Contents) (left : List Operation) (found : List FoundAt) (past : Choice) (o : Operation)
    → All (λ a. a.inv < o.inv) calls → o.response ≡ None → low_key o.call ≡ high_key o.call → keys (low_key o.call) ≡ true
    → IsPast keys calls (record { pairs = pairs; left = left; found = found }) past
    → IsPast keys (calls ++ keyed o ∷ []) (record { pairs = pairs; left = left ++ o ∷ []; found = found }) past

-- one of other keys begins, or a read: nothing changes
abbrev pub OthersBegin : Type 0
OthersBegin =
    (keys : Keys) (calls : List KeyedCall) (kept : KeptPast) (past : Choice) (o : Operation) → All (λ a. a.inv < o.inv) calls
    → o.response ≡ None → HasNoKeyIn keys o ⊎ IsRead (keyed o) → IsPast keys calls kept past
    → IsPast keys (calls ++ keyed o ∷ []) kept past

-- a call that is left is answered, and not refused: it is left with its answer
abbrev pub AnsweredCallsAreKept : Type 0
AnsweredCallsAreKept =
    (keys : Keys) (front back : List KeyedCall) (pairs : Contents) (before after : List Operation) (found : List FoundAt) (past : Choice)
    (o : Operation) (response : Response) → AreKeyedCalls (front ++ keyed o ∷ back) → is_refusal response.reply ≡ false
    → HasForm o.call (Some response)
    → IsPast keys (front ++ keyed o ∷ back) (record { pairs = pairs; left = before ++ o ∷ after; found = found }) past
    → IsPast keys (front ++ keyed (answered response o) ∷ back)
    (record { pairs = pairs; left = before ++ answered response o ∷ after; found = found }) past

-- a scan that was pending, and reported pairs, is left at these keys from its answer on
abbrev pub AnsweredReadsAreKept : Type 0
AnsweredReadsAreKept =
    (keys : Keys) (front back : List KeyedCall) (pairs : Contents) (before after : List Operation) (found : List FoundAt) (past : Choice)
    (o : Operation) (response : Response) → AreKeyedCalls (front ++ keyed o ∷ back) → o.response ≡ None → is_refusal response.reply ≡ false
    → HasForm o.call (Some response) → HasSomeKeyIn keys o → HasKeysIn keys o → ((f : FoundAt) → Contains found f → f.inv ≢ o.inv)
    → All (λ p. p.inv < o.inv) before → All (λ p. o.inv < p.inv) after
    → IsPast keys (front ++ keyed o ∷ back) (record { pairs = pairs; left = before ++ after; found = found }) past
    → IsPast keys (front ++ keyed (answered response o) ∷ back)
    (record { pairs = pairs; left = before ++ answered response o ∷ after; found = found }) past

-- one of other keys is answered: nothing changes
abbrev pub OthersAreAnswered : Type 0
OthersAreAnswered =
    (keys : Keys) (front back : List KeyedCall) (kept : KeptPast) (past : Choice) (o : Operation) (response : Response)
    → AreKeyedCalls (front ++ keyed o ∷ back) → HasNoKeyIn keys o → IsPast keys (front ++ keyed o ∷ back) kept past
    → IsPast keys (front ++ keyed (answered response o) ∷ back) kept past

-- a call that was taken is answered: if its answer fits what it found, that may be dropped
abbrev pub TakenCallsAgree : Type 0
TakenCallsAgree =
    (keys : Keys) (front back : List KeyedCall) (pairs : Contents) (left : List Operation) (found others : List FoundAt) (past : Choice)
    (o : Operation) (response : Response) (f : FoundAt) → AreKeyedCalls (front ++ keyed o ∷ back)
    → low_key o.call ≡ high_key o.call → is_refusal response.reply ≡ false → Contains found f → f.inv ≡ o.inv
    → (effect_at o.call (Some response) f.key).fits f.value ≡ true
    → ((g : FoundAt) → Contains others g ↔ (Contains found g × (g.inv ≢ o.inv)))
    → IsPast keys (front ++ keyed o ∷ back) (record { pairs = pairs; left = left; found = found }) past
    → IsPast keys (front ++ keyed (answered response o) ∷ back) (record { pairs = pairs; left = left; found = others }) past

-- if a call that was taken is refused, or its answer does not fit what it found, the past may be
-- dropped
abbrev pub TakenCallsDisagree : Type 0
TakenCallsDisagree =
    (held : ℕ → Option ℕ) (place : ℕ) (keys : Keys) (front back : List KeyedCall) (kept : KeptPast) (past : Choice) (others : List Choice)
    (rest : List Part) (o : Operation) (response : Response) (f : FoundAt) → Contains kept.found f → f.inv ≡ o.inv
    → (is_refusal response.reply ≡ true) ⊎ ((effect_at o.call (Some response) f.key).fits f.value ≡ false)
    → IsPast keys (front ++ keyed o ∷ back) kept past
    → Represent held place (front ++ keyed (answered response o) ∷ back) (record { keys = keys; pasts = past ∷ others } ∷ rest)
    → Represent held place (front ++ keyed (answered response o) ∷ back) (record { keys = keys; pasts = others } ∷ rest)

-- a call that is left is refused: it is no longer left
abbrev pub RefusedCallsAreNotKept : Type 0
RefusedCallsAreNotKept =
    (keys : Keys) (front back : List KeyedCall) (pairs : Contents) (before after : List Operation) (found : List FoundAt) (past : Choice)
    (o : Operation) (response : Response) → AreKeyedCalls (front ++ keyed o ∷ back) → is_refusal response.reply ≡ true
    → IsPast keys (front ++ keyed o ∷ back) (record { pairs = pairs; left = before ++ o ∷ after; found = found }) past
    → IsPast keys (front ++ keyed (answered response o) ∷ back) (record { pairs = pairs; left = before ++ after; found = found }) past

-- a read that was pending, and not among what is left, is refused: nothing changes
abbrev pub RefusedReadsAreNotKept : Type 0
RefusedReadsAreNotKept =
    (keys : Keys) (front back : List KeyedCall) (kept : KeptPast) (past : Choice) (o : Operation) (response : Response)
    → o.response ≡ None → is_refusal response.reply ≡ true
    → ((p : Operation) → Contains kept.left p → p.inv ≢ o.inv) → ((f : FoundAt) → Contains kept.found f → f.inv ≢ o.inv)
    → IsPast keys (front ++ keyed o ∷ back) kept past
    → IsPast keys (front ++ keyed (answered response o) ∷ back) kept past

-- such a read that was answered, and reported nothing, is taken at once
abbrev pub UntoldReadsAreTaken : Type 0
UntoldReadsAreTaken =
    (held : ℕ → Option ℕ) (place : ℕ) (keys : Keys) (front back : List KeyedCall) (kept : KeptPast) (past : Choice) (others : List Choice)
    (rest : List Part) (o : Operation) (response : Response) → AreKeyedCalls (front ++ keyed o ∷ back) → o.response ≡ None
    → is_refusal response.reply ≡ false → ((key : ℕ) → IsNoEffect (effect_at o.call (Some response) key))
    → ((p : Operation) → Contains kept.left p → p.inv ≢ o.inv) → ((f : FoundAt) → Contains kept.found f → f.inv ≢ o.inv)
    → IsPast keys (front ++ keyed o ∷ back) kept past
    → Represent held place (front ++ keyed (answered response o) ∷ back) (record { keys = keys; pasts = past ∷ others } ∷ rest)
    → (next : Choice) × IsPast keys (front ++ keyed (answered response o) ∷ back) kept next
    × Represent held place (front ++ keyed (answered response o) ∷ back) (record { keys = keys; pasts = next ∷ others } ∷ rest)

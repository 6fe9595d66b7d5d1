-- Laws of parts that are kept, as events come.
use Rattle.std.specs.Prelude.{◌≡◌, ◌≢◌, ◌⊎◌, ◌↔◌, ℕ, suc, ◌<◌, ◌≤◌, true, false, List, [], ◌∷◌, ◌++◌, None, Some, map, All, Contains}
use Rattle.std.specs.List.{AllZip}
use Rattle.events.specs.declared.operation.Operation.{Operation}
use Rattle.events.specs.declared.operation.Response.{Response}
use Rattle.events.specs.Keys.{low_key, high_key, may_change}
use Rattle.map_object.specs.MapObject.{Contents, IsRising}
use Rattle.orders.specs.Orders.{IsLegalCall}
use Rattle.follow_laws.specs.KeyedCalls.{IsNoEffect, is_refusal, effect_at}
use Rattle.follow_laws.specs.Forms.{HasForm}
use Rattle.follow_laws.specs.Cuts.{Keys}
use Rattle.follow_laws.specs.Left.{HasKeysIn, answered}
use Rattle.follow_laws.specs.Pasts.{FoundAt, KeptPast}
use Rattle.follow_laws.specs.KeptParts.{KeptPart, AreKept, at_rest}

-- before any event all keys are one part, at rest
abbrev pub AllIsKept : Type 0
AllIsKept = (start : Contents) → IsRising start → AreKept start 0 [] (record { keys = λ key. true; pasts = at_rest start ∷ [] } ∷ [])

-- a past after a call began
abbrev pub with_begun : Operation → KeptPast → KeptPast
with_begun o past = record { pairs = past.pairs; left = past.left ++ o ∷ []; found = past.found }

-- a call that may change the map begins: it is left in each past of the part that has its key
abbrev pub ChangesBegin : Type 0
ChangesBegin =
    (start : Contents) (place : ℕ) (calls : List Operation) (part : KeptPart) (rest : List KeptPart) (o : Operation)
    → o.inv ≡ place → o.response ≡ None → may_change o.call ≡ true → part.keys (low_key o.call) ≡ true
    → AreKept start place calls (part ∷ rest)
    → AreKept start (suc place) (calls ++ o ∷ []) (record { keys = part.keys; pasts = map (with_begun o) part.pasts } ∷ rest)

-- a read begins: nothing is saved of it
abbrev pub ReadsBegin : Type 0
ReadsBegin =
    (start : Contents) (place : ℕ) (calls : List Operation) (parts : List KeptPart) (o : Operation) → o.inv ≡ place → o.response ≡ None
    → may_change o.call ≡ false → AreKept start place calls parts → AreKept start (suc place) (calls ++ o ∷ []) parts

-- What an answer makes of a past. The call is left there with its answer. Or it was refused, and is no longer left. Or it has taken effect, its
-- answer fits what it found, and what it found is dropped. Else the past is lost.
abbrev pub IsLeftWithAnswer : Operation → Response → KeptPast → List KeptPast → Type 0
IsLeftWithAnswer o response past nexts =
    (before : List Operation) × (after : List Operation) × (past.left ≡ before ++ o ∷ after) × (is_refusal response.reply ≡ false)
    × (nexts ≡ record { pairs = past.pairs; left = before ++ answered response o ∷ after; found = past.found } ∷ [])

abbrev pub IsLeftNoMore : Operation → Response → KeptPast → List KeptPast → Type 0
IsLeftNoMore o response past nexts =
    (before : List Operation) × (after : List Operation) × (past.left ≡ before ++ o ∷ after) × (is_refusal response.reply ≡ true)
    × (nexts ≡ record { pairs = past.pairs; left = before ++ after; found = past.found } ∷ [])

pub record FoundAsAnswered (o : Operation) (response : Response) (past : KeptPast) (nexts : List KeptPast) : Type 0 where
  pub f : FoundAt
  pub is_found : Contains past.found f
  pub own : f.inv ≡ o.inv
  pub accepted : is_refusal response.reply ≡ false
  pub fits : (effect_at o.call (Some response) f.key).fits f.value ≡ true
  pub others : List FoundAt
  pub each : (g : FoundAt) → Contains others g ↔ (Contains past.found g × (g.inv ≢ o.inv))
  pub next : nexts ≡ record { pairs = past.pairs; left = past.left; found = others } ∷ []

pub record FoundOtherwise (o : Operation) (response : Response) (past : KeptPast) (nexts : List KeptPast) : Type 0 where
  pub f : FoundAt
  pub is_found : Contains past.found f
  pub own : f.inv ≡ o.inv
  pub wrong : (is_refusal response.reply ≡ true) ⊎ ((effect_at o.call (Some response) f.key).fits f.value ≡ false)
  pub none : nexts ≡ []

abbrev pub IsAfterAnswer : Operation → Response → KeptPast → List KeptPast → Type 0
IsAfterAnswer o response past nexts =
    IsLeftWithAnswer o response past nexts ⊎ IsLeftNoMore o response past nexts ⊎ FoundAsAnswered o response past nexts
    ⊎ FoundOtherwise o response past nexts

-- what becomes of pasts, one after another, when a call is answered
abbrev pub AreAfterAnswer : Operation → Response → List KeptPast → List KeptPast → Type 0
AreAfterAnswer o response [] nexts = nexts ≡ []
AreAfterAnswer o response (past ∷ pasts) nexts =
    (first : List KeptPast) × (more : List KeptPast) × (nexts ≡ first ++ more) × IsAfterAnswer o response past first
    × AreAfterAnswer o response pasts more

-- a call that may change the map is answered
abbrev pub ChangesAreAnswered : Type 0
ChangesAreAnswered =
    (start : Contents) (place : ℕ) (front back : List Operation) (part : KeptPart) (rest : List KeptPart) (o : Operation) (response : Response)
    (nexts : List KeptPast) → o.response ≡ None → may_change o.call ≡ true → response.res ≡ place → part.keys (low_key o.call) ≡ true
    → AreAfterAnswer o response part.pasts nexts → AreKept start place (front ++ o ∷ back) (part ∷ rest)
    → AreKept start (suc place) (front ++ answered response o ∷ back) (record { keys = part.keys; pasts = nexts } ∷ rest)

-- a past with a read that was answered, at its place
abbrev pub IsWithRead : Operation → KeptPast → KeptPast → Type 0
IsWithRead o past next =
    (before : List Operation) × (after : List Operation) × (past.left ≡ before ++ after) × All (λ p. p.inv < o.inv) before
    × All (λ p. o.inv < p.inv) after × (next ≡ record { pairs = past.pairs; left = before ++ o ∷ after; found = past.found })

-- a read is answered, all of whose keys are of one part: it is left there
abbrev pub ReadsAreAnswered : Type 0
ReadsAreAnswered =
    (start : Contents) (place : ℕ) (front back : List Operation) (part : KeptPart) (rest : List KeptPart) (o : Operation) (response : Response)
    (nexts : List KeptPast) → o.response ≡ None → may_change o.call ≡ false → is_refusal response.reply ≡ false → response.res ≡ place
    → HasForm o.call (Some response) → low_key o.call ≤ high_key o.call → part.keys (low_key o.call) ≡ true → HasKeysIn part.keys o
    → AllZip (IsWithRead (answered response o)) part.pasts nexts → AreKept start place (front ++ o ∷ back) (part ∷ rest)
    → AreKept start (suc place) (front ++ answered response o ∷ back) (record { keys = part.keys; pasts = nexts } ∷ rest)

-- if these keys are at rest, and hold what it reported, nothing is left of it
abbrev pub ReadsAtRestAreTaken : Type 0
ReadsAtRestAreTaken =
    (start : Contents) (place : ℕ) (front back : List Operation) (keys : Keys) (pairs : Contents) (rest : List KeptPart) (o : Operation)
    (response : Response) → o.response ≡ None → may_change o.call ≡ false → is_refusal response.reply ≡ false → response.res ≡ place
    → HasForm o.call (Some response) → keys (low_key o.call) ≡ true → HasKeysIn keys o
    → IsLegalCall pairs o.call (Some response)
    → AreKept start place (front ++ o ∷ back) (record { keys = keys; pasts = at_rest pairs ∷ [] } ∷ rest)
    → AreKept start (suc place) (front ++ answered response o ∷ back) (record { keys = keys; pasts = at_rest pairs ∷ [] } ∷ rest)

-- a read is answered that reports nothing, or is refused: nothing is left of it
abbrev pub ReadsWithoutReportAreTaken : Type 0
ReadsWithoutReportAreTaken =
    (start : Contents) (place : ℕ) (front back : List Operation) (parts : List KeptPart) (o : Operation) (response : Response)
    → o.response ≡ None → may_change o.call ≡ false → response.res ≡ place → HasForm o.call (Some response)
    → ((key : ℕ) → IsNoEffect (effect_at o.call (Some response) key)) → AreKept start place (front ++ o ∷ back) parts
    → AreKept start (suc place) (front ++ answered response o ∷ back) parts

-- Laws of what is left at some keys, as events come.
use Rattle.std.specs.Prelude.{◌≡◌, ◌≢◌, ◌⊎◌, ℕ, ◌<◌, ◌≤◌, true, false, ◌||◌, List, [], ◌∷◌, ◌++◌, Option, Some, None, All, AllPairs, Contains}
use Rattle.events.specs.declared.operation.Operation.{Operation}
use Rattle.events.specs.declared.operation.Response.{Response}
use Rattle.map_object.specs.MapObject.{Contents, IsRising, value_at}
use Rattle.follow_laws.specs.KeyedCalls.{KeyedCall, IsNoEffect, is_completed, is_refusal, concerns_key, keyed}
use Rattle.follow_laws.specs.KeyedOrders.{AreKeyedCalls}
use Rattle.follow_laws.specs.Forms.{HasForm}
use Rattle.follow_laws.specs.Choices.{Choice, at_first, rest_of}
use Rattle.follow_laws.specs.Cuts.{Keys}
use Rattle.follow_laws.specs.Apart.{AreApart, IsRead}
use Rattle.follow_laws.specs.Parts.{Part, IsAt, Represent, AgreesAt}
use Rattle.follow_laws.specs.Steps.{IsAfterCall}
use Rattle.follow_laws.specs.Left.{IsLeft, HasKeysIn, HaveTheirKeys, HasNoKeyIn, IsNotTakenAt, IsTakenAt, answered, AreTogether, pairs_at}

-- before any event nothing is left
abbrev pub NothingIsLeft : Type 0
NothingIsLeft =
    (keys : Keys) (limit : ℕ) (pairs : Contents) → IsRising pairs → ((key : ℕ) → keys key ≡ false → value_at pairs key ≡ None)
    → IsLeft keys (at_first (value_at pairs)) limit [] pairs []

-- a call of these keys begins: it is left
abbrev pub BegunCallsAreLeft : Type 0
BegunCallsAreLeft =
    (keys : Keys) (past : Choice) (limit : ℕ) (calls : List KeyedCall) (pairs : Contents) (left : List Operation) (o : Operation) (key : ℕ)
    → All (λ a. a.inv < o.inv) calls → o.response ≡ None → concerns_key o.call key ≡ true → HasKeysIn keys o → IsNotTakenAt keys past o.inv
    → IsLeft keys past limit calls pairs left
    → IsLeft keys past limit (calls ++ keyed o ∷ []) pairs (left ++ o ∷ [])

-- one of other keys begins, or a read after the limit: nothing changes
abbrev pub OtherCallsBegin : Type 0
OtherCallsBegin =
    (keys : Keys) (past : Choice) (limit : ℕ) (calls : List KeyedCall) (pairs : Contents) (left : List Operation) (o : Operation)
    → o.response ≡ None → HasNoKeyIn keys o ⊎ (IsRead (keyed o) × (limit ≤ o.inv)) → IsLeft keys past limit calls pairs left
    → IsLeft keys past limit (calls ++ keyed o ∷ []) pairs left

-- a call that is left is answered, and not refused: it is left with its answer
abbrev pub AnsweredCallsAreLeft : Type 0
AnsweredCallsAreLeft =
    (keys : Keys) (past : Choice) (limit : ℕ) (front back : List KeyedCall) (pairs : Contents) (before after : List Operation) (o : Operation)
    (response : Response) → AreKeyedCalls (front ++ keyed o ∷ back) → is_refusal response.reply ≡ false → HasForm o.call (Some response)
    → HasKeysIn keys o → IsNotTakenAt keys past o.inv → IsLeft keys past limit (front ++ keyed o ∷ back) pairs (before ++ o ∷ after)
    → IsLeft keys past limit (front ++ keyed (answered response o) ∷ back) pairs (before ++ answered response o ∷ after)

-- a call of these keys that was not left becomes left when it is answered, as a read may
abbrev pub AnsweredReadsAreLeft : Type 0
AnsweredReadsAreLeft =
    (keys : Keys) (past : Choice) (limit : ℕ) (front back : List KeyedCall) (pairs : Contents) (before after : List Operation) (o : Operation)
    (response : Response) (key : ℕ) → is_refusal response.reply ≡ false → HasForm o.call (Some response) → concerns_key o.call key ≡ true
    → HasKeysIn keys o → IsNotTakenAt keys past o.inv → All (λ p. p.inv < o.inv) before → All (λ p. o.inv < p.inv) after
    → IsLeft keys past limit (front ++ keyed o ∷ back) pairs (before ++ after)
    → IsLeft keys past limit (front ++ keyed (answered response o) ∷ back) pairs (before ++ answered response o ∷ after)

-- a call that was taken is answered: if the answer agrees, nothing changes
abbrev pub TakenCallsAreAnswered : Type 0
TakenCallsAreAnswered =
    (keys : Keys) (past : Choice) (limit : ℕ) (front back : List KeyedCall) (pairs : Contents) (left : List Operation) (o : Operation)
    (response : Response) → IsTakenAt keys past o → AgreesAt keys past (keyed (answered response o))
    → IsLeft keys past limit (front ++ keyed o ∷ back) pairs left
    → IsLeft keys past limit (front ++ keyed (answered response o) ∷ back) pairs left

-- one of other keys is answered: nothing changes, unless it is refused and was taken at these
abbrev pub OtherCallsAreAnswered : Type 0
OtherCallsAreAnswered =
    (keys : Keys) (past : Choice) (limit : ℕ) (front back : List KeyedCall) (pairs : Contents) (left : List Operation) (o : Operation)
    (response : Response) → HasNoKeyIn keys o
    → ((key : ℕ) → keys key ≡ true → past.taken o.inv key ≡ true → is_refusal response.reply ≡ false)
    → IsLeft keys past limit (front ++ keyed o ∷ back) pairs left
    → IsLeft keys past limit (front ++ keyed (answered response o) ∷ back) pairs left

-- a call that is refused is no longer left; a call that was not left stays so
abbrev pub RefusedCallsAreNotLeft : Type 0
RefusedCallsAreNotLeft =
    (keys : Keys) (past : Choice) (limit : ℕ) (front back : List KeyedCall) (pairs : Contents) (before after : List Operation) (o : Operation)
    (response : Response) → is_refusal response.reply ≡ true → IsNotTakenAt keys past o.inv
    → (AreKeyedCalls (front ++ keyed o ∷ back) → IsLeft keys past limit (front ++ keyed o ∷ back) pairs (before ++ o ∷ after)
    → IsLeft keys past limit (front ++ keyed (answered response o) ∷ back) pairs (before ++ after))
    × (((p : Operation) → Contains (before ++ after) p → p.inv ≢ o.inv)
    → IsLeft keys past limit (front ++ keyed o ∷ back) pairs (before ++ after)
    → IsLeft keys past limit (front ++ keyed (answered response o) ∷ back) pairs (before ++ after))

-- a call that was answered and has no effect at some keys is taken there at any time
abbrev pub CallsWithoutEffectAreTaken : Type 0
CallsWithoutEffectAreTaken =
    (held : ℕ → Option ℕ) (place : ℕ) (calls : List KeyedCall) (keys : Keys) (past next : Choice) (others : List Choice) (rest : List Part)
    (b : KeyedCall) → Contains calls b → is_completed b ≡ true → b.refused ≡ false
    → ((key : ℕ) → keys key ≡ true → IsNoEffect ((rest_of past b).effect key)) → IsAfterCall keys past b next
    → Represent held place calls (record { keys = keys; pasts = past ∷ others } ∷ rest)
    → Represent held place calls (record { keys = keys; pasts = next ∷ others } ∷ rest)

-- what is left at two sets of keys is left at both together
abbrev pub LeftCallsUnite : Type 0
LeftCallsUnite =
    (keys others : Keys) (a b c : Choice) (limit : ℕ) (calls : List KeyedCall) (pairs other_pairs both : Contents)
    (left other_left all : List Operation) → IsAt keys a c → IsAt others b c
    → All (HasKeysIn keys) left → All (HasKeysIn others) other_left → AreTogether keys pairs other_pairs both left other_left all
    → IsLeft keys a limit calls pairs left → IsLeft others b limit calls other_pairs other_left
    → IsLeft (λ key. keys key || others key) c limit calls both all

-- what is left splits in two if each call that is left has keys of only one of two sets
abbrev pub LeftCallsPart : Type 0
LeftCallsPart =
    (keys others : Keys) (past : Choice) (limit : ℕ) (calls : List KeyedCall) (pairs : Contents) (left some : List Operation)
    → AreApart keys others → AllPairs (λ o p. o.inv < p.inv) some → HaveTheirKeys calls left
    → ((o : Operation) → Contains left o → (HasKeysIn keys o × Contains some o) ⊎ HasKeysIn others o)
    → ((o : Operation) → Contains some o → HasKeysIn keys o × Contains left o)
    → IsLeft (λ key. keys key || others key) past limit calls pairs left
    → IsLeft keys past limit calls (pairs_at keys pairs) some

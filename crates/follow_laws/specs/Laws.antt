-- Laws of parts.
use Rattle.std.specs.Prelude.{◌≡◌, ◌⊎◌, ◌↔◌, ℕ, ◌+◌, ◌<◌, ◌≤◌, true, false, List, [], ◌∷◌, ◌++◌, map, Option, Some, All, AllPairs, Contains}
use Rattle.events.specs.declared.operation.Operation.{Operation}
use Rattle.map_object.specs.MapObject.{Contents}
use Rattle.orders.specs.Orders.{IsLinearizable, after_call}
use Rattle.follow_laws.specs.KeyedCalls.{KeyedCall, IsFormed, is_completed, ends_before, keyed}
use Rattle.follow_laws.specs.KeyedOrders.{HasKeyedOrder, AreKeyedCalls}
use Rattle.follow_laws.specs.Growth.{HaveGrown}
use Rattle.follow_laws.specs.Choices.{Choice, at_first, rest_of}
use Rattle.follow_laws.specs.Cuts.{Keys, IsWithin}
use Rattle.follow_laws.specs.Apart.{AreApart, IsAlikeAt}
use Rattle.follow_laws.specs.Parts.{Part, IsOneOf, ShareKeys, Represent, GoesOnAt, SomePastGoesOn, AreOfOnePart, AgreesAt, left_at}
use Rattle.follow_laws.specs.Steps.{IsLeftAt, NoneIsLeftAt, MayComeNext, IsAfterCall, AreKnownAt, ArePartedBefore, AreOwnOrBarred, IsReadAt, IsAtRest, AreJoined}
use Rattle.follow_laws.specs.Operations.{AreLeftCalls, AreOfLeftCalls, AreAllLeft, OperationMayCome, without_call}
use Rattle.follow_laws.specs.Left.{HaveKeysTogether, HaveTheirKeys}
use Rattle.follow_laws.specs.Wider.{AnyPartsDecide, PendingCallsMustCome, TiedCallsComeNext, ReadsAreTakenAtOnce}

-- before any event all keys are one part, of one past: no call is taken, and the keys hold what they hold at the start
abbrev pub PartsBegin : Type 0
PartsBegin = (held : ℕ → Option ℕ) → Represent held 0 [] (record { keys = λ key. true; pasts = at_first held ∷ [] } ∷ [])

-- parts that represent the calls do so with further events
abbrev pub PartsStay : Type 0
PartsStay =
    (held : ℕ → Option ℕ) (place next : ℕ) (calls more : List KeyedCall) (parts : List Part) → place ≤ next → HaveGrown place calls more
    → Represent held place calls parts → Represent held next more parts

-- in any order
abbrev pub PartsInAnyOrder : Type 0
PartsInAnyOrder =
    (held : ℕ → Option ℕ) (place : ℕ) (calls : List KeyedCall) (parts others : List Part) → ShareKeys others
    → ((part : Part) → Contains parts part → Contains others part) → ((part : Part) → Contains others part → Contains parts part)
    → Represent held place calls parts → Represent held place calls others

-- the calls have an order exactly if each part has a past that goes on to one at its keys
abbrev pub PartsDecide : Type 0
PartsDecide =
    (held : ℕ → Option ℕ) (place : ℕ) (calls : List KeyedCall) (parts : List Part) → HaveGrown place calls calls
    → AllPairs (λ a b. a.inv < b.inv) calls → AreOfOnePart parts calls → Represent held place calls parts
    → HasKeyedOrder held calls ↔ All (SomePastGoesOn calls) parts

-- a past that goes on to no order at its keys may be dropped; a duplicate may be dropped too
abbrev pub DeadPastsGo : Type 0
DeadPastsGo =
    (held : ℕ → Option ℕ) (place : ℕ) (calls : List KeyedCall) (keys : Keys) (pasts left : List Choice) (rest : List Part)
    → ((past : Choice) → Contains pasts past → IsOneOf keys left past ⊎ (GoesOnAt keys past calls → ⊥))
    → ((past : Choice) → Contains left past → IsOneOf keys pasts past)
    → Represent held place calls (record { keys = keys; pasts = pasts } ∷ rest)
    → Represent held place calls (record { keys = keys; pasts = left } ∷ rest)

-- Suppose that some call that was answered must still come at some of a part's keys. Then a past
-- becomes the pasts after each call that may come next there; these calls began before that answer.
abbrev pub CallsComeNext : Type 0
CallsComeNext =
    (held : ℕ → Option ℕ) (place limit : ℕ) (calls : List KeyedCall) (keys some : Keys) (past : Choice) (others nexts : List Choice)
    (rest : List Part) (ended : KeyedCall) → ((key : ℕ) → some key ≡ true → keys key ≡ true)
    → Contains calls ended → ends_before ended.res limit ≡ true → ended.refused ≡ false
    → IsLeftAt some past ended → AreKnownAt some limit past calls
    → ArePartedBefore some limit (record { keys = keys; pasts = past ∷ [] } ∷ rest) calls
    → ((a : KeyedCall) → Contains calls a → MayComeNext some past calls a
    → (next : Choice) × Contains nexts next × IsAfterCall keys past a next)
    → ((next : Choice) → Contains nexts next
    → (a : KeyedCall) × Contains calls a × MayComeNext some past calls a × IsAfterCall keys past a next)
    → Represent held place calls (record { keys = keys; pasts = past ∷ others } ∷ rest)
    → Represent held place calls (record { keys = keys; pasts = nexts ++ others } ∷ rest)

-- Suppose that this call is the first that ended of those left at the part's keys. Then a call may
-- be left at these keys and at others of the part, if it is barred at these. The past becomes the
-- pasts after each call that is left at some of these keys and may come next at all keys of the
-- part.
abbrev pub UnbarredCallsComeNext : Type 0
UnbarredCallsComeNext =
    (held : ℕ → Option ℕ) (place answered : ℕ) (calls : List KeyedCall) (keys some : Keys) (past : Choice) (others nexts : List Choice)
    (rest : List Part) (ended : KeyedCall) → ((key : ℕ) → some key ≡ true → keys key ≡ true)
    → Contains calls ended → ended.res ≡ Some answered → ended.refused ≡ false → IsLeftAt some past ended
    → ((b : KeyedCall) → Contains calls b → ends_before b.res answered ≡ true → (b.refused ≡ true) ⊎ NoneIsLeftAt keys past b)
    → AreKnownAt some (answered + 1) past calls
    → ArePartedBefore keys (answered + 1) (record { keys = keys; pasts = past ∷ [] } ∷ rest) calls
    → AreOwnOrBarred keys some (answered + 1) past calls
    → ((a : KeyedCall) → Contains calls a → IsLeftAt some past a → MayComeNext keys past calls a
    → (next : Choice) × Contains nexts next × IsAfterCall keys past a next)
    → ((next : Choice) → Contains nexts next
    → (a : KeyedCall) × Contains calls a × MayComeNext keys past calls a × IsAfterCall keys past a next)
    → Represent held place calls (record { keys = keys; pasts = past ∷ others } ∷ rest)
    → Represent held place calls (record { keys = keys; pasts = nexts ++ others } ∷ rest)

-- for the calls of a history it is known whether something is left of them
abbrev pub CallsAreKnown : Type 0
CallsAreKnown = (keys : Keys) (place : ℕ) (past : Choice) (calls : List Operation) → AreKnownAt keys place past (map keyed calls)

-- a read that was answered, and may come next at some of a part's keys, may be taken at once, and
-- no other call instead
abbrev pub ReadsComeNext : Type 0
ReadsComeNext =
    (held : ℕ → Option ℕ) (place limit : ℕ) (calls : List KeyedCall) (keys some : Keys) (past next : Choice) (others : List Choice)
    (rest : List Part) (b : KeyedCall) → ((key : ℕ) → some key ≡ true → keys key ≡ true)
    → Contains calls b → is_completed b ≡ true → b.inv < limit → MayComeNext some past calls b → IsReadAt some past b
    → IsAfterCall keys past b next → ArePartedBefore some limit (record { keys = keys; pasts = past ∷ [] } ∷ rest) calls
    → Represent held place calls (record { keys = keys; pasts = past ∷ others } ∷ rest)
    → Represent held place calls (record { keys = keys; pasts = next ∷ others } ∷ rest)

-- a read that was answered is taken at keys at rest if it fits what they hold, even if it is left at others
abbrev pub ReadsAreTakenAtRest : Type 0
ReadsAreTakenAtRest =
    (held : ℕ → Option ℕ) (place : ℕ) (calls : List KeyedCall) (keys : Keys) (past next : Choice) (others : List Choice) (rest : List Part)
    (b : KeyedCall) → Contains calls b → is_completed b ≡ true → b.refused ≡ false → IsReadAt keys past b
    → ((key : ℕ) → keys key ≡ true → ((rest_of past b).effect key).fits (past.holds key) ≡ true) → IsAtRest keys past calls b
    → IsAfterCall keys past b next → Represent held place calls (record { keys = keys; pasts = past ∷ others } ∷ rest)
    → Represent held place calls (record { keys = keys; pasts = next ∷ others } ∷ rest)

-- two parts are as good as one of the keys of both that has all pairs of their pasts
abbrev pub PartsUnite : Type 0
PartsUnite =
    (held : ℕ → Option ℕ) (place : ℕ) (calls : List KeyedCall) (part other both : Part) (rest : List Part) → AreApart part.keys other.keys
    → AreJoined part other both
    → Represent held place calls (part ∷ other ∷ rest) ↔ Represent held place calls (both ∷ rest)

-- what is left at some keys has an order exactly if it has one as calls of a map that has only these keys
abbrev pub OperationsDecide : Type 0
OperationsDecide =
    (keys : Keys) (past : Choice) (calls : List KeyedCall) (pairs : Contents) (left : List Operation) → AreKeyedCalls calls
    → AllPairs (λ a b. a.inv < b.inv) calls → AreLeftCalls keys past calls pairs left
    → HasKeyedOrder past.holds (map (left_at keys past) calls) ↔ IsLinearizable pairs left

-- If a call is left at the keys of two parts, each part may have a past that goes on, although the
-- calls have no order.
abbrev pub PartsMayBeTied : Type 0
PartsMayBeTied = AnyPartsDecide → ⊥

-- if no call that is left was answered, none need come next, and a past that goes on may be lost
abbrev pub PastsMayStay : Type 0
PastsMayStay = PendingCallsMustCome → ⊥

-- if a call is left at some keys and at others, it may have to wait for calls at the others, and a past that goes on may be lost
abbrev pub TiedCallsMayWait : Type 0
TiedCallsMayWait = TiedCallsComeNext → ⊥

-- a read that is taken too early may gain an order
abbrev pub EarlyReadsGain : Type 0
EarlyReadsGain = ReadsAreTakenAtOnce → ⊥

-- Take the calls that began before a place. Those that may come next at some of the keys are those whose operations may, if these operations
-- have no other keys. So at the other keys nothing is left of such a call.
abbrev pub OperationsMayCome : Type 0
OperationsMayCome =
    (keys some : Keys) (past : Choice) (limit : ℕ) (calls : List KeyedCall) (pairs : Contents) (left : List Operation)
    → ((key : ℕ) → some key ≡ true → keys key ≡ true) → AreKeyedCalls calls → AreLeftCalls keys past calls pairs left
    → AreOfLeftCalls keys past calls left → AreAllLeft keys past limit calls left → HaveTheirKeys calls left → HaveKeysTogether some limit left
    → ((a : KeyedCall) → Contains calls a → a.inv < limit → MayComeNext some past calls a
    → (o : Operation) × Contains left o × IsAlikeAt keys (left_at keys past a) (keyed o) × IsWithin some (left_at keys past a)
    × OperationMayCome some pairs left o)
    × ((o : Operation) → Contains left o → o.inv < limit → OperationMayCome some pairs left o
    → (a : KeyedCall) × Contains calls a × IsAlikeAt keys (left_at keys past a) (keyed o) × IsWithin some (left_at keys past a)
    × MayComeNext some past calls a)

-- Suppose that an operation's call may come next at some of the keys, and is left only at these. Then the operation leads to what is left after
-- its call: the map after it, and the other operations.
abbrev pub OperationsComeNext : Type 0
OperationsComeNext =
    (keys some : Keys) (past : Choice) (limit : ℕ) (calls : List KeyedCall) (pairs : Contents) (left : List Operation) (a : KeyedCall)
    (o : Operation) → AreKeyedCalls calls → All IsFormed calls → AreLeftCalls keys past calls pairs left → AreOfLeftCalls keys past calls left
    → AreAllLeft keys past limit calls left → All (AgreesAt keys past) calls → Contains calls a
    → IsAlikeAt keys (left_at keys past a) (keyed o) → IsWithin some (left_at keys past a) → MayComeNext some past calls a
    → (next : Choice) × IsAfterCall keys past a next × AreLeftCalls keys next calls (after_call pairs o.call o.response) (without_call o.inv left)
    × AreOfLeftCalls keys next calls (without_call o.inv left) × AreAllLeft keys next limit calls (without_call o.inv left)
    × All (AgreesAt keys next) calls

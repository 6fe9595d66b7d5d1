-- Laws of calls as the keys see them.
use Rattle.std.specs.Prelude.{◌≡◌, ◌⊎◌, ◌↔◌, ℕ, ◌≤◌, List, [], ◌++◌, length, map, Option, All, AllPairs, Contains, ◌<◌}
use Rattle.events.specs.declared.event.Event.{Event}
use Rattle.events.specs.Operations.{operations}
use Rattle.map_object.specs.MapObject.{Contents, IsRising, value_at}
use Rattle.orders.specs.Orders.{IsLinearizable}
use Rattle.follow_laws.specs.KeyedCalls.{KeyedCall, IsNoEffect, IsFormed, keyed}
use Rattle.follow_laws.specs.KeyedOrders.{AreKeyedCalls, HasKeyedOrder}
use Rattle.follow_laws.specs.Forms.{HaveForms}
use Rattle.follow_laws.specs.Growth.{HaveGrown}
use Rattle.follow_laws.specs.Choices.{Choice, at_first, among, GoesOn, SomeGoesOn, LoseNoOrder, AddNoOrder}
use Rattle.follow_laws.specs.Cuts.{Keys}
use Rattle.follow_laws.specs.Apart.{only, other_keys, Parts, AreParts, AreAlike}
use Rattle.follow_laws.specs.WiderRules.{AliveStaysAlive, YesFromAbove, NoFromBelow, CompletedCallsSuffice}

-- a history has an order exactly if some map may answer its scans so, and its calls have an order as the keys see them
abbrev pub OrdersAreKeyedOrders : Type 0
OrdersAreKeyedOrders =
    (start : Contents) (events : List Event) → IsRising start
    → IsLinearizable start (operations events)
    ↔ (HaveForms (operations events) × HasKeyedOrder (value_at start) (map keyed (operations events)))

-- with further events the calls grow
abbrev pub CallsGrow : Type 0
CallsGrow = (events more : List Event) → HaveGrown (length events) (map keyed (operations events)) (map keyed (operations (events ++ more)))

-- if calls have grown to others, and those to more, the first have grown to the last
abbrev pub GrowthGoesOn : Type 0
GrowthGoesOn =
    (place next : ℕ) (calls more most : List KeyedCall) → place ≤ next → HaveGrown place calls more → HaveGrown next more most
    → HaveGrown place calls most

-- before any event one choice represents all events that may come
abbrev pub ChoicesBegin : Type 0
ChoicesBegin =
    (held : ℕ → Option ℕ)
    → LoseNoOrder held 0 [] (λ w. w ≡ at_first held) × AddNoOrder held 0 [] (λ w. w ≡ at_first held)

-- choices that are above or below the calls are so with further events
abbrev pub ChoicesStay : Type 0
ChoicesStay =
    (held : ℕ → Option ℕ) (place next : ℕ) (calls more : List KeyedCall) (choices : ℕ → Option Choice) → place ≤ next → HaveGrown place calls more
    → (LoseNoOrder held place calls (among choices) → LoseNoOrder held next more (among choices))
    × (AddNoOrder held place calls (among choices) → AddNoOrder held next more (among choices))

-- if none of those above goes on to an order now, there is none; if one of those below does, there is one
abbrev pub ChoicesJudge : Type 0
ChoicesJudge =
    (held : ℕ → Option ℕ) (place : ℕ) (calls : List KeyedCall) (choices : ℕ → Option Choice) → HaveGrown place calls calls
    → (LoseNoOrder held place calls (among choices) → (SomeGoesOn (among choices) calls → ⊥) → HasKeyedOrder held calls → ⊥)
    × (AddNoOrder held place calls (among choices) → SomeGoesOn (among choices) calls → HasKeyedOrder held calls)

-- what goes on with further events goes on now: so a choice that goes on to no order now never will, and may be dropped
abbrev pub DeadChoicesStayDead : Type 0
DeadChoicesStayDead = (place : ℕ) (calls more : List KeyedCall) (w : Choice) → HaveGrown place calls more → GoesOn w more → GoesOn w calls

abbrev pub DeadChoicesGo : Type 0
DeadChoicesGo =
    (held : ℕ → Option ℕ) (place : ℕ) (calls : List KeyedCall) (choices left : ℕ → Option Choice)
    → ((w : Choice) → among choices w → among left w ⊎ (GoesOn w calls → ⊥)) → LoseNoOrder held place calls (among choices)
    → LoseNoOrder held place calls (among left)

-- calls that have an order have one at some keys only: so if there is none at some keys, there is none
abbrev pub SomeKeysRefute : Type 0
SomeKeysRefute =
    (held : ℕ → Option ℕ) (keys : Keys) (calls : List KeyedCall) → HasKeyedOrder held calls → HasKeyedOrder held (map (only keys) calls)

-- if each call has keys of only one of two sets, the calls have an order exactly if those of each
-- set have one
abbrev pub SetsOfKeysJudge : Type 0
SetsOfKeysJudge =
    (held : ℕ → Option ℕ) (keys : Keys) (calls : List KeyedCall) → AreKeyedCalls calls → All IsFormed calls → All (Parts keys calls) calls
    → HasKeyedOrder held calls
    ↔ (HasKeyedOrder held (map (only keys) calls) × HasKeyedOrder held (map (only (other_keys keys)) calls))

-- many sets of keys can be judged one by one
abbrev pub PartsJudge : Type 0
PartsJudge =
    (held : ℕ → Option ℕ) (parts : List Keys) (calls : List KeyedCall) → AreKeyedCalls calls → AllPairs (λ a b. a.inv < b.inv) calls
    → All IsFormed calls → AreParts parts calls
    → HasKeyedOrder held calls ↔ All (λ keys. HasKeyedOrder held (map (only keys) calls)) parts

-- What is alive may die. A choice above may go on although there is no order. There may be an order
-- although no choice below goes on.
abbrev pub AliveMayDie : Type 0
AliveMayDie = AliveStaysAlive → ⊥

abbrev pub AboveIsNoYes : Type 0
AboveIsNoYes = YesFromAbove → ⊥

abbrev pub BelowIsNoNo : Type 0
BelowIsNoNo = NoFromBelow → ⊥

-- calls without effect do not matter: if the others are the same, both lists have orders or none
abbrev pub EffectsDecide : Type 0
EffectsDecide =
    (held : ℕ → Option ℕ) (calls more : List KeyedCall) → AreKeyedCalls more → AllPairs (λ a b. a.inv < b.inv) more
    → ((a : KeyedCall) → Contains calls a → ((key : ℕ) → IsNoEffect (a.effect key)) ⊎ Contains more a)
    → ((a : KeyedCall) → Contains more a → ((key : ℕ) → IsNoEffect (a.effect key)) ⊎ Contains calls a) → HasKeyedOrder held calls
    → HasKeyedOrder held more

-- calls that are alike at some keys decide, if the other keys hold nothing: a part of the keys is
-- judged by a map that has only these
abbrev pub AlikeCallsDecide : Type 0
AlikeCallsDecide =
    (keys : Keys) (held other : ℕ → Option ℕ) (calls alike : List KeyedCall) → AreAlike keys held other calls alike
    → HasKeyedOrder held calls ↔ HasKeyedOrder other alike

-- a pending call may disturb a scan too
abbrev pub PendingCallsDisturb : Type 0
PendingCallsDisturb = CompletedCallsSuffice → ⊥

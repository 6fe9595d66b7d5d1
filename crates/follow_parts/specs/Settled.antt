-- What becomes of a part at a later moment.
use Rattle.std.specs.Prelude.{◌≡◌, ◌⊎◌, ℕ, true, List, [], ◌∷◌, ◌++◌, map, Option, None, Some, IfSome, All, Any, Contains}
use Rattle.events.specs.declared.operation.Operation.{Operation}
use Rattle.map_object.specs.MapObject.{Contents, IsRising, value_at}
use Rattle.follow_laws.specs.Cuts.{Keys}
use Rattle.follow_laws.specs.Pasts.{KeptPast}
use Rattle.follow_laws.specs.KeptParts.{KeptPart, AreKept}
use Rattle.follow_laws.specs.KeptSteps.{ReadsBeganAfter}
use Rattle.follow_orders.specs.Views.{IsKeptOrder}
use Rattle.follow_cuts.specs.PartCuts.{AreShaped, kept_of}
use Rattle.follow_cuts.specs.declared.past.Past.{Past}
use Rattle.follow_pasts.specs.Ranges.{covered, or_else}
use Rattle.follow_pasts.specs.Views.{kept_part}
use Rattle.follow_pasts.specs.Pasts.{IsDead, AreAlive}
use Rattle.follow_pasts.specs.Lists.{IsPut}
use Rattle.follow_pasts.specs.Shapes.{AreBesideEachOther}
use Rattle.follow_pasts.specs.Uniting.{resting, outside}
use Rattle.follow_pasts.specs.declared.part.Part.{Part}
use Rattle.follow_pasts.specs.declared.ranges.Range.{Range}
use Rattle.follow_pasts.specs.declared.moments.OpenRead.{OpenRead}
use Rattle.follow_parts.specs.Views.{PartsView}
use Rattle.follow_parts.specs.Shapes.{IsPartBefore, IsShaped}
use Rattle.follow_parts.specs.Keeping.{AreReadsOf, IsStateOf}
use Rattle.follow_parts.specs.declared.settling.Moved.{Moved}

-- a part has the same first order, keys and pasts as another
pub record IsKeptSo (part again : Part) : Type 0 where
  pub first : again.first ≡ part.first
  pub kept : kept_part again ≡ kept_part part

-- a state that says the same of the calls
pub record IsSettled (old new : PartsView) : Type 0 where
  pub now : new.now ≡ old.now
  pub state : (start : Contents) (calls : List Operation) → IsStateOf start calls old → IsStateOf start calls new

-- a state and more parts
abbrev pub with_parts : List Part → PartsView → PartsView
with_parts more s = record { rest = s.rest; parts = more ++ s.parts; reads = s.reads; now = s.now }

-- a part fits a state: its events are before the state's place, and no call that is left of it is left of another part, or is a pending read
pub record MayBePut (part : Part) (s : PartsView) : Type 0 where
  pub before : IsPartBefore s.now s.reads part
  pub beside : All (AreBesideEachOther part) s.parts

-- a state with a part more, which may have moved on: with any other parts it says the same of the calls
pub record IsSettledWith (part : Part) (old new : PartsView) : Type 0 where
  pub now : new.now ≡ old.now
  pub shaped : (more : List Part) → IsShaped (with_parts (part ∷ more) old) → IsShaped (with_parts more new)
  pub state : (more : List Part) (start : Contents) (calls : List Operation) → IsStateOf start calls (with_parts (part ∷ more) old)
      → IsStateOf start calls (with_parts more new)

-- what is left of a part was put to the others, or nothing is left
abbrev pub IsLeftPut : Option Part → List Part → List Part → Type 0
IsLeftPut None old new = new ≡ old
IsLeftPut (Some part) old new = IsPut part old new

-- further pairs
pub record IsWithPairs (pairs old new : Contents) : Type 0 where
  pub rises : IsRising old → IsRising new
  pub values : IsRising pairs → (key : ℕ) → value_at new key ≡ or_else (value_at pairs key) (value_at old key)

-- the parts that a part becomes at a later moment
abbrev pub kept_moved : Keys → Contents → Option Part → List KeptPart
kept_moved keys pairs None = resting keys pairs ∷ []
kept_moved keys pairs (Some part) = resting (outside keys (covered part.ranges.items)) pairs ∷ kept_part part ∷ []

-- the calls that are left of pasts were left of a part
abbrev pub AreOfLeft : Part → List KeptPast → Type 0
AreOfLeft old pasts = All (λ past. All (λ o. Any (λ other. Contains other.left o) (kept_part old).pasts) past.left) pasts

-- the calls that are left of a part were left of another
abbrev pub IsOfLeft : Part → Part → Type 0
IsOfLeft old part = AreOfLeft old (kept_part part).pasts

-- a part has moved on: whatever the other parts are, what it became may replace it
pub record MovesOn (now : ℕ) (reads : List OpenRead) (part : Part) (moved : Moved) : Type 0 where
  pub shaped : IfSome moved.left (λ left. IsPartBefore now reads left × IsOfLeft part left)
  pub leads : (start : Contents) (calls : List Operation) (more : List KeptPart) → AreReadsOf calls reads
      → AreKept start now calls (kept_part part ∷ more)
      → AreKept start now calls (kept_moved (covered part.ranges.items) moved.pairs.items moved.left ++ more)
      × IfSome moved.left (λ left. (key : ℕ) → covered left.ranges.items key ≡ true → covered part.ranges.items key ≡ true)

-- a past again, or none if it is dead
abbrev pub IsAliveOrDead : KeptPast → Option Past → Type 0
IsAliveOrDead past None = IsDead past
IsAliveOrDead past (Some next) = kept_of next ≡ past

-- pasts without some that are dead
abbrev pub AreThoseAlive : List KeptPast → List KeptPast → Type 0
AreThoseAlive [] alive = alive ≡ []
AreThoseAlive (past ∷ made) alive =
    ((more : List KeptPast) × (alive ≡ past ∷ more) × AreThoseAlive made more) ⊎ (IsDead past × AreThoseAlive made alive)

-- pasts at a moment: they may replace those of a part if no pending read of its keys began before
pub record AreThen (moment : ℕ) (part : Part) (pasts : List Past) : Type 0 where
  pub shaped : AreShaped pasts
  pub own : AreOfLeft part (map kept_of pasts)
  pub leads : (start : Contents) (now : ℕ) (calls : List Operation) (more : List KeptPart)
      → ReadsBeganAfter (covered part.ranges.items) moment calls
      → AreKept start now calls (kept_part part ∷ more)
      → AreKept start now calls (record { keys = covered part.ranges.items; pasts = map kept_of pasts } ∷ more)

-- all keys of a part are at rest at a moment, and have these pairs, where no pending read of its keys began before
abbrev pub AreAtRestThen : ℕ → Part → Contents → Type 0
AreAtRestThen moment part pairs =
    (start : Contents) (now : ℕ) (calls : List Operation) (more : List KeptPart) → ReadsBeganAfter (covered part.ranges.items) moment calls
    → AreKept start now calls (kept_part part ∷ more)
    → AreKept start now calls (resting (covered part.ranges.items) pairs ∷ more)

-- a part of these ranges, of one of some pasts that has an order and those after it; those before it are dead
pub record IsPartFrom (own : List Range) (pasts : List Past) (part : Part) : Type 0 where
  pub ranges : part.ranges.items ≡ own
  pub first : IsKeptOrder part.first
  pub alive : AreAlive (map kept_of pasts) (kept_part part).pasts

-- what becomes of pasts of some keys if the busy keys are separated from the others
pub record IsParted (pasts : List Past) (moved : Moved) : Type 0 where
  pub first : IfSome moved.left (λ left. IsKeptOrder left.first)
  pub own : IfSome moved.left (λ left. All (λ past. Any (λ other. past.left ≡ other.left) (map kept_of pasts)) (kept_part left).pasts)
  pub leads : (start : Contents) (now : ℕ) (calls : List Operation) (keys : Keys) (more : List KeptPart)
      → AreKept start now calls (record { keys = keys; pasts = map kept_of pasts } ∷ more)
      → AreKept start now calls (kept_moved keys moved.pairs.items moved.left ++ more)
      × IfSome moved.left (λ left. (key : ℕ) → covered left.ranges.items key ≡ true → keys key ≡ true)

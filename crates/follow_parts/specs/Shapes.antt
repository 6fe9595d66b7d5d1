-- The shape of the state, whatever the events were.
use Rattle.std.specs.Prelude.{◌≡◌, ◌≢◌, ℕ, ◌<◌, List, Some, All, AllPairs, Contains}
use Rattle.events.specs.declared.operation.Operation.{Operation}
use Rattle.events.specs.declared.operation.Response.{Response}
use Rattle.events.specs.Precedence.{NonePrecedesItself}
use Rattle.map_object.specs.MapObject.{IsRising}
use Rattle.follow_orders.specs.Views.{IsKeptOrder}
use Rattle.follow_laws.specs.Pasts.{KeptPast}
use Rattle.follow_pasts.specs.Views.{kept_part}
use Rattle.follow_pasts.specs.declared.part.Part.{Part}
use Rattle.follow_pasts.specs.declared.moments.OpenRead.{OpenRead}
use Rattle.follow_pasts.specs.Shapes.{AreBesideEachOther}
use Rattle.follow_parts.specs.Views.{PartsView}

-- a call began before a place, and was answered before it, if it was
pub record IsCallBefore (now : ℕ) (o : Operation) : Type 0 where
  pub begun : o.inv < now
  pub ended : (response : Response) → o.response ≡ Some response → response.res < now

-- the calls that are left of a past are sorted by invocation, none precedes itself, and all of their events are before a place
pub record IsPastBefore (now : ℕ) (past : KeptPast) : Type 0 where
  pub rising : AllPairs (λ a b. a.inv < b.inv) past.left
  pub apart : NonePrecedesItself past.left
  pub before : All (IsCallBefore now) past.left

-- a call may be added to the calls of a part: it is none of them, and all of their events are before its response
pub record MayComeTo (o : Operation) (part : Part) : Type 0 where
  pub other : All (λ past. All (λ p. p.inv ≢ o.inv) past.left) (kept_part part).pasts
  pub before : (response : Response) → o.response ≡ Some response
      → All (λ past. All (IsCallBefore response.res) past.left) (kept_part part).pasts

-- none of them is one of these reads
abbrev pub IsBesideReads : List OpenRead → KeptPast → Type 0
IsBesideReads reads past = (read : OpenRead) → Contains reads read → All (λ o. o.inv ≢ read.inv) past.left

-- a part has an order of the calls of its first past
pub record IsPartBefore (now : ℕ) (reads : List OpenRead) (part : Part) : Type 0 where
  pub first : IsKeptOrder part.first
  pub pasts : All (IsPastBefore now) (kept_part part).pasts
  pub beside : All (IsBesideReads reads) (kept_part part).pasts

pub record IsShaped (s : PartsView) : Type 0 where
  pub rest : IsRising s.rest
  pub parts : All (IsPartBefore s.now s.reads) s.parts
  pub apart : AllPairs AreBesideEachOther s.parts
  pub reads : All (λ read. read.inv < s.now) s.reads
  pub distinct : AllPairs (λ read other. read.inv ≢ other.inv) s.reads

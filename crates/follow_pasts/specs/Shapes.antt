-- The shape of a part, whatever the events were.
use Rattle.std.specs.Prelude.{◌≢◌, ◌<◌, List, All, AllPairs}
use Rattle.events.specs.Precedence.{NonePrecedesItself}
use Rattle.follow_orders.specs.Views.{IsKeptOrder}
use Rattle.follow_laws.specs.Pasts.{KeptPast}
use Rattle.follow_pasts.specs.Views.{kept_part}
use Rattle.follow_pasts.specs.declared.part.Part.{Part}

-- the calls that are left of a past are sorted by invocation, and none precedes itself
pub record IsPastShaped (past : KeptPast) : Type 0 where
  pub rising : AllPairs (λ a b. a.inv < b.inv) past.left
  pub apart : NonePrecedesItself past.left

-- the calls that are left of all pasts of a part are so, and the first past has an order
pub record IsPartShaped (part : Part) : Type 0 where
  pub first : IsKeptOrder part.first
  pub pasts : All IsPastShaped (kept_part part).pasts

-- no call that is left of one is left of the other
abbrev pub AreBesidePasts : Part → List KeptPast → Type 0
AreBesidePasts part pasts = All (λ past. All (λ other. All (λ o. All (λ p. o.inv ≢ p.inv) other.left) past.left) pasts) (kept_part part).pasts

abbrev pub AreBesideEachOther : Part → Part → Type 0
AreBesideEachOther part other = AreBesidePasts part (kept_part other).pasts

-- Steps of the state.
use Rattle.std.specs.Prelude.{◌≡◌, ◌≢◌, ◌⊎◌, ℕ, suc, ◌≤◌, ◌<◌, ◌==◌, true, false, if◌then◌else◌, List, [], ◌∷◌, ◌++◌, take, drop, map, Option, None, Some, All, AllPairs}
use Rattle.std.specs.List.{AllZip}
use Rattle.events.specs.declared.operation.Operation.{Operation}
use Rattle.events.specs.declared.operation.Response.{Response}
use Rattle.events.specs.Keys.{low_key, high_key}
use Rattle.map_object.specs.MapObject.{Contents, IsRising, value_at}
use Rattle.follow_laws.specs.KeyedCalls.{IsNoEffect, effect_at}
use Rattle.follow_orders.specs.Views.{StoredOrderView, IsKeptOrder}
use Rattle.follow_orders.specs.Answers.{IsAnswer}
use Rattle.follow_orders.specs.declared.kept.Mended.{Mended}
use Rattle.follow_laws.specs.Pasts.{KeptPast}
use Rattle.follow_laws.specs.Events.{with_begun, IsWithRead}
use Rattle.follow_pasts.specs.Lists.{IsPut}
use Rattle.follow_pasts.specs.Ranges.{covered}
use Rattle.follow_pasts.specs.Views.{kept_part}
use Rattle.follow_pasts.specs.Pasts.{AreGoneOn}
use Rattle.follow_pasts.specs.declared.part.Part.{Part}
use Rattle.follow_pasts.specs.Uniting.{Become}
use Rattle.follow_parts.specs.declared.reading.Read.{Read}

-- a key was taken out of pairs
pub record IsTakenOut (key : ℕ) (old new : Contents) : Type 0 where
  pub rises : IsRising old → IsRising new
  pub values : (other : ℕ) → value_at new other ≡ (if other == key then None else value_at old other)

-- a part of one key that holds this value, or none, and has no calls
pub record IsPartOf (key : ℕ) (value : Option ℕ) (part : Part) : Type 0 where
  pub keys : (other : ℕ) → covered part.ranges.items other ≡ (other == key)
  pub rising : IsRising part.first.start
  pub holds : (other : ℕ) → value_at part.first.start other ≡ (if other == key then value else None)
  pub no_calls : part.first.calls ≡ []
  pub no_order : part.first.order ≡ []
  pub no_found : part.found.items ≡ []
  pub alone : part.others.items ≡ []

-- a part of a key, and the other parts: it was one of the parts, or it is new, with what was at rest there
abbrev pub IsOneWithKey : ℕ → Contents → List Part → Contents → List Part → Part → Type 0
IsOneWithKey key rest parts rest_new others part =
    ((rest_new ≡ rest) × IsPut part others parts)
    ⊎ (All (λ part. covered part.ranges.items key ≡ false) parts × IsTakenOut key rest rest_new × (others ≡ parts)
    × IsPartOf key (value_at rest key) part × IsKeptOrder part.first)

pub record IsPartWith (key : ℕ) (rest : Contents) (parts : List Part) (rest_new : Contents) (others : List Part) (part : Part) : Type 0 where
  pub here : covered part.ranges.items key ≡ true
  pub from : IsOneWithKey key rest parts rest_new others part

-- a call began in each past of a part
pub record IsBegunIn (o : Operation) (old new : Part) : Type 0 where
  pub ranges : new.ranges ≡ old.ranges
  pub order : new.first.order ≡ old.first.order
  pub pasts : (kept_part new).pasts ≡ map (with_begun o) (kept_part old).pasts

-- a call with an answer at a place, after its invocation
pub record IsReportedAt (now : ℕ) (o : Operation) : Type 0 where
  pub response : Response
  pub is : o.response ≡ Some response
  pub res : response.res ≡ now

-- what is known of the calls without the one at a place
abbrev pub IsRefusedIn : ℕ → StoredOrderView → ℕ → Mended → Type 0
IsRefusedIn budget first place kept = IsAnswer first.start (take place first.calls ++ drop (suc place) first.calls) budget kept

-- a read was refused, or it reports nothing
abbrev pub ReportsNothing : Operation → Type 0
ReportsNothing o = (key : ℕ) → IsNoEffect (effect_at o.call o.response key)

-- parts in two lists, each in order: those that are left, and those that were taken out
abbrev pub AreParted : List Part → List Part → List Part → Type 0
AreParted [] left out = (left ≡ []) × (out ≡ [])
AreParted (part ∷ parts) left out =
    ((more : List Part) × (left ≡ part ∷ more) × AreParted parts more out) ⊎ ((more : List Part) × (out ≡ part ∷ more) × AreParted parts left more)

-- parts were taken out: the others have no key of a range
pub record AreMet (low high : ℕ) (old left met : List Part) : Type 0 where
  pub parted : AreParted old left met
  pub others : All (λ part. (key : ℕ) → low ≤ key → key ≤ high → covered part.ranges.items key ≡ false) left

-- a read was added to all of some pasts, and these have gone on
pub record HasGoneIn (budget : ℕ) (o : Operation) (pasts : List KeptPast) (read : Read) : Type 0 where
  pub nexts : List KeptPast
  pub with_read : AllZip (IsWithRead o) pasts nexts
  pub gone : AreGoneOn budget nexts read.gone

-- a read was added to all pasts, `some`, of a part that others and keys at rest became (`Become`), and these have gone on
pub record IsReadIn (budget : ℕ) (o : Operation) (old new : Contents) (met : List Part) (read : Read) : Type 0 where
  pub pasts : List KeptPast
  pub some : pasts ≢ []
  pub become : Become (low_key o.call) (high_key o.call) old new met read.ranges.items pasts
  pub rising : All (λ past. AllPairs (λ a b. a.inv < b.inv) past.left) pasts
  pub nexts : List KeptPast
  pub with_read : AllZip (IsWithRead o) pasts nexts
  pub gone : AreGoneOn budget nexts read.gone

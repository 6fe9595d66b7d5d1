-- What is left of a part after an answer, and how it fits the other parts.
use Rattle.std.specs.Prelude.{◌≡◌, ◌≢◌, ◌<◌, false, List, ◌∷◌, map, All, AllPairs, ⊤}
use Rattle.events.specs.declared.operation.Operation.{Operation}
use Rattle.events.specs.Precedence.{precedes}
use Rattle.follow_laws.specs.Cuts.{Keys}
use Rattle.follow_laws.specs.Pasts.{KeptPast}
use Rattle.follow_laws.specs.KeptParts.{KeptPart}
use Rattle.follow_pasts.specs.Views.{kept_part}
use Rattle.follow_pasts.specs.Uniting.{resting, outside}
use Rattle.follow_pasts.specs.declared.ranges.Range.{Range}
use Rattle.follow_parts.specs.Keeping.{pasts_of}
use Rattle.follow_parts.specs.Views.{PartsView, is_at_rest}
use Rattle.follow_parts.specs.declared.state.Answered.{Answered}
use Rattle.follow_parts.specs.declared.state.Answered.TheVariants.{Going, Lost, Spent, Unknown}
use Rattle.follow_parts.specs.Shapes.{IsCallBefore}

-- the invocation of a call is none of a pending read, and none of a call that is left
pub record HasOwnPlace (s : PartsView) (o : Operation) : Type 0 where
  pub reads : All (λ read. read.inv ≢ o.inv) s.reads
  pub parts : All (λ part. All (λ past. All (λ p. p.inv ≢ o.inv) past.left) (kept_part part).pasts) s.parts

-- a call may be left in one more part of a state: no other call has its invocation, it does not precede itself, and its events are before the
-- state's place
pub record MayStand (s : PartsView) (o : Operation) : Type 0 where
  pub apart : precedes o o ≡ false
  pub before : IsCallBefore s.now o
  pub own : HasOwnPlace s o

-- calls may be left in one more part of a state: each may, and they are sorted by invocation
pub record MayBeLeft (s : PartsView) (left : List Operation) : Type 0 where
  pub rising : AllPairs (λ a b. a.inv < b.inv) left
  pub each : All (MayStand s) left

-- the parts of a state, and one more of these keys and pasts
abbrev pub kept_with : PartsView → Keys → List KeptPast → List KeptPart
kept_with s keys pasts =
    record { keys = keys; pasts = pasts } ∷ resting (outside (is_at_rest s.parts) keys) s.rest ∷ map kept_part s.parts

-- a part that does not go on has these keys and pasts
abbrev pub AreEnded : List Range → List KeptPast → Answered → Type 0
AreEnded ranges pasts (Going next) = ⊤
AreEnded ranges pasts (Lost ended) = (ended.ranges.items ≡ ranges) × (pasts_of ended ≡ pasts)
AreEnded ranges pasts (Spent ended) = (ended.ranges.items ≡ ranges) × (pasts_of ended ≡ pasts)
AreEnded ranges pasts Unknown = ⊤

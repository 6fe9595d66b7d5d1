-- Laws of the pairs that calls report.
use Rattle.std.specs.Prelude.{◌≡◌, ◌⊎◌, ℕ, true, List, Contains}
use Rattle.events.specs.declared.operation.Operation.{Operation}
use Rattle.events.specs.Keys.{low_key}
use Rattle.events.specs.Precedence.{NonePrecedesItself}
use Rattle.map_object.specs.MapObject.{Contents, IsRising}
use Rattle.orders.specs.Orders.{IsLinearizable}
use Rattle.call_effects.specs.TimeCuts.{InvocationsRise}
use Rattle.explain_reads_from.specs.Reported.{all_reported}
use Rattle.explain_reads_from.specs.External.{holds}
use Rattle.explain_reads_from.specs.Writers.{writes}
use Rattle.explain_reads_from.specs.Missed.{missed_writes}

-- if calls have an order, each pair that they report was there at the start, or one of the calls
-- puts it
abbrev pub WhatIsReportedWasPut : Type 0
WhatIsReportedWasPut =
    (start : Contents) (calls : List Operation) (pair : ℕ × ℕ) → IsRising start → IsLinearizable start calls → Contains (all_reported calls) pair
    → (holds start pair ≡ true) ⊎ ((a : Operation) × Contains calls a × (writes pair a ≡ true))

-- if one of some calls misses another, they have no order
abbrev pub MissedCallsRefute : Type 0
MissedCallsRefute =
    (start : Contents) (calls : List Operation) (r b : Operation) → IsRising start → InvocationsRise calls → NonePrecedesItself calls
    → Contains calls r → Contains (missed_writes r calls) b → IsLinearizable start calls → ⊥

-- at each key a call misses at most one call
abbrev pub OneIsMissedAtAKey : Type 0
OneIsMissedAtAKey =
    (calls : List Operation) (r a b : Operation) → Contains (missed_writes r calls) a → Contains (missed_writes r calls) b
    → low_key a.call ≡ low_key b.call → a ≡ b

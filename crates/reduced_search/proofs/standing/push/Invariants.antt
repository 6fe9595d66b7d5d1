use Rattle.std.proofs.Common.{◌≡◌, ◌-◌, ◌<◌, ◌≤◌, ℕ, true, false, length}
use Rattle.std.specs.Prelude.{◌⊎◌, slice_index_or}
use Rattle.reduced_search.proofs.standing.push.Given as goal

-- all but the place below which all are taken
abbrev pub invariant-loop-standing : goal.invariant-loop-standing
invariant-loop-standing l =
    (l.standing.levels ≡ l.initial.standing.levels) × (l.standing.at ≡ l.initial.standing.at) × (l.standing.map ≡ l.initial.standing.map)
    × (l.standing.memo ≡ l.initial.standing.memo) × (l.standing.taken ≡ l.initial.standing.taken)
    × (l.standing.low ≤ length l.standing.taken.items)
    × ((n : ℕ) → n < l.standing.low → (n < l.fn.standing.low) ⊎ (slice_index_or l.standing.taken.items n false ≡ true))

abbrev pub decreases-loop-standing : goal.decreases-loop-standing
decreases-loop-standing l = length l.standing.taken.items - l.standing.low

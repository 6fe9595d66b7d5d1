use Rattle.follow_fronts.proofs.Common.{◌≡◌, ◌-◌, ◌<◌, ◌≤◌, ℕ, true, false, length, ◌⊎◌, slice_index_or}
use Rattle.follow_fronts.proofs.front.Front.mark.Given as goal

-- all but the place below which all are in the front
abbrev pub invariant-loop-self : goal.invariant-loop-self
invariant-loop-self l =
    (l.self.start ≡ l.initial.self.start) × (l.self.levels ≡ l.initial.self.levels) × (l.self.map ≡ l.initial.self.map)
    × (l.self.taken ≡ l.initial.self.taken)
    × (l.self.low ≤ length l.self.taken.items)
    × ((n : ℕ) → n < l.self.low → (n < l.fn.self.low) ⊎ (slice_index_or l.self.taken.items n false ≡ true))

abbrev pub decreases-loop-self : goal.decreases-loop-self
decreases-loop-self l = length l.self.taken.items - l.self.low

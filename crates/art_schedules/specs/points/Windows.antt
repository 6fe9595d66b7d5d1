-- Calls with windows: the moments from a first one to a last one, within which a call takes effect.
use Rattle.std.specs.Prelude.{◌≡◌, ℕ, ◌<◌, ◌≤◌, true, IsTrue, List, slice_get, Option, Some}
use Rattle.events.specs.declared.operation.Operation.{Operation}
use Rattle.events.specs.Precedence.{is_completed, precedes}
use Rattle.art_schedules.specs.points.Points.{HasPoint}

-- Call n has the moments from `first n` on, and if it is completed those up to `last n`. A call
-- that precedes another has its last moment before the first one of the other.
abbrev pub WindowsKeepPrecedence : List Operation → (ℕ → ℕ) → (ℕ → ℕ) → Type 0
WindowsKeepPrecedence calls first last =
    (m n : ℕ) (a b : Operation) → slice_get calls m ≡ Some a → slice_get calls n ≡ Some b → precedes a b ≡ true → last m < first n

-- each point is within the window of its call
abbrev pub AreWithinWindows : List Operation → (ℕ → Option ℕ) → (ℕ → ℕ) → (ℕ → ℕ) → Type 0
AreWithinWindows calls points first last =
    (n p : ℕ) (a : Operation) → HasPoint calls points n a p → (first n ≤ p) × (IsTrue (is_completed a) → p ≤ last n)

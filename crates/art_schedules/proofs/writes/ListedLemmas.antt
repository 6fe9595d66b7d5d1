-- Rows whose children are at the places of their keys.
use Rattle.art_schedules.proofs.Common.{◌≡◌, ℕ, ◌+◌, ◌-◌, ◌<◌, ◌≤◌, List, length, refl, ap, ◌∙◌, ⊎_elim, inl, arith, slice_set, Option}
use Rattle.art_schedules.proofs.Common.{cases_lt, Shape, child_of, child_in, place_moved}
use Rattle.std.specs.Prelude.{slice_index, Some, None, option_map}
use Rattle.art_schedules.proofs.writes.StoreLemmas.{stored-other}
use Rattle.art_schedules.proofs.writes.MoveLemmas.{with_room, room-other, room-moved}
use Rattle.art_schedules.proofs.words.KeyLemmas.{moved-before, moved-behind}

-- The n children from one place of the words on are in the later words from another place on, those
-- from the p-th on one place later.
pub record HaveMoved (s : Shape) (words later : List ℕ) (from to p n : ℕ) : Type 0 where
  pub before : (i : ℕ) → i < p → i < n → child_of s (slice_index later (to + i)) ≡ child_of s (slice_index words (from + i))
  pub behind : (i : ℕ) → p ≤ i → i < n → child_of s (slice_index later (to + (i + 1))) ≡ child_of s (slice_index words (from + i))

pub moved-child : {s : Shape} {words later : List ℕ} {from to p n : ℕ} → HaveMoved s words later from to p n → (i : ℕ) → i < n
    → child_of s (slice_index later (to + place_moved p i)) ≡ child_of s (slice_index words (from + i))
moved-child {s = s} {later = later} {to = to} {p = p} h i l = ⊎_elim
    (λ b. ap (λ k. child_of s (slice_index later (to + k))) (moved-before p i b) ∙ h.before i b l)
    (λ b. ap (λ k. child_of s (slice_index later (to + k))) (moved-behind p i b) ∙ h.behind i b l)
    (cases_lt i p)

pub moved-in : {s : Shape} {words later : List ℕ} {from to p n : ℕ} → HaveMoved s words later from to p n → (o : Option ℕ)
    → ((i : ℕ) → o ≡ Some i → i < n)
    → child_in s later (option_map (λ i. to + i) (option_map (place_moved p) o)) ≡ child_in s words (option_map (λ i. from + i) o)
moved-in h None within = refl
moved-in h (Some i) within = moved-child h i (within i refl)

-- the children have still moved so after a store to another word
pub moved-stored : {s : Shape} {words later : List ℕ} {from to p n : ℕ} → HaveMoved s words later from to p n → (word value : ℕ) → word < to
    → HaveMoved s words (slice_set later word value) from to p n
moved-stored {s = s} {later = later} {to = to} h word value l =
    record {
      before = λ i b w. ap (child_of s) (stored-other later word (to + i) value (λ e. omega (arith, e, l))) ∙ h.before i b w;
      behind = λ i b w. ap (child_of s) (stored-other later word (to + (i + 1)) value (λ e. omega (arith, e, l))) ∙ h.behind i b w;
    }

-- the children have still moved so after the new child is stored at the p-th place
pub moved-new : {s : Shape} {words later : List ℕ} {from to p n : ℕ} → HaveMoved s words later from to p n → (value : ℕ)
    → HaveMoved s words (slice_set later (to + p) value) from to p n
moved-new {s = s} {later = later} {to = to} {p = p} h value =
    record {
      before = λ i b w. ap (child_of s) (stored-other later (to + p) (to + i) value (λ e. omega (arith, e, b))) ∙ h.before i b w;
      behind = λ i b w. ap (child_of s) (stored-other later (to + p) (to + (i + 1)) value (λ e. omega (arith, e, b))) ∙ h.behind i b w;
    }

-- room made at the p-th place of n children
pub room-moves : (s : Shape) (first p n : ℕ) (words : List ℕ) → p ≤ n → first + n < length words
    → HaveMoved s words (with_room s first p (n - p) words) first first p n
room-moves s first p n words low fits =
    record {
      before = λ i b w. ap (child_of s) (room-other s first p (n - p) words (first + i) (inl (omega (arith, b))));
      behind = λ i b w. room-moved s first p (n - p) words (omega (arith, low, fits)) i b (omega (arith, w, low));
    }

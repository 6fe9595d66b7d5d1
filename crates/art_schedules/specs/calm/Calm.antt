-- Calm: a second list of words for a table, in which each row that is locked or obsolete has the
-- words that it had before.
use Rattle.std.specs.Prelude.{◌≡◌, ◌⊎◌, ℕ, zero, suc, ◌+◌, ◌^◌, ◌<◌, Bool, true, false, ◌||◌, ◌&&◌, nat_lt, if◌then◌else◌, List, [], ◌∷◌}
use Rattle.std.specs.Prelude.{length, map}
use Rattle.std.specs.Prelude.{slice_index, All, Option, Some, None}
use Rattle.events.specs.declared.event.Call.{Call}
use Rattle.art_rows.specs.declared.table.Shape.{Shape}
use Rattle.art_rows.specs.declared.table.Kind.{Kind}
use Rattle.art_rows.specs.Table.{row_words, table_words, kind_at}
use Rattle.art_rows.specs.Words.{is_locked, is_obsolete}
use Rattle.art_rows.specs.declared.variant.Variant.{Variant}
use Rattle.art_rows.specs.declared.variant.Variant.TheVariants.{Optimistic}
use Rattle.art_rows.specs.Steps.{numbers}
use Rattle.art_core.specs.declared.process.Process.{Process}
use Rattle.art_core.specs.Core.{Plan, State, opened_on, step}
use Rattle.art_core.specs.Meaning.{Reached, AllUnlocked}
use Rattle.art_schedules.specs.trees.Trees.{AreZeroPastClaims}
use Rattle.art_schedules.specs.versions.Effects.{IsGoodAt}
use Rattle.art_schedules.specs.versions.Versions.{IsOpen, filled_by, IsSettled, EachHeld}
use Rattle.art_schedules.specs.versions.Steady.{SameWords}

-- A row is busy where its version is locked or obsolete.
abbrev pub is_busy : ℕ → Bool
is_busy version = is_locked version || is_obsolete version

-- whether the word is one of a row at this base, if one begins there, and that row is busy
abbrev pub lies_at : List ℕ → ℕ → ℕ → Option Kind → Bool
lies_at words word base None = false
lies_at words word base (Some kind) = nat_lt word (base + row_words kind) && is_busy (slice_index words base)

-- whether the word is one of a busy row at some base below n
abbrev pub lies_below : Shape → List ℕ → ℕ → ℕ → Bool
lies_below shape words word zero = false
lies_below shape words word (suc n) = lies_at words word n (kind_at shape n) || lies_below shape words word n

-- whether the word is one of a busy row
unfoldable pub is_of_busy_row : Shape → List ℕ → ℕ → Bool
is_of_busy_row shape words word = lies_below shape words word (suc word)

-- From calm the words of the rows that are busy in the later words; all others from these.
unfoldable pub calm_after : Shape → List ℕ → List ℕ → List ℕ
calm_after shape calm later =
    map (λ word. if is_of_busy_row shape later word then slice_index calm word else slice_index later word) (numbers 0 (length later))

-- calm after a step that gives this state
abbrev pub calm_after_step : Shape → List ℕ → Option State → List ℕ
calm_after_step shape calm None = calm
calm_after_step shape calm (Some s) = calm_after shape calm s.words

-- calm after each step of a schedule
abbrev pub calm_on : Plan → Option State → List ℕ → List ℕ → List ℕ
calm_on plan None calm schedule = calm
calm_on plan (Some s) calm [] = calm
calm_on plan (Some s) calm (p ∷ schedule) = calm_on plan (step plan s p) (calm_after_step plan.shape calm (step plan s p)) schedule

-- Calm after a schedule: before the first step it is the words themselves.
unfoldable pub calm_of : Plan → List ℕ → List ℕ → List ℕ
calm_of plan words schedule = calm_on plan (Some (opened_on plan words)) words schedule

-- How calm relates to a state, where the schedule began on the first words.
pub record IsCalm (variant : Variant) (shape : Shape) (first : List ℕ) (s : State) (calm : List ℕ) : Type 0 where
  pub long : length calm ≡ table_words shape
  pub small : All (λ w. w < 2 ^ 64) calm
  -- the clock, the claims and the rows that are not busy are as in the words
  pub low : (word : ℕ) → word < 5 → slice_index calm word ≡ slice_index s.words word
  pub free : (base : ℕ) (kind : Kind) → kind_at shape base ≡ Some kind → is_busy (slice_index s.words base) ≡ false
      → SameWords s.words calm base kind
  -- calm has the words of a row that a process fills
  pub filled : (p : ℕ) (call : Call) (q : Process) → IsOpen s p call q → (base : ℕ) (kind : Kind)
      → filled_by variant shape call q ≡ (base, kind) ∷ [] → SameWords s.words calm base kind
  -- no row is locked
  pub unlocked : AllUnlocked shape calm
  -- a row is obsolete only if it was so at first
  pub live : (base : ℕ) (kind : Kind) → kind_at shape base ≡ Some kind → is_obsolete (slice_index first base) ≡ false
      → is_obsolete (slice_index calm base) ≡ false
  -- A row that a process holds has the version that was kept, which in the optimistic tree is never obsolete.
  pub held : (p : ℕ)
      → EachHeld variant shape s p (λ h. (variant ≡ Optimistic) ⊎ (is_obsolete h.kept ≡ false) → slice_index calm h.base ≡ h.kept)
  -- a busy row was claimed, and nobody fills it
  pub settled : (base : ℕ) (kind : Kind) → kind_at shape base ≡ Some kind → is_busy (slice_index s.words base) ≡ true
      → IsSettled variant shape s base kind
  -- a row that was not claimed has only zeros
  pub fresh : AreZeroPastClaims shape calm
  -- a row that a child word names was claimed, and nobody fills it; so each row that is reached from the root
  pub children : (word : ℕ) → IsGoodAt (IsSettled variant shape s) shape word (slice_index calm word)
  pub reached : (base : ℕ) (kind : Kind) → Reached shape calm base kind → IsSettled variant shape s base kind

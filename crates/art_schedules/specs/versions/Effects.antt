-- What one access of a call of a full tree does, by what the call knows, holds and fills.
use Rattle.std.specs.Prelude.{◌≡◌, ◌≢◌, ◌⊎◌, ℕ, ◌+◌, ◌<◌, ◌≤◌, List, [], ◌∷◌, Option, Some}
use Rattle.events.specs.declared.event.Reply.{Reply}
use Rattle.art_rows.specs.declared.table.Shape.{Shape}
use Rattle.art_rows.specs.declared.table.Kind.{Kind}
use Rattle.art_rows.specs.Table.{row_words, rows_of, claims_of, base_of, kind_at}
use Rattle.art_rows.specs.Words.{locked_word, released_word, obsolete_word, child_of}
use Rattle.art_rows.specs.declared.access.Access.TheVariants.{Load, Store, Exchange, Add}
use Rattle.art_rows.specs.declared.access.Point.{Point}
use Rattle.art_rows.specs.Steps.{Asks, Answers}
use Rattle.art_rows.specs.Rows.{Setting, locks}
use Rattle.art_control_states.specs.declared.stage.HeldRow.{HeldRow}
use Rattle.art_control_states.specs.Calls.{CallAt, call_turn, call_after}
use Rattle.art_schedules.specs.versions.Holding.{OfRows, Named, Each, IsSlot, child_rows, IsKept, IsNamed, Knows, holds, fills}

-- a value that the word may have: where the word is a child's, a row that it says is one of these
abbrev pub IsGoodAt : OfRows → Shape → ℕ → ℕ → Type 0
IsGoodAt P s word value = (base : ℕ) (kind : Kind) → kind_at s base ≡ Some kind → IsSlot base kind word
    → Each (IsNamed P) (child_rows (child_of s value))

abbrev pub IsAmong : HeldRow → List HeldRow → Type 0
IsAmong h [] = ⊥
IsAmong h (x ∷ xs) = (h ≡ x) ⊎ IsAmong h xs

-- the second list is the first with the row h put somewhere
abbrev pub IsWith : HeldRow → List HeldRow → List HeldRow → Type 0
IsWith h rest [] = ⊥
IsWith h rest (x ∷ xs) = ((x ≡ h) × (rest ≡ xs)) ⊎ ((others : List HeldRow) × (rest ≡ x ∷ others) × IsWith h others xs)

-- one row more
abbrev pub With : OfRows → ℕ → Kind → OfRows
With P b k base kind = P base kind ⊎ ((base ≡ b) × (kind ≡ k))

-- the word is one of the row, and not its version
abbrev pub IsAfterVersion : ℕ → Kind → ℕ → Type 0
IsAfterVersion base kind word = (base < word) × (word < base + row_words kind)

-- after the word was got the call knows this much, and holds and fills these rows
abbrev pub Has : OfRows → Setting → CallAt → List HeldRow → List Named → Type 0
Has P c at held filled = Knows P c at × (holds c at ≡ held) × (fills at ≡ filled)

pub data AccessDoes (P : OfRows) (c : Setting) (at : CallAt) : Type 0 where
  Reads : (word : ℕ) → (mark : Option Point) → call_turn c at ≡ Asks (Load word) mark
      → ((value : ℕ) → IsGoodAt P c.shape word value → Has P c (call_after c at value) (holds c at) (fills at)) → AccessDoes P c at
  Writes : (h : HeldRow) → (word value : ℕ) → (mark : Option Point) → call_turn c at ≡ Asks (Store word value) mark
      → IsAmong h (holds c at) → IsKept (locks c.variant) P h → IsAfterVersion h.base h.kind word → IsGoodAt P c.shape word value
      → Has P c (call_after c at 0) (holds c at) (fills at) → AccessDoes P c at
  Fills : (b : ℕ) → (k : Kind) → (word value : ℕ) → (mark : Option Point) → call_turn c at ≡ Asks (Store word value) mark
      → fills at ≡ (b, k) ∷ [] → IsAfterVersion b k word → kind_at c.shape b ≡ Some k → IsGoodAt P c.shape word value
      → Has P c (call_after c at 0) (holds c at) (fills at) → AccessDoes P c at
  Ends : (b : ℕ) → (k : Kind) → (word value : ℕ) → (mark : Option Point) → call_turn c at ≡ Asks (Store word value) mark
      → fills at ≡ (b, k) ∷ [] → IsAfterVersion b k word → kind_at c.shape b ≡ Some k → IsGoodAt P c.shape word value
      → Has (With P b k) c (call_after c at 0) (holds c at) [] → AccessDoes P c at
  Releases : (h : HeldRow) → (rest : List HeldRow) → (value : ℕ) → (mark : Option Point) → call_turn c at ≡ Asks (Store h.base value) mark
      → IsWith h rest (holds c at) → fills at ≡ [] → (value ≡ released_word h.kept) ⊎ (value ≡ obsolete_word h.kept)
      → IsKept (locks c.variant) P h
      → Has P c (call_after c at 0) rest [] → AccessDoes P c at
  Takes : (h : HeldRow) → (all : List HeldRow) → (mark : Option Point) → call_turn c at ≡ Asks (Exchange h.base h.kept (locked_word h.kept)) mark
      → IsWith h (holds c at) all → fills at ≡ [] → IsKept (locks c.variant) P h
      → (((x : HeldRow) → IsAmong x (holds c at) → x.base ≢ h.base) → Has P c (call_after c at h.kept) all [])
      → ((value : ℕ) → value ≢ h.kept → Has P c (call_after c at value) (holds c at) []) → AccessDoes P c at
  Claims : (kind : Kind) → (mark : Option Point) → call_turn c at ≡ Asks (Add (claims_of kind)) mark → fills at ≡ []
      → ((value : ℕ) → value < rows_of c.shape kind
      → Has P c (call_after c at value) (holds c at) ((base_of c.shape kind value, kind) ∷ []))
      → ((value : ℕ) → rows_of c.shape kind ≤ value → Has P c (call_after c at value) (holds c at) []) → AccessDoes P c at
  Answered : (reply : Reply) → call_turn c at ≡ Answers reply → holds c at ≡ [] → AccessDoes P c at

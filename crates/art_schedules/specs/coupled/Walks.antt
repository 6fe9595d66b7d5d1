-- A scan under lock coupling that runs alone. It touches only the rows that it holds at its end, so
-- it comes to the same stage on all words that have these rows.
use Rattle.std.specs.Prelude.{◌≡◌, ℕ, ◌+◌, ◌<◌, ◌≤◌, List, length, slice_index, Option}
use Rattle.events.specs.declared.event.Call.TheVariants.{Scan}
use Rattle.events.specs.declared.event.Reply.TheVariants as reply
use Rattle.events.specs.Limits.{pair_limit}
use Rattle.map_object.specs.MapObject.{Contents, reply_to}
use Rattle.art_rows.specs.declared.table.Shape.{Shape}
use Rattle.art_rows.specs.Table.{row_words}
use Rattle.art_rows.specs.declared.variant.Variant.TheVariants.{Coupled}
use Rattle.art_rows.specs.declared.access.Access.{Access}
use Rattle.art_rows.specs.declared.access.Point.{Point}
use Rattle.art_rows.specs.Steps.{Asks}
use Rattle.art_rows.specs.Fits.{word_of}
use Rattle.art_rows.specs.Rows.{Setting}
use Rattle.art_control_states.specs.declared.stage.HeldRow.{HeldRow}
use Rattle.art_control_states.specs.declared.stage.ScanStep.{ScanStep}
use Rattle.art_control_states.specs.declared.stage.ScanStep.TheVariants.{Release, Over}
use Rattle.art_control_states.specs.Stages.{setting}
use Rattle.art_control_states.specs.Scans.{ScanAt}
use Rattle.art_control_states.specs.Calls.{CallAt, OnScan, call_turn, call_after, call_begun}
use Rattle.art_core.specs.Accesses.{got_by, words_after}
use Rattle.art_core.specs.Meaning.{Means}
use Rattle.art_schedules.specs.trees.Trees.{IsAtRest}
use Rattle.art_schedules.specs.versions.Effects.{IsAmong}

-- the word is one of these rows
abbrev pub IsOfRows : List HeldRow → ℕ → Type 0
IsOfRows rows word = (h : HeldRow) × IsAmong h rows × (h.base ≤ word) × (word < h.base + row_words h.kind)

-- From the first stage on the first words the call comes to this stage with these words, alone, by accesses to words of these rows.
pub data Alone (c : Setting) (rows : List HeldRow) (at0 : CallAt) (w0 : List ℕ) : CallAt → List ℕ → Type 0 where
  here : Alone c rows at0 w0 at0 w0
  further : {at : CallAt} {now : List ℕ} → Alone c rows at0 w0 at now → (a : Access) → (mark : Option Point) → call_turn c at ≡ Asks a mark
      → IsOfRows rows (word_of a) → Alone c rows at0 w0 (call_after c at (got_by a now)) (words_after a now)

-- the walk is over
abbrev pub IsOver : ScanStep → Type 0
IsOver (Release n) = Unit {0}
IsOver Over = Unit {0}
IsOver step = ⊥

-- words that are as these are on the rows
abbrev pub SameOn : List HeldRow → List ℕ → List ℕ → Type 0
SameOn rows words later = (word : ℕ) → IsOfRows rows word → slice_index later word ≡ slice_index words word

-- A scan that comes to the end of its walk alone on a tree at rest has the pairs that the map has.
abbrev pub WalksAreTheMaps : Type 0
WalksAreTheMaps = (shape : Shape) (low high n : ℕ) (calm now : List ℕ) (m : Contents) (rows : List HeldRow) (at : ScanAt)
    → IsAtRest shape n calm
    → Means shape calm m
    → length m ≤ pair_limit → Alone (setting shape Coupled (Scan low high)) rows (call_begun (setting shape Coupled (Scan low high))) calm
    (OnScan low high at)
    now
    → IsOver at.step → reply_to m (Scan low high) ≡ reply.Pairs at.walk.pairs

-- It comes to the same stage on other words that are the same on these rows.
abbrev pub WalksStay : Type 0
WalksStay = (c : Setting) (rows : List HeldRow) (at0 at : CallAt) (calm after now : List ℕ) → length after ≡ length calm
    → SameOn rows calm after
    → Alone c rows at0 calm at now → (later : List ℕ) × Alone c rows at0 after at later × SameOn rows now later
    × (length later ≡ length now)

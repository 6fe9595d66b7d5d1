-- For which segments a gate was passed.
use Rattle.std.specs.Prelude.{ℕ, List, EachIndex}
use Rattle.events.specs.HistoryView.{HistoryView}
use Rattle.events.specs.Histories.{IsHistory}
use Rattle.events.specs.Operations.{operations}
use Rattle.history_text.specs.Texts.{Spells}
use Rattle.orders.specs.SegmentView.{SegmentView}
use Rattle.orders.specs.Segments.{AreSegments}

-- the gate was passed for each segment of the history
pub record WasPassedForEach (WasPassed : ℕ → Type 0) (history : HistoryView) : Type 0 where
  pub segments : List SegmentView
  pub are_segments : AreSegments history.start (operations history.events) segments
  pub each : EachIndex segments WasPassed

-- the text spells a history for which this holds
pub record HoldsForText (Holds : HistoryView → Type 0) (text : List ℕ) : Type 0 where
  pub history : HistoryView
  pub spelled : Spells text history
  pub is_history : IsHistory history
  pub holds : Holds history

-- the text spells a history, and the gate was passed for each of its segments
abbrev pub WasPassedForText : (ℕ → Type 0) → List ℕ → Type 0
WasPassedForText WasPassed text = HoldsForText (WasPassedForEach WasPassed) text

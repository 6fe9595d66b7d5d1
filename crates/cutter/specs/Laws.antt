-- Laws of segments.
use Rattle.std.specs.Prelude.{◌≡◌, List}
use Rattle.events.specs.HistoryView.{HistoryView}
use Rattle.events.specs.Histories.{IsHistory}
use Rattle.events.specs.Operations.{operations}
use Rattle.orders.specs.SegmentView.{SegmentView}
use Rattle.orders.specs.Segments.{AreSegments}

-- a history has one list of segments only
abbrev pub HasOneListOfSegments : Type 0
HasOneListOfSegments =
    (history : HistoryView) (a b : List SegmentView) → IsHistory history → AreSegments history.start (operations history.events) a
    → AreSegments history.start (operations history.events) b → a ≡ b

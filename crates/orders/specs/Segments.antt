-- The segments of a history: the classes of calls that are together, by rising key.
use Rattle.std.specs.Prelude.{◌≡◌, ◌≢◌, ◌↔◌, ℕ, ◌<◌, List, [], All, Any, AllPairs, Contains}
use Rattle.std.specs.List.Sorted.{IsStrictlyIncreasing}
use Rattle.events.specs.declared.operation.Operation.{Operation}
use Rattle.map_object.specs.MapObject.{Contents}
use Rattle.orders.specs.Cuts.{BelongsAt, AreTogether}
use Rattle.orders.specs.SegmentView.{SegmentView, segment_of}

-- a segment: the calls that belong and are together with one of them, all of these and no others,
-- by rising number
pub record IsSegment (start : Contents) (calls : List Operation) (segment : SegmentView) : Type 0 where
  pub not_empty : segment.numbers ≢ []
  pub rising : IsStrictlyIncreasing segment.numbers
  pub members : (m n : ℕ) → Contains segment.numbers m → (Contains segment.numbers n ↔ (BelongsAt calls n × AreTogether calls m n))
  pub view : segment ≡ segment_of start calls segment.numbers

-- the segments: each call that belongs is in one of them, and they are sorted by key
pub record AreSegments (start : Contents) (calls : List Operation) (segments : List SegmentView) : Type 0 where
  pub each : All (IsSegment start calls) segments
  pub all : (n : ℕ) → BelongsAt calls n → Any (λ s. Contains s.numbers n) segments
  pub by_key : AllPairs (λ s t. s.hi < t.lo) segments

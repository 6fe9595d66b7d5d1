-- All calls of a history that belong to a segment, as one segment.
use Rattle.std.specs.Prelude.{◌≡◌, ◌≢◌, ◌↔◌, ℕ, List, [], Contains}
use Rattle.std.specs.List.Sorted.{IsStrictlyIncreasing}
use Rattle.events.specs.declared.operation.Operation.{Operation}
use Rattle.map_object.specs.MapObject.{Contents}
use Rattle.orders.specs.Cuts.{BelongsAt}
use Rattle.orders.specs.SegmentView.{SegmentView, segment_of}

-- no call belongs to a segment: each is a pending get or a pending scan
abbrev pub NoneBelongs : List Operation → Type 0
NoneBelongs calls = (n : ℕ) → BelongsAt calls n → ⊥

-- all calls that belong to a segment, by rising number
pub record IsWholeSegment (start : Contents) (calls : List Operation) (segment : SegmentView) : Type 0 where
  pub not_empty : segment.numbers ≢ []
  pub rising : IsStrictlyIncreasing segment.numbers
  pub members : (n : ℕ) → Contains segment.numbers n ↔ BelongsAt calls n
  pub view : segment ≡ segment_of start calls segment.numbers

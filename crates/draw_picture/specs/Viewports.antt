-- The part of a picture that a view shows: a viewport of the columns of the calls that the verdict
-- concerns.
use Rattle.std.specs.Prelude.{◌≡◌, ℕ, ◌+◌, ◌-◌, ◌*◌, ◌/◌, ◌==◌, ◌<◌, ◌≤◌, Bool, true, not, ◌&&◌, ◌||◌, nat_lt, nat_le, if◌then◌else◌, min}
use Rattle.std.specs.Prelude.{List, ◌++◌, length, map, filter, count_by, position, Option, Some, None, option_map, unwrap_or}
use Rattle.std.specs.Prelude.{slice_get, MatchBool}
use Rattle.std.specs.Prelude.{Contains, IfSome}
use Rattle.std.specs.List.{filter_map, list_any}
use Rattle.events.specs.Limits.{call_limit}
use Rattle.draw_picture.specs.declared.picture.Bar.{Bar}
use Rattle.draw_picture.specs.declared.picture.Mark.{Mark}
use Rattle.draw_picture.specs.declared.picture.Picture.{Picture}
use Rattle.draw_picture.specs.declared.picture.View.{View}
use Rattle.draw_picture.specs.Marks.{IsInside}

-- ---- the event in the middle

-- the event after which the last mark is, or the first event if nothing is marked
abbrev pub last_point : List Mark → ℕ
last_point marks = unwrap_or (option_map (λ m. m.point) (slice_get marks (length marks - 1))) 0

-- the event in the middle if the view asks for none: the wrong event if there is one, otherwise
-- that of the last mark
abbrev pub event_meant : Option ℕ → List Mark → ℕ
event_meant wrong marks = unwrap_or wrong (last_point marks)

-- the event that the view asks for, if the history has it; otherwise the event above
abbrev pub event_shown : ℕ → Option ℕ → ℕ → List Mark → ℕ
event_shown events wrong around marks = if nat_lt around events then around else event_meant wrong marks

-- the column of an event in the whole picture; before it are the columns of all earlier events, and
-- of the marks whose points are before it
abbrev pub column_of : List Mark → ℕ → ℕ
column_of marks event = event + count_by (λ m. nat_lt m.point event) marks

-- ---- the columns of the calls that the verdict concerns

-- the columns of a call's invocation and of its response, if the verdict concerns the call
abbrev pub start_of : Bar → Option ℕ
start_of bar = if bar.is_pale then None else Some bar.from

abbrev pub end_of : Bar → Option ℕ
end_of bar = if bar.is_pale then None else bar.to

-- these columns, and the columns of the marks
abbrev pub columns_of : List Bar → List Mark → List ℕ
columns_of bars marks = (filter_map start_of bars ++ filter_map end_of bars) ++ map (λ m. m.column) marks

-- the place of a column among these: how many of them are before it
abbrev pub rank : List ℕ → ℕ → ℕ
rank columns column = count_by (λ c. nat_lt c column) columns

abbrev pub ranked_bar : List ℕ → Bar → Bar
ranked_bar columns bar = record bar { from = rank columns bar.from; to = option_map (rank columns) bar.to }

abbrev pub ranked_mark : List ℕ → Mark → Mark
ranked_mark columns mark = record mark { column = rank columns mark.column }

-- ---- a viewport

-- for how many calls there is room: 20 if the view asks for more than a history can have
abbrev pub calls_shown : ℕ → ℕ
calls_shown calls = if nat_lt call_limit calls then 20 else calls

-- for how many columns there is room: three for each call
abbrev pub room_for : ℕ → ℕ
room_for calls = calls_shown calls * 3

-- all columns have room; with no room all are asked for
abbrev pub is_whole : ℕ → ℕ → Bool
is_whole room columns = room == 0 || nat_le columns room

-- the first column of a viewport with this much room: half the room is before the middle, if
-- neither end of the columns is passed
abbrev pub viewport_from : ℕ → ℕ → ℕ → ℕ
viewport_from columns middle room = min (middle - room / 2) (columns - min room columns)

-- a part of a bar is in the viewport from a column up to another one
abbrev pub ends_from : ℕ → Option ℕ → Bool
ends_from from None = true
ends_from from (Some end) = nat_le from end

abbrev pub meets : ℕ → ℕ → Bar → Bool
meets from to bar = nat_lt bar.from to && ends_from from bar.to

-- a mark is in the viewport
abbrev pub is_within : ℕ → ℕ → Mark → Bool
is_within from to mark = nat_le from mark.column && nat_lt mark.column to

-- the part of a bar in the viewport, if the verdict concerns the call
abbrev pub bar_in : List ℕ → ℕ → ℕ → Bar → Option Bar
bar_in columns from to bar =
    if bar.is_pale then None else (if meets from to (ranked_bar columns bar) then Some (ranked_bar columns bar) else None)

-- the bars in the viewport of the calls that the verdict concerns, and the marks in it
abbrev pub bars_in : List ℕ → ℕ → ℕ → List Bar → List Bar
bars_in columns from to bars = filter (meets from to) (map (ranked_bar columns) (filter (λ b. not b.is_pale) bars))

abbrev pub marks_in : List ℕ → ℕ → ℕ → List Mark → List Mark
marks_in columns from to marks = filter (is_within from to) (map (ranked_mark columns) marks)

-- the lanes of the processes that have such a bar, and the place of a process's lane among them
abbrev pub lanes_kept : List Bar → List ℕ → List ℕ
lanes_kept bars lanes = filter (λ p. list_any (λ b. b.process == p) bars) lanes

abbrev pub place_of : List ℕ → ℕ → ℕ
place_of lanes process = unwrap_or (position (λ lane. lane == process) lanes) 0

-- a bar's call names a key
abbrev pub has_key : ℕ → Bar → Bool
has_key key bar = nat_le bar.low key && nat_le key bar.high

-- the pairs at keys that the calls of some bars name
abbrev pub start_kept : List Bar → List (ℕ × ℕ) → List (ℕ × ℕ)
start_kept bars start = filter (λ pair. list_any (has_key pair.0) bars) start

-- a bar as the viewport shows it: open at the left if it begins before the viewport, and at the
-- right if it ends after it
abbrev pub cut_end : ℕ → ℕ → Option ℕ → Option ℕ
cut_end from to None = None
cut_end from to (Some end) = if nat_lt end to then Some (end - from) else None

abbrev pub cut_bar : List ℕ → ℕ → ℕ → Bar → Bar
cut_bar lanes from to bar = record bar {
  lane = place_of lanes bar.process;
  from = bar.from - from;
  to = cut_end from to bar.to;
  is_cut = nat_lt bar.from from;
}

-- a mark as the viewport shows it, from the lanes of the whole picture
abbrev pub cut_mark : List ℕ → List ℕ → ℕ → Mark → Mark
cut_mark all lanes from mark = record mark {
  lane = place_of lanes (unwrap_or (slice_get all mark.lane) 0);
  column = mark.column - from;
}

-- a picture is the viewport of another one, from a column up to another one among these columns,
-- around an event. The map's pairs at the start are those at keys of the calls that it shows
pub record IsPartOf (among : List ℕ) (event from to : ℕ) (whole part : Picture) : Type 0 where
  pub heading : part.heading ≡ whole.heading
  pub start : part.start.items ≡ start_kept (bars_in among from to whole.bars.items) whole.start.items
  pub lanes : part.lanes.items ≡ lanes_kept (bars_in among from to whole.bars.items) whole.lanes.items
  pub bars : part.bars.items ≡ map (cut_bar part.lanes.items from to) (bars_in among from to whole.bars.items)
  pub marks : part.marks.items ≡ map (cut_mark whole.lanes.items part.lanes.items from) (marks_in among from to whole.marks.items)
  pub columns : part.columns ≡ to - from
  pub leaves : part.part ≡ Some (record { before = from; after = length among - to; event = event })
  pub few : part.is_few ≡ whole.is_few

-- the viewport with this much room around the column of an event
abbrev pub IsViewportAround : ℕ → ℕ → ℕ → Picture → Picture → Type 0
IsViewportAround room column event whole part =
    let among = columns_of whole.bars.items whole.marks.items in
    let from = viewport_from (length among) (rank among column) room in
    IsPartOf among event from (from + min room (length among)) whole part

-- the viewport around an event
abbrev pub IsViewportOf : ℕ → ℕ → Picture → Picture → Type 0
IsViewportOf room event whole part = IsViewportAround room (column_of whole.marks.items event) event whole part

-- what a view shows of a picture of a history with this many events: the picture itself if there is
-- room for all its columns, and otherwise a viewport
abbrev pub IsShownOf : ℕ → Option ℕ → View → Picture → Picture → Type 0
IsShownOf events wrong view whole part = MatchBool (is_whole (room_for view.calls) whole.columns) (part ≡ whole)
    (IsViewportOf (room_for view.calls) (event_shown events wrong view.around whole.marks.items) whole part)

-- ---- laws of viewports

-- a viewport does not pass the last column, and its middle is in it
abbrev pub ViewportHoldsMiddle : Type 0
ViewportHoldsMiddle = (columns middle room : ℕ) → (viewport_from columns middle room + min room columns ≤ columns)
    × (middle < columns → 1 ≤ room → (viewport_from columns middle room ≤ middle)
    × (middle < viewport_from columns middle room + min room columns))

-- columns keep their order, each has a place of its own, and no place is above the number of
-- columns
abbrev pub RanksRise : Type 0
RanksRise = (columns : List ℕ) (a b : ℕ) → (a ≤ b → rank columns a ≤ rank columns b)
    × (Contains columns a → a < b → rank columns a < rank columns b) × (Contains columns a → rank columns a < length columns)

-- a mark is inside a bar of a viewport: in its lane, not before the bar's beginning, and before its
-- end
pub record IsInsideCut (mark : Mark) (bar : Bar) : Type 0 where
  pub lane : mark.lane ≡ bar.lane
  pub after : bar.from ≤ mark.column
  pub before : IfSome bar.to (λ to. mark.column < to)

-- a mark that is inside a bar, and in the viewport, is inside the bar's part in the viewport
abbrev pub MarksStayInside : Type 0
MarksStayInside = (columns all lanes : List ℕ) (from to : ℕ) (bar : Bar) (mark : Mark) → IsInside mark bar → Contains columns bar.from
    → Contains columns mark.column → slice_get all bar.lane ≡ Some bar.process → is_within from to (ranked_mark columns mark) ≡ true
    → (meets from to (ranked_bar columns bar) ≡ true)
    × IsInsideCut (cut_mark all lanes from (ranked_mark columns mark)) (cut_bar lanes from to (ranked_bar columns bar))

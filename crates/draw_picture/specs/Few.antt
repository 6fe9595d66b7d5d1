-- The picture of only a few calls of a history. They are named by the events of their invocations,
-- and the columns are those of their own events.
use Rattle.std.specs.Prelude.{◌≡◌, ◌≢◌, ℕ, ◌==◌, ◌*◌, ◌≤◌, ◌&&◌, Bool, true, not, List, map, filter, count_by, Option, AllPairs}
use Rattle.std.specs.List.{list_any}
use Rattle.events.specs.declared.operation.Operation.{Operation}
use Rattle.events.specs.Lists.{has_number}
use Rattle.draw_picture.specs.declared.picture.Bar.{Bar}
use Rattle.draw_picture.specs.declared.picture.Mark.{Mark}
use Rattle.draw_picture.specs.declared.picture.Picture.{Picture}
use Rattle.draw_picture.specs.Marks.{AreMarksOf}
use Rattle.draw_picture.specs.Viewports.{column_of, event_meant, IsViewportAround}

-- a bar is not pale if its call was invoked at one of some places
abbrev pub stands_out : List ℕ → Bar → Bool
stands_out places bar = has_number places bar.inv

abbrev pub named_bar : List ℕ → Bar → Bar
named_bar places bar = record bar { is_pale = not (stands_out places bar) }

-- whether a mark is of a call that was invoked at one of these places
abbrev pub is_of_named : List ℕ → List Bar → Mark → Bool
is_of_named places bars mark = list_any (λ bar. bar.number == mark.number && stands_out places bar) bars

-- the marks of these calls
abbrev pub named_marks : List ℕ → List Bar → List Mark → List Mark
named_marks places bars marks = filter (is_of_named places bars) marks

-- a picture in which only these calls are marked, and all other bars are pale
pub record IsNarrowedTo (places : List ℕ) (whole narrowed : Picture) : Type 0 where
  pub heading : narrowed.heading ≡ whole.heading
  pub start : narrowed.start.items ≡ whole.start.items
  pub lanes : narrowed.lanes.items ≡ whole.lanes.items
  pub bars : narrowed.bars.items ≡ map (named_bar places) whole.bars.items
  pub marks : narrowed.marks.items ≡ named_marks places whole.bars.items whole.marks.items
  pub few : narrowed.is_few ≡ true

-- for how many columns there is room
abbrev pub few_room : ℕ
few_room = 60

-- only these calls, in columns of their own events and marks; if there is no room for all, those
-- around the wrong event
pub record IsFewOf (places : List ℕ) (wrong : Option ℕ) (whole part : Picture) : Type 0 where
  pub narrowed : Picture
  pub named : IsNarrowedTo places whole narrowed
  pub shown : let event = event_meant wrong whole.marks.items in
      IsViewportAround few_room (column_of whole.marks.items event) event narrowed part

-- ---- a law

-- each call that is not pale has at most three columns, if an order of distinct calls is marked
abbrev pub FewHaveFewColumns : Type 0
FewHaveFewColumns =
    (calls : List Operation) (order places : List ℕ) (wrong : Option ℕ) (whole part : Picture) → AllPairs (λ m n. m ≢ n) order
    → AreMarksOf calls order whole.bars.items whole.marks.items → IsFewOf places wrong whole part
    → part.columns ≤ count_by (stands_out places) whole.bars.items * 3

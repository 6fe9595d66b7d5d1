-- The picture of a verdict on a history.
use Rattle.std.specs.Prelude.{◌≡◌, ℕ, ◌+◌, false, List, Option, None, length}
use Rattle.events.specs.HistoryView.{HistoryView}
use Rattle.events.specs.Operations.{operations}
use Rattle.judge.specs.declared.verdict.Verdict.{Verdict}
use Rattle.judge.specs.declared.verdict.Verdict.TheVariants as verdicts
use Rattle.draw_picture.specs.declared.picture.Heading.{Heading}
use Rattle.draw_picture.specs.declared.picture.Heading.TheVariants.{Order, NoOrder, Undecided}
use Rattle.draw_picture.specs.declared.picture.Picture.{Picture}
use Rattle.draw_picture.specs.Bars.{AreBarsOf}
use Rattle.draw_picture.specs.Columns.{order_points}
use Rattle.draw_picture.specs.Lanes.{lanes}
use Rattle.draw_picture.specs.Marks.{AreMarksOf}

-- the calls that are marked: those of the order of a yes, otherwise those of a front
abbrev pub marked : Verdict → List ℕ → List ℕ
marked (verdicts.Yes order) front = order.items
marked (verdicts.No segment) front = front
marked (verdicts.Undecided segment) front = front

-- the heading of a picture: the verdict, with the keys of the segment that it names
abbrev pub heading_of : Verdict → Heading
heading_of (verdicts.Yes order) = Order
heading_of (verdicts.No segment) = NoOrder segment.lo segment.hi
heading_of (verdicts.Undecided segment) = Undecided segment.lo segment.hi

-- the picture of a verdict on a history, with a front, and with the event at which the history goes
-- wrong if that is known
pub record IsPictureOf (history : HistoryView) (verdict : Verdict) (wrong : Option ℕ) (front : List ℕ) (picture : Picture) : Type 0 where
  pub heading : picture.heading ≡ heading_of verdict
  pub start : picture.start.items ≡ history.start
  pub lanes : picture.lanes.items ≡ lanes history.events
  pub bars : AreBarsOf history.events (order_points (operations history.events) (marked verdict front)) verdict wrong picture.bars.items
  pub marks : AreMarksOf (operations history.events) (marked verdict front) picture.bars.items picture.marks.items
  pub columns : picture.columns ≡ length history.events + length (marked verdict front)
  pub whole : picture.part ≡ None
  pub not_few : picture.is_few ≡ false

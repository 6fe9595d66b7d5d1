-- The program's answer to the text of a history that it draws.
use Rattle.std.specs.Prelude.{◌≡◌, ℕ, List, Option, Some, None, length}
use Rattle.events.specs.HistoryView.{HistoryView}
use Rattle.events.specs.Operations.{operations}
use Rattle.judge.specs.declared.verdict.Verdict.{Verdict}
use Rattle.judge.specs.Shown.{IsShown}
use Rattle.judge.specs.Exact.{IsExactVerdict}
use Rattle.explain_locate.specs.declared.location.Location.{Location}
use Rattle.explain_locate.specs.declared.location.Location.TheVariants as locations
use Rattle.explain_locate.specs.Locations.{IsLocated}
use Rattle.draw_picture.specs.declared.picture.Picture.{Picture}
use Rattle.draw_picture.specs.declared.picture.View.{View}
use Rattle.draw_picture.specs.Fronts.{IsFrontShown}
use Rattle.draw_picture.specs.Pictures.{IsPictureOf}
use Rattle.draw_svg.specs.declared.style.TheConstants.{STYLE}
use Rattle.draw_svg.specs.Svg.{IsSvgOf}
use Rattle.cli_outcome.specs.declared.outcome.Answer.{Answer}
use Rattle.cli_outcome.specs.Lines.{line}
use Rattle.cli_judge.specs.Answers.{IsTextOf, answer_of}
use Rattle.cli_draw.specs.declared.shown.Choice.{Choice}
use Rattle.cli_draw.specs.Choices.{IsChoiceOf, IsShownAs}

-- the event at which a location says that the history goes wrong
abbrev pub event_of : Location → Option ℕ
event_of locations.Yes = None
event_of (locations.No event number) = Some event
event_of (locations.Lost loss) = Some loss.event
event_of (locations.Undecided event number) = None

-- the view that shows a whole picture
abbrev pub whole : View
whole = record { around = 0; calls = 0 }

-- the view that asks for nothing: no history has such an event, or so many calls
abbrev pub unasked : View
unasked = record { around = 8192; calls = 4097 }

-- the part is what this choice shows of a picture of the verdict with this front
pub record IsPartShown (choice : Choice) (view : View) (history : HistoryView) (verdict : Verdict) (wrong : Option ℕ) (front : List ℕ)
    (part : Picture) : Type 0 where
  pub picture : Picture
  pub pictured : IsPictureOf history verdict wrong front picture
  pub viewed : IsShownAs choice (length history.events) wrong view picture part

-- the text is that of a part which this choice shows
pub record IsDrawnText (choice : Choice) (view : View) (history : HistoryView) (verdict : Verdict) (wrong : Option ℕ)
    (front text : List ℕ) : Type 0 where
  pub part : Picture
  pub shown : IsPartShown choice view history verdict wrong front part
  pub text_is : IsSvgOf STYLE.now part text

-- the text is that of the part shown of a picture of the exact verdict on the history, which is
-- this answer. The event marked as wrong is that of a location of the history
pub record IsDrawing (budget : ℕ) (view : View) (history : HistoryView) (answer : Answer) (text : List ℕ) : Type 0 where
  pub verdict : Verdict
  pub location : Location
  pub front : List ℕ
  pub choice : Choice
  pub picture : Picture
  pub part : Picture
  pub shown : IsShown history.start budget (operations history.events) verdict
  pub exact : IsExactVerdict history.start budget (operations history.events) verdict
  pub located : IsLocated budget history location
  pub fronted : IsFrontShown budget verdict front
  pub pictured : IsPictureOf history verdict (event_of location) front picture
  pub chosen : IsChoiceOf budget view history verdict location choice
  pub viewed : IsShownAs choice (length history.events) (event_of location) view picture part
  pub text_is : IsSvgOf STYLE.now part text
  pub answer_is : answer ≡ answer_of verdict

-- the answer of `draw` to the text at the budget: the part of a picture of the verdict on the
-- history that this view asks for
pub record IsViewAnswer (budget : ℕ) (view : View) (text : List ℕ) (answer : Answer) (bytes : List ℕ) : Type 0 where
  pub history : HistoryView
  pub drawing : List ℕ
  pub is_text : IsTextOf text history
  pub is_drawing : IsDrawing budget view history answer drawing
  pub bytes_are : bytes ≡ line drawing

-- the answer of `draw` with the whole picture
abbrev pub IsDrawAnswer : ℕ → List ℕ → Answer → List ℕ → Type 0
IsDrawAnswer budget text answer bytes = IsViewAnswer budget whole text answer bytes

-- the answer of `draw` if the view asks for nothing
abbrev pub IsUnaskedAnswer : ℕ → List ℕ → Answer → List ℕ → Type 0
IsUnaskedAnswer budget text answer bytes = IsViewAnswer budget unasked text answer bytes

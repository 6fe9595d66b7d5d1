-- Which calls a picture shows. If the view asks for nothing, it shows a few calls that explain a
-- no, or what is located after an undecided. With them it shows the calls that put what they read,
-- and those that they miss.
use Rattle.std.specs.Prelude.{◌≡◌, ℕ, ◌&&◌, Bool, not, nat_lt, List, [], ◌∷◌, ◌++◌, length, map, Option, Some, None, MatchBool}
use Rattle.events.specs.HistoryView.{HistoryView}
use Rattle.events.specs.Limits.{call_limit}
use Rattle.events.specs.Operations.{operations}
use Rattle.events.specs.declared.operation.Operation.{Operation}
use Rattle.map_object.specs.MapObject.{Contents}
use Rattle.judge.specs.declared.verdict.Verdict.{Verdict}
use Rattle.judge.specs.declared.verdict.Verdict.TheVariants as verdicts
use Rattle.explain_locate.specs.declared.location.Location.{Location}
use Rattle.explain_locate.specs.declared.evidence.Evidence.{Evidence}
use Rattle.explain_locate.specs.declared.evidence.Evidence.TheVariants.{OfEvents, OfPart, Missing}
use Rattle.explain_locate.specs.Evidences.{IsEvidenceOf}
use Rattle.follow_violations.specs.OwnParts.{AreOwnLosses, KeyCore}
use Rattle.follow_violations.specs.declared.lost_keys.KeyViolation.{KeyViolation}
use Rattle.follow_violations.specs.declared.lost_keys.Origin.{Origin}
use Rattle.explain_shrink.specs.declared.explanation.Explanation.{Explanation}
use Rattle.explain_shrink.specs.Explained.{IsExplanation}
use Rattle.explain_reads_from.specs.External.{AreExternal}
use Rattle.explain_reads_from.specs.Writers.{writers_of}
use Rattle.explain_reads_from.specs.Missed.{missed_writes}
use Rattle.draw_picture.specs.declared.picture.Picture.{Picture}
use Rattle.draw_picture.specs.declared.picture.View.{View}
use Rattle.draw_picture.specs.Few.{IsFewOf}
use Rattle.draw_picture.specs.Viewports.{IsShownOf}
use Rattle.cli_draw.specs.declared.shown.Choice.{Choice}
use Rattle.cli_draw.specs.declared.shown.Choice.TheVariants.{Few, Part}

-- whether a view of a history with this many events asks for no event and for no number of calls
abbrev pub asks_for_nothing : ℕ → View → Bool
asks_for_nothing events view = not (nat_lt view.around events) && nat_lt call_limit view.calls

-- the events at which calls are invoked
abbrev pub places_of : List Operation → List ℕ
places_of calls = map (λ a. a.inv) calls

-- the events at which the calls are invoked that put one of some pairs, one pair after another
abbrev pub places_put : List Operation → List (ℕ × ℕ) → List ℕ
places_put calls [] = []
places_put calls (pair ∷ pairs) = places_of (writers_of pair calls) ++ places_put calls pairs

-- the events at which the calls are invoked that one of some calls misses, one after another
abbrev pub places_missed : List Operation → List Operation → List ℕ
places_missed calls [] = []
places_missed calls (a ∷ few) = places_of (missed_writes a calls) ++ places_missed calls few

-- The events at which calls are invoked: a few calls without order from some pairs, the calls of
-- the history that put what these read from outside, and those that they miss.
pub record AreShown (history : HistoryView) (start : Contents) (few : List Operation) (places : List ℕ) : Type 0 where
  pub pairs : List (ℕ × ℕ)
  pub external : AreExternal start few pairs
  pub places_are :
      places ≡ (places_of few ++ places_put (operations history.events) pairs) ++ places_missed (operations history.events) few

-- a few calls are shown
abbrev pub IsShownFew : HistoryView → Contents → List Operation → Choice → Type 0
IsShownFew history start few (Few places) = AreShown history start few places.items
IsShownFew history start few Part = ⊥

-- a few of some calls are shown: they have no order from some pairs, and show that all have none
pub record IsFewChoice (budget : ℕ) (history : HistoryView) (start : Contents) (calls : List Operation) (choice : Choice) : Type 0 where
  pub few : Explanation
  pub explains : IsExplanation start calls budget few
  pub shown : IsShownFew history start few.calls.items choice

-- the event at which the call is invoked that put a value, if that is known
abbrev pub places_before : Option ℕ → List ℕ
places_before None = []
places_before (Some place) = place ∷ []

-- the events at which the calls are invoked that put the values of a key
abbrev pub places_from : List Origin → List ℕ
places_from [] = []
places_from (origin ∷ origins) = places_before origin.put ++ places_from origins

-- these events for each key
abbrev pub places_begun : List KeyViolation → List ℕ
places_begun [] = []
places_begun (loss ∷ losses) = places_from loss.from.items ++ places_begun losses

-- the events of a few calls of a part that goes wrong on its own, and of the calls that put the
-- values of their keys before them
pub record ArePartPlaces (history : HistoryView) (part : KeyCore) (few : Explanation) (places : List ℕ) : Type 0 where
  pub first : List ℕ
  pub shown : AreShown history part.start few.calls.items first
  pub losses : List KeyViolation
  pub are_losses : AreOwnLosses part few.calls.items losses
  pub places_are : places ≡ first ++ places_begun losses

abbrev pub IsPartChoice : HistoryView → KeyCore → Explanation → Choice → Type 0
IsPartChoice history part few (Few places) = ArePartPlaces history part few places.items
IsPartChoice history part few Part = ⊥

-- a few calls that show a location are shown
abbrev pub IsChoiceFor : HistoryView → Evidence → Choice → Type 0
IsChoiceFor history (OfEvents few) choice = IsShownFew history history.start few.calls.items choice
IsChoiceFor history (OfPart part few) choice = IsPartChoice history part few choice
IsChoiceFor history Missing choice = choice ≡ Part

-- what is shown of a location
pub record IsChoiceAt (budget : ℕ) (history : HistoryView) (location : Location) (choice : Choice) : Type 0 where
  pub evidence : Evidence
  pub shows : IsEvidenceOf budget history location evidence
  pub shown : IsChoiceFor history evidence choice

-- what is shown of a verdict and a location if nothing is asked for
abbrev pub IsUnaskedChoice : ℕ → HistoryView → Verdict → Location → Choice → Type 0
IsUnaskedChoice budget history (verdicts.Yes order) location choice = choice ≡ Part
IsUnaskedChoice budget history (verdicts.No segment) location choice = IsFewChoice budget history segment.start segment.calls choice
IsUnaskedChoice budget history (verdicts.Undecided segment) location choice = IsChoiceAt budget history location choice

-- what is shown of a verdict and a location
abbrev pub IsChoiceOf : ℕ → View → HistoryView → Verdict → Location → Choice → Type 0
IsChoiceOf budget view history verdict location choice =
    MatchBool (asks_for_nothing (length history.events) view) (IsUnaskedChoice budget history verdict location choice) (choice ≡ Part)

-- what a picture shows for a choice: the few calls, or the part that the view asks for
abbrev pub IsShownAs : Choice → ℕ → Option ℕ → View → Picture → Picture → Type 0
IsShownAs (Few places) events wrong view whole part = IsFewOf places.items wrong whole part
IsShownAs Part events wrong view whole part = IsShownOf events wrong view whole part

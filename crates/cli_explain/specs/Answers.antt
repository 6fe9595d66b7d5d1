-- The answer of `explain` to the text of a history at a budget.
use Rattle.std.specs.Prelude.{◌≡◌, ◌⊎◌, ℕ, ◌<◌, List, [], ◌++◌, length}
use Rattle.serde_json.specs.Written.{compact_text}
use Rattle.events.specs.HistoryView.{HistoryView}
use Rattle.events.specs.declared.operation.Operation.{Operation}
use Rattle.events.specs.Operations.{operations}
use Rattle.map_object.specs.MapObject.{Contents}
use Rattle.explain_histories.specs.SmallHistories.{AreOfNoHistory, IsSmallHistory, IsWrittenAs, text_of}
use Rattle.search.specs.LongestFront.{IsLongestFront}
use Rattle.orders.specs.SegmentView.{SegmentView}
use Rattle.orders.specs.WholeSegments.{IsWholeSegment}
use Rattle.history_text.specs.Limits.{text_limit}
use Rattle.judge.specs.declared.verdict.Verdict.{Verdict}
use Rattle.judge.specs.declared.verdict.Verdict.TheVariants.{Yes, No, Undecided}
use Rattle.judge.specs.Exact.{IsExactVerdict}
use Rattle.judge.specs.Reports.{verdict_data}
use Rattle.judge.specs.Shown.{IsShown}
use Rattle.explain_shrink.specs.declared.explanation.Explanation.{Explanation}
use Rattle.explain_shrink.specs.Explained.{IsExplanation}
use Rattle.explain_locate.specs.declared.location.Location.{Location}
use Rattle.explain_locate.specs.Locations.{IsLocated}
use Rattle.explain_locate.specs.Reports.{location_data}
use Rattle.explain_locate.specs.declared.evidence.Evidence.{Evidence}
use Rattle.explain_locate.specs.declared.evidence.Evidence.TheVariants.{OfEvents, OfPart, Missing}
use Rattle.explain_locate.specs.Evidences.{IsEvidenceOf}
use Rattle.follow_violations.specs.OwnParts.{KeyCore}
use Rattle.cli_outcome.specs.declared.outcome.Answer.{Answer}
use Rattle.cli_outcome.specs.Lines.{line}
use Rattle.cli_judge.specs.Answers.{IsTextOf, answer_of}
use Rattle.explain_reads_from.specs.External.{AreExternal}
use Rattle.cli_explain.specs.Reports.{rows}
use Rattle.cli_explain.specs.Origins.{origin_lines}
use Rattle.cli_explain.specs.Fronts.{front_data}
use Rattle.cli_explain.specs.OwnParts.{AreFromLines}

-- the longest front of a history's calls that a search at the budget meets, by their numbers
pub record IsFrontOf (budget : ℕ) (history : HistoryView) (front : List ℕ) : Type 0 where
  pub segment : SegmentView
  pub whole : IsWholeSegment history.start (operations history.events) segment
  pub longest : IsLongestFront budget segment front

-- two lines: the text of a history, and its longest front, with the pairs that it leaves and the
-- calls that would come next
pub record AreTwoLines (budget : ℕ) (start : Contents) (calls : List Operation) (history : HistoryView) (bytes : List ℕ) : Type 0 where
  pub text : List ℕ
  pub front : List ℕ
  pub is_text : IsWrittenAs history text
  pub is_front : IsFrontOf budget history front
  pub bytes_are : bytes ≡ line text ++ line (compact_text (front_data start calls front))

-- these lines, or nothing if the text would be too long
abbrev pub AreLinesOf : ℕ → Contents → List Operation → HistoryView → List ℕ → Type 0
AreLinesOf budget start calls history bytes =
    ((bytes ≡ []) × (text_limit < length (text_of history))) ⊎ AreTwoLines budget start calls history bytes

-- these two lines for a history with calls that have no order; nothing if no history has these
-- calls
abbrev pub AreHistoryLines : ℕ → Contents → List Operation → List ℕ → Type 0
AreHistoryLines budget start calls bytes =
    ((bytes ≡ []) × AreOfNoHistory start calls)
    ⊎ ((history : HistoryView) × IsSmallHistory start calls history × AreLinesOf budget start calls history bytes)

-- a line for each pair that calls report from outside of them, from some pairs on, with the calls
-- of the history that put it
pub record AreOriginLines (history : HistoryView) (start : Contents) (calls : List Operation) (bytes : List ℕ) : Type 0 where
  pub pairs : List (ℕ × ℕ)
  pub external : AreExternal start calls pairs
  pub bytes_are : bytes ≡ origin_lines history.start history.events (operations history.events) pairs

-- the lines of a few calls that have no order from some pairs: one for each call, with its reason;
-- then who put what they report from outside, a history of them, and its front
pub record AreFewLines (budget : ℕ) (history : HistoryView) (start : Contents) (few : Explanation) (bytes : List ℕ) : Type 0 where
  pub outside : List ℕ
  pub origins : AreOriginLines history start few.calls.items outside
  pub small : List ℕ
  pub shown : AreHistoryLines budget start few.calls.items small
  pub bytes_are : bytes ≡ rows history few.calls.items few.reasons.items ++ (outside ++ small)

-- a few of some calls of a history: they have no order from some pairs, and show that all have none
pub record AreFew (budget : ℕ) (history : HistoryView) (start : Contents) (calls : List Operation) (bytes : List ℕ) : Type 0 where
  pub few : Explanation
  pub explains : IsExplanation start calls budget few
  pub lines : AreFewLines budget history start few bytes

-- the lines of a few calls of a part that goes wrong on its own: first the values of their keys
-- from which they begin, then the lines of the calls
pub record ArePartLines (budget : ℕ) (history : HistoryView) (part : KeyCore) (few : Explanation) (bytes : List ℕ) : Type 0 where
  pub from : List ℕ
  pub begins : AreFromLines history part few.calls.items from
  pub rest : List ℕ
  pub lines : AreFewLines budget history part.start few rest
  pub bytes_are : bytes ≡ from ++ rest

-- the lines of a few calls that show a location
abbrev pub AreEvidenceLines : ℕ → HistoryView → Evidence → List ℕ → Type 0
AreEvidenceLines budget history (OfEvents few) bytes = AreFewLines budget history history.start few bytes
AreEvidenceLines budget history (OfPart part few) bytes = ArePartLines budget history part few bytes
AreEvidenceLines budget history Missing bytes = bytes ≡ []

-- the report of where the history goes wrong, and then the calls that show that
pub record AreLocated (budget : ℕ) (history : HistoryView) (bytes : List ℕ) : Type 0 where
  pub location : Location
  pub evidence : Evidence
  pub few : List ℕ
  pub located : IsLocated budget history location
  pub shows : IsEvidenceOf budget history location evidence
  pub lines : AreEvidenceLines budget history evidence few
  pub bytes_are : bytes ≡ line (compact_text (location_data location)) ++ few

-- the lines after the report of each verdict on this history
abbrev pub AreDetails : ℕ → HistoryView → Verdict → List ℕ → Type 0
AreDetails budget history (Yes order) bytes = bytes ≡ []
AreDetails budget history (No segment) bytes = AreFew budget history segment.start segment.calls bytes
AreDetails budget history (Undecided segment) bytes = AreLocated budget history bytes

-- an explanation of a history: the report of its exact verdict, which is this answer. After a no
-- the calls that show it, and after an undecided where the history goes wrong
pub record IsExplaining (budget : ℕ) (history : HistoryView) (answer : Answer) (bytes : List ℕ) : Type 0 where
  pub verdict : Verdict
  pub details : List ℕ
  pub shown : IsShown history.start budget (operations history.events) verdict
  pub exact : IsExactVerdict history.start budget (operations history.events) verdict
  pub shows : AreDetails budget history verdict details
  pub answer_is : answer ≡ answer_of verdict
  pub bytes_are : bytes ≡ line (compact_text (verdict_data verdict)) ++ details

-- what `explain` answers to the text at the budget
pub record IsExplainAnswer (budget : ℕ) (text : List ℕ) (answer : Answer) (bytes : List ℕ) : Type 0 where
  pub history : HistoryView
  pub is_text : IsTextOf text history
  pub explains : IsExplaining budget history answer bytes

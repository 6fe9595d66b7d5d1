-- What shows a location: a few calls.
use Rattle.std.specs.Prelude.{◌≡◌, ℕ, ◌+◌, All, Contains, Some, None, ⊤}
use Rattle.events.specs.HistoryView.{HistoryView}
use Rattle.events.specs.Operations.{operations}
use Rattle.map_object.specs.MapObject.{IsRising}
use Rattle.orders.specs.Orders.{IsLinearizable}
use Rattle.follow_monitor.specs.Prefixes.{prefix_of}
use Rattle.explain_shrink.specs.Explained.{IsExplained, IsExplanation}
use Rattle.explain_shrink.specs.declared.explanation.Explanation.{Explanation}
use Rattle.follow_violations.specs.declared.loss.Violation.{Violation}
use Rattle.follow_violations.specs.OwnParts.{key_core}
use Rattle.explain_locate.specs.declared.location.Location.{Location}
use Rattle.explain_locate.specs.declared.location.Location.TheVariants as locations
use Rattle.explain_locate.specs.declared.evidence.Evidence.{Evidence}
use Rattle.explain_locate.specs.declared.evidence.Evidence.TheVariants.{OfEvents, OfPart, Missing}

-- a few of the calls of the events up to one, as they are after these events
abbrev pub ShowsUpTo : ℕ → HistoryView → ℕ → Explanation → Type 0
ShowsUpTo budget history event few = IsExplanation history.start (operations (prefix_of history (event + 1)).events) budget few

-- no number of the last of these calls that is tried shows anything
abbrev pub ShowsNoneUpTo : ℕ → HistoryView → ℕ → Type 0
ShowsNoneUpTo budget history event = IsExplained history.start (operations (prefix_of history (event + 1)).events) budget None

-- what shows that a history goes wrong at an event, if that is not known
abbrev pub IsDoubtEvidence : ℕ → HistoryView → ℕ → Evidence → Type 0
IsDoubtEvidence budget history event (OfEvents few) = ShowsUpTo budget history event few
IsDoubtEvidence budget history event (OfPart part few) = ⊥
IsDoubtEvidence budget history event Missing = ShowsNoneUpTo budget history event

-- what a loss of the monitor shows: a few calls of what goes wrong on its own, if something does
abbrev pub IsOwnEvidence : ℕ → Violation → Evidence → Type 0
IsOwnEvidence budget loss (OfEvents few) = ⊥
IsOwnEvidence budget loss (OfPart part few) = (key_core loss ≡ Some part) × IsExplanation part.start part.calls budget few
IsOwnEvidence budget loss Missing = key_core loss ≡ None

-- what shows that a history goes wrong if the monitor lost its order there: a few of the last calls of the events up to there; or what the
-- loss shows, if none of these show anything
abbrev pub IsLossEvidence : ℕ → HistoryView → Violation → Evidence → Type 0
IsLossEvidence budget history loss (OfEvents few) = ShowsUpTo budget history loss.event few
IsLossEvidence budget history loss (OfPart part few) = ShowsNoneUpTo budget history loss.event × IsOwnEvidence budget loss (OfPart part few)
IsLossEvidence budget history loss Missing = ShowsNoneUpTo budget history loss.event × IsOwnEvidence budget loss Missing

-- what shows that a history goes wrong at an event: a few calls of the events up to there
abbrev pub IsFoundEvidence : ℕ → HistoryView → ℕ → Evidence → Type 0
IsFoundEvidence budget history event (OfEvents few) = ShowsUpTo budget history event few
IsFoundEvidence budget history event (OfPart part few) = ⊥
IsFoundEvidence budget history event Missing = ⊥

-- what shows a location
abbrev pub IsEvidenceOf : ℕ → HistoryView → Location → Evidence → Type 0
IsEvidenceOf budget history locations.Yes evidence = evidence ≡ Missing
IsEvidenceOf budget history (locations.No event number) evidence = IsFoundEvidence budget history event evidence
IsEvidenceOf budget history (locations.Lost loss) evidence = IsLossEvidence budget history loss evidence
IsEvidenceOf budget history (locations.Undecided event number) evidence = IsDoubtEvidence budget history event evidence

-- the calls of what goes wrong on its own are calls of the events up to one, at their own places
abbrev pub AreCallsUpTo : HistoryView → ℕ → Evidence → Type 0
AreCallsUpTo history event (OfEvents few) = ⊤
AreCallsUpTo history event (OfPart part few) = All (Contains (operations (prefix_of history (event + 1)).events)) part.calls
AreCallsUpTo history event Missing = ⊤

-- up to the event of a loss
abbrev pub AreCallsOf : HistoryView → Location → Evidence → Type 0
AreCallsOf history locations.Yes evidence = ⊤
AreCallsOf history (locations.No event number) evidence = ⊤
AreCallsOf history (locations.Lost loss) evidence = AreCallsUpTo history loss.event evidence
AreCallsOf history (locations.Undecided event number) evidence = ⊤

-- the calls that are shown have no order from the pairs that they begin with
abbrev pub Refutes : HistoryView → Evidence → Type 0
Refutes history (OfEvents few) = IsLinearizable history.start few.calls.items → ⊥
Refutes history (OfPart part few) = IsRising part.start × (IsLinearizable part.start few.calls.items → ⊥)
Refutes history Missing = ⊤

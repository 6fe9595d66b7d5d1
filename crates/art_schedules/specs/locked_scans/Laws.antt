-- Laws of scans under lock coupling.
use Rattle.std.specs.Prelude.{◌≡◌, ◌≢◌, ℕ, ◌≤◌, List, [], ◌∷◌, ◌++◌, length, Option}
use Rattle.events.specs.Limits.{pair_limit}
use Rattle.events.specs.declared.event.Call.TheVariants.{Scan}
use Rattle.events.specs.declared.event.Reply.{Reply}
use Rattle.map_object.specs.MapObject.{Contents, reply_to}
use Rattle.art_rows.specs.declared.table.Shape.{Shape}
use Rattle.art_rows.specs.declared.access.Access.{Access}
use Rattle.art_rows.specs.declared.access.Point.{Point}
use Rattle.art_rows.specs.declared.variant.Variant.TheVariants.{Coupled}
use Rattle.art_rows.specs.Steps.{Asks, Answers}
use Rattle.art_control_states.specs.declared.stage.HeldRow.{HeldRow}
use Rattle.art_control_states.specs.Stages.{setting}
use Rattle.art_control_states.specs.Scans.{ScanAt, scan_start, scan_turn}
use Rattle.art_control_states.specs.Calls.{OnScan, call_after_words}
use Rattle.art_core.specs.Core.{Plan, State}
use Rattle.art_core.specs.Meaning.{Means}
use Rattle.art_schedules.specs.trees.Trees.{IsAtRest}
use Rattle.art_schedules.specs.calm.Calm.{calm_of}
use Rattle.art_schedules.specs.changes.Effects.{Effect}
use Rattle.art_schedules.specs.changes.Courses.{IsGoneBy, ComesInBy}
use Rattle.art_schedules.specs.changes.Follows.{Follows}
use Rattle.art_schedules.specs.coupled.Moments.{TakesLive, ObsoleteLeave, IsCoupledStep}
use Rattle.art_schedules.specs.versions.Effects.{IsAmong}
use Rattle.art_schedules.specs.versions.Versions.{IsAtStage}
use Rattle.art_schedules.specs.coupled.Good.{TakesReached}
use Rattle.art_schedules.specs.coupled.Scanning.{KnowsTree}
use Rattle.art_schedules.specs.locked_scans.Walking.{HasWalked, ScanGoes, ScanComes, ScanStays, HasPairsFound, rows_of_scan}
use Rattle.art_schedules.specs.coupled.Walks.{IsOver}

-- A scan begins where it has walked nothing yet.
abbrev pub ScansBegin : Type 0
ScansBegin = (shape : Shape) (low high : ℕ) (calm words : List ℕ) → length words ≡ length calm
    → (call_after_words (setting shape Coupled (Scan low high)) [] ≡ OnScan low high (scan_start (setting shape Coupled (Scan low high))))
    × HasWalked shape low high calm words (scan_start (setting shape Coupled (Scan low high)))

-- In a run: a step of a scan that has not come to the end of its walk, and that takes no row that is obsolete.
abbrev pub ScansGoOn : Type 0
ScansGoOn = (plan : Plan) (start : Contents) (words schedule : List ℕ) (p : ℕ) (s t : State) (claims : ℕ) (m : Contents)
    (low high : ℕ) (x : ScanAt)
    → IsCoupledStep plan start words schedule p s t claims m → TakesLive plan.shape s p
    → IsAtStage Coupled plan.shape s p (Scan low high) (OnScan low high x) → (IsOver x.step → ⊥)
    → HasWalked plan.shape low high (calm_of plan words schedule) s.words x
    → ScanGoes plan.shape low high t p (calm_of plan words schedule) (calm_of plan words (schedule ++ p ∷ []))

-- At the end of its walk, before it has released a row, a scan has the pairs that the map of this moment has.
abbrev pub WalkedScansFind : Type 0
WalkedScansFind = (shape : Shape) (low high n : ℕ) (calm words : List ℕ) (m : Contents) (x : ScanAt) → IsAtRest shape n calm
    → Means shape calm m
    → length m ≤ pair_limit → HasWalked shape low high calm words x → IsOver x.step
    → HasPairsFound shape low high calm words (reply_to m (Scan low high)) x

-- A step of a scan that has found its reply, other than the one that answers it.
abbrev pub FoundScansStay : Type 0
FoundScansStay = (plan : Plan) (start : Contents) (words schedule : List ℕ) (p : ℕ) (s t : State) (claims : ℕ) (m : Contents)
    (low high : ℕ) (x : ScanAt)
    (r : Reply) (a : Access) (mark : Option Point) → IsCoupledStep plan start words schedule p s t claims m
    → IsAtStage Coupled plan.shape s p (Scan low high) (OnScan low high x)
    → HasPairsFound plan.shape low high (calm_of plan words schedule) s.words r x
    → scan_turn (setting plan.shape Coupled (Scan low high)) x ≡ Asks a mark
    → ScanStays plan.shape low high t p (calm_of plan words schedule) (calm_of plan words (schedule ++ p ∷ [])) r

-- It is answered what it has found.
abbrev pub FoundScansAnswer : Type 0
FoundScansAnswer = (shape : Shape) (low high : ℕ) (calm words : List ℕ) (r answer : Reply) (x : ScanAt)
    → HasPairsFound shape low high calm words r x
    → scan_turn (setting shape Coupled (Scan low high)) x ≡ Answers answer → answer ≡ r

-- Before the end of its walk it is not answered.
abbrev pub WalkingScansAsk : Type 0
WalkingScansAsk = (shape : Shape) (low high : ℕ) (x : ScanAt) (answer : Reply) → (IsOver x.step → ⊥)
    → scan_turn (setting shape Coupled (Scan low high)) x ≡ Answers answer → ⊥

-- A step of another process leaves a scan where it is, with what it has walked or found.
abbrev pub OthersLeaveScans : Type 0
OthersLeaveScans = (plan : Plan) (start : Contents) (words schedule : List ℕ) (p : ℕ) (s t : State) (claims : ℕ) (m : Contents)
    (r low high : ℕ) (x : ScanAt)
    → IsCoupledStep plan start words schedule p s t claims m → r ≢ p → IsAtStage Coupled plan.shape s r (Scan low high) (OnScan low high x)
    → IsAtStage Coupled plan.shape t r (Scan low high) (OnScan low high x)
    × (HasWalked plan.shape low high (calm_of plan words schedule) s.words x
    → HasWalked plan.shape low high (calm_of plan words (schedule ++ p ∷ [])) t.words x)
    × ((reply : Reply) → HasPairsFound plan.shape low high (calm_of plan words schedule) s.words reply x
    → HasPairsFound plan.shape low high (calm_of plan words (schedule ++ p ∷ [])) t.words reply x)

-- ---- scans that know the calm tree

-- A scan that knows the calm tree up to the end of its walk takes no row that is obsolete,
abbrev pub ScansTakeLive : Type 0
ScansTakeLive = (plan : Plan) (start : Contents) (words schedule : List ℕ) (p : ℕ) (s t : State) (claims : ℕ) (m : Contents)
    (leaving : ℕ → Option ℕ)
    (low high : ℕ) (x : ScanAt) → IsCoupledStep plan start words schedule p s t claims m
    → ObsoleteLeave plan.shape s (calm_of plan words schedule) leaving
    → IsAtStage Coupled plan.shape s p (Scan low high) (OnScan low high x)
    → ((IsOver x.step → ⊥) → KnowsTree plan.shape (calm_of plan words schedule) x) → TakesLive plan.shape s p

-- A scan takes only rows of the calm tree.
abbrev pub ScansTakeReached : Type 0
ScansTakeReached = (plan : Plan) (start : Contents) (words schedule : List ℕ) (p : ℕ) (s t : State) (claims : ℕ) (m : Contents)
    (low high : ℕ) (x : ScanAt)
    → IsCoupledStep plan start words schedule p s t claims m → IsAtStage Coupled plan.shape s p (Scan low high) (OnScan low high x)
    → ((IsOver x.step → ⊥) → KnowsTree plan.shape (calm_of plan words schedule) x)
    → TakesReached plan.shape s p (calm_of plan words schedule)

-- The steps of a scan need no further premise, and it knows the calm tree after them.
abbrev pub ScansComeOn : Type 0
ScansComeOn = (plan : Plan) (start : Contents) (words schedule : List ℕ) (p : ℕ) (s t : State) (claims : ℕ) (m : Contents)
    (leaving : ℕ → Option ℕ)
    (low high : ℕ) (x : ScanAt) → IsCoupledStep plan start words schedule p s t claims m
    → ObsoleteLeave plan.shape s (calm_of plan words schedule) leaving
    → IsAtStage Coupled plan.shape s p (Scan low high) (OnScan low high x) → (IsOver x.step → ⊥)
    → HasWalked plan.shape low high (calm_of plan words schedule) s.words x
    → KnowsTree plan.shape (calm_of plan words schedule) x
    → ScanComes plan.shape low high t p (calm_of plan words schedule) (calm_of plan words (schedule ++ p ∷ []))

-- A step of another process, in which the calm tree changes by an effect, or by none: no row leaves it that the scan holds.
abbrev pub OthersLeaveTrees : Type 0
OthersLeaveTrees = (plan : Plan) (start : Contents) (words schedule : List ℕ) (p : ℕ) (s t : State) (claims : ℕ) (m : Contents)
    (r low high : ℕ) (x : ScanAt)
    (n : ℕ) (pairs : Contents) (effect : Option Effect) → IsCoupledStep plan start words schedule p s t claims m → r ≢ p
    → IsAtStage Coupled plan.shape s r (Scan low high) (OnScan low high x)
    → Follows plan.shape n (calm_of plan words schedule) (calm_of plan words (schedule ++ p ∷ [])) pairs (IsGoneBy effect)
    (ComesInBy effect)
    → ((h : HeldRow) → IsAmong h (rows_of_scan plan.shape low high x) → IsGoneBy effect h.base → ⊥) → (IsOver x.step → ⊥)
    → HasWalked plan.shape low high (calm_of plan words schedule) s.words x → KnowsTree plan.shape (calm_of plan words schedule) x
    → KnowsTree plan.shape (calm_of plan words (schedule ++ p ∷ [])) x

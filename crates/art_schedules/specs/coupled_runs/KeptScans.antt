-- What steps have to preserve of scans, so that they preserve what fits each call of the coupled
-- tree.
use Rattle.std.specs.Prelude.{◌≡◌, ◌≢◌, ℕ, List, [], ◌∷◌, ◌++◌, length, Option}
use Rattle.events.specs.declared.event.Call.{Call}
use Rattle.events.specs.declared.event.Call.TheVariants.{Scan}
use Rattle.events.specs.declared.event.Reply.{Reply}
use Rattle.map_object.specs.MapObject.{Contents}
use Rattle.art_rows.specs.declared.variant.Variant.TheVariants.{Coupled}
use Rattle.art_rows.specs.declared.access.Access.{Access}
use Rattle.art_core.specs.declared.process.Process.{Process}
use Rattle.art_core.specs.Core.{Plan, State, begun, opened_on}
use Rattle.art_control_states.specs.Scans.{ScanAt}
use Rattle.art_control_states.specs.Calls.{OnScan}
use Rattle.art_schedules.specs.versions.Versions.{IsOpen, stage_of}
use Rattle.art_schedules.specs.changes.Effects.{Effect}
use Rattle.art_schedules.specs.changes.Follows.{KeepsTree}
use Rattle.art_schedules.specs.effects.Outcomes.{Makes}
use Rattle.art_schedules.specs.coupled.Moments.{ObsoleteLeave, TakesLive}
use Rattle.art_schedules.specs.coupled.Good.{HoldsGood, TakesReached}
use Rattle.art_schedules.specs.stories.Stories.{Status, Before, Trace}
use Rattle.art_schedules.specs.stories.Fitting.{IsTraceStep, Next, BeginsCall, MakesAccess, AnswersCall, HasItsReply}
use Rattle.art_schedules.specs.coupled_runs.CoupledFits.{OfScans}

-- What a step of a scan has to give: the status after it, calm's tree as it was, and only live rows
-- of calm's tree taken.
pub record ScanStep (plan : Plan) (words schedule : List ℕ) (tale : Trace) (p : ℕ) (s t : State) (calm after : List ℕ) (call : Call)
    (q later : Process)
    (status : Status) (Scans : OfScans) : Type 0 where
  pub low : ℕ
  pub high : ℕ
  pub at : ScanAt
  pub stage : stage_of Coupled plan.shape call later ≡ OnScan low high at
  pub next : Status
  pub keeps : KeepsTree plan.shape calm after
  pub how : Next plan (opened_on plan words) schedule tale p (length (begun q)) call status next
  pub fits : Scans (schedule ++ p ∷ []) t after p call later next
  pub live : TakesLive plan.shape s p
  pub reached : TakesReached plan.shape s p calm

-- What fits a scan is kept.
pub record ScansAreKept (plan : Plan) (start : Contents) (words : List ℕ) (Scans : OfScans) : Type 0 where
  pub begins : (schedule : List ℕ) (tale : Trace) (p : ℕ) (s t : State) (calm after : List ℕ)
      → IsTraceStep plan start words schedule tale p s t calm after
      → (low high : ℕ) (q later : Process) → BeginsCall plan s p t (Scan low high) q later
      → Scans (schedule ++ p ∷ []) t after p (Scan low high) later Before
  pub own : (schedule : List ℕ) (tale : Trace) (p : ℕ) (s t : State) (calm after : List ℕ) (leaving : ℕ → Option ℕ)
      → IsTraceStep plan start words schedule tale p s t calm after → ObsoleteLeave plan.shape s calm leaving
      → (call : Call) (q later : Process) (a : Access)
      (status : Status) → MakesAccess plan s p t call q later a → HoldsGood plan.shape calm call q → (low high : ℕ) (at : ScanAt)
      → stage_of Coupled plan.shape call q ≡ OnScan low high at → Scans schedule s calm p call q status
      → ScanStep plan words schedule tale p s t calm after call q later status Scans
  pub other : (schedule : List ℕ) (tale : Trace) (p : ℕ) (s t : State) (calm after : List ℕ)
      → IsTraceStep plan start words schedule tale p s t calm after
      → (effect : Option Effect) → Makes Coupled plan.shape s p calm after (tale.pairs (length schedule)) effect
      → (r : ℕ) (call : Call) (q : Process) (status : Status) → r ≢ p → IsOpen s r call q → IsOpen t r call q
      → HoldsGood plan.shape calm call q
      → Scans schedule s calm r call q status → Scans (schedule ++ p ∷ []) t after r call q status
  pub answers : (schedule : List ℕ) (tale : Trace) (p : ℕ) (s t : State) (calm after : List ℕ)
      → IsTraceStep plan start words schedule tale p s t calm after
      → (call : Call) (q : Process) (status : Status) (reply : Reply) → AnswersCall plan s p t call q reply
      → Scans schedule s calm p call q status
      → HasItsReply plan words schedule tale p call q status reply

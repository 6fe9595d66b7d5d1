-- What is claimed of every schedule: statements alone. Laws carry those of histories
-- (`logs_are_history`), of serial schedules (`serial_is_map`), of scans (`scans_have_one_moment`),
-- of the optimistic tree (`optimistic_is_linearizable`) and of the coupled one
-- (`coupled_is_linearizable`).
use Rattle.std.specs.Prelude.{◌≡◌, ◌≢◌, ◌⊎◌, ℕ, List, length, slice_get, Some}
use Rattle.events.specs.declared.event.Call.TheVariants.{Scan}
use Rattle.events.specs.declared.event.Reply.{Reply}
use Rattle.events.specs.declared.event.Reply.TheVariants as replies
use Rattle.events.specs.Histories.{AreHistoryEvents}
use Rattle.events.specs.Operations.{operations}
use Rattle.map_object.specs.MapObject.{Contents}
use Rattle.orders.specs.Orders.{IsLegal, after_calls, IsLinearizable}
use Rattle.art_rows.specs.declared.variant.Variant.TheVariants.{Coupled, Optimistic}
use Rattle.art_core.specs.declared.process.Process.{Process}
use Rattle.art_core.specs.Core.{Plan, State, begun, history_of, known_reply, opened_on}
use Rattle.art_core.specs.Plans.{IsRun, IsSerial}
use Rattle.art_core.specs.Meaning.{Means, AllUnlocked}
use Rattle.art_core.specs.Moments.{HasMoment}

-- What a state logs is a history.
abbrev pub LogsAreHistory : Type 0
LogsAreHistory = (plan : Plan) (start : Contents) (words schedule : List ℕ) (s : State) → IsRun plan start words schedule s
    → AreHistoryEvents (history_of s)

-- A serial schedule of a full tree does what the map does from the starting pairs on; no row is locked after it, and its words mean the
-- map's pairs.
abbrev pub SerialIsMap : Type 0
SerialIsMap =
    (plan : Plan) (start : Contents) (words schedule : List ℕ) (s : State) → IsRun plan start words schedule s
    → (plan.variant ≡ Coupled) ⊎ (plan.variant ≡ Optimistic) → IsSerial (history_of s)
    → IsLegal start (operations (history_of s)) × AllUnlocked plan.shape s.words
    × Means plan.shape s.words (after_calls start (operations (history_of s)))

-- Every history of the coupled tree is linearizable.
abbrev pub CoupledIsLinearizable : Type 0
CoupledIsLinearizable =
    (plan : Plan) (start : Contents) (words schedule : List ℕ) (s : State) → IsRun plan start words schedule s
    → plan.variant ≡ Coupled → IsLinearizable start (operations (history_of s))

-- Every history of the optimistic tree is linearizable, range scans included.
abbrev pub OptimisticIsLinearizable : Type 0
OptimisticIsLinearizable =
    (plan : Plan) (start : Contents) (words schedule : List ℕ) (s : State) → IsRun plan start words schedule s
    → plan.variant ≡ Optimistic → IsLinearizable start (operations (history_of s))

-- A validated scan has one moment.
abbrev pub ScanHasMoment : Type 0
ScanHasMoment =
    (plan : Plan) (start : Contents) (words schedule : List ℕ) (s : State) (p low high : ℕ) (q : Process) (reply : Reply)
    → IsRun plan start words schedule s → plan.variant ≡ Optimistic
    → slice_get s.processes p ≡ Some q → q.call ≡ Some (Scan low high) → known_reply plan q.got q.call ≡ Some reply
    → reply ≢ replies.Refused
    → HasMoment plan (opened_on plan words) schedule p (length (begun q)) (Scan low high) q.got reply

-- Laws of serial schedules.
use Rattle.std.specs.Prelude.{◌≡◌, ℕ, List, slice_get, Some, None}
use Rattle.events.specs.declared.event.Call.{Call}
use Rattle.events.specs.declared.event.Reply.{Reply}
use Rattle.art_rows.specs.declared.table.Shape.{Shape}
use Rattle.art_rows.specs.declared.variant.Variant.{Variant}
use Rattle.art_core.specs.declared.process.Process.{Process}
use Rattle.art_core.specs.Core.{Plan, State, history_of, next_move}
use Rattle.art_core.specs.Plans.{IsSerial}
use Rattle.art_schedules.specs.serial.Serial.{IsRunOn, HasRunAlone, HasRunScript, sole_plan}

-- A serial schedule is a list of calls that run alone, one after another.
abbrev pub SerialSchedulesRunAlone : Type 0
SerialSchedulesRunAlone =
    (plan : Plan) (first schedule : List ℕ) (s : State) → IsRunOn plan first schedule s → IsSerial (history_of s)
    → (done : List (Call × Reply)) × HasRunAlone plan first s done

-- One process alone, with nothing left to do, has run its script serially.
abbrev pub SoleProcessRunsScript : Type 0
SoleProcessRunsScript = (shape : Shape) (variant : Variant) (script : List Call) (first schedule : List ℕ) (s : State) (q : Process)
    → IsRunOn (sole_plan shape variant script) first schedule s → slice_get s.processes 0 ≡ Some q
    → next_move (sole_plan shape variant script) 0 q ≡ None
    → (done : List (Call × Reply)) × HasRunScript (sole_plan shape variant script) script first s q done

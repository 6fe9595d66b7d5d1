-- Where a task is, as the automaton sees it.
use Rattle.std.specs.Prelude.{⊤, ℕ, List, Option, Some, None}
use Rattle.events.specs.declared.event.Call.{Call}
use Rattle.events.specs.declared.event.Call.TheVariants.{Scan}
use Rattle.art_rows.specs.Rows.{Setting}
use Rattle.art_rows.specs.Fits.{Fits}
use Rattle.art_control_states.specs.Calls.{CallAt, rest_at}
use Rattle.art_control_states.specs.Calls as calls
use Rattle.art_scan.specs.Scans.{scan_of, low_of, high_of, IsRoomy}
use Rattle.art.specs.declared.task.Going.{Going}
use Rattle.art.specs.declared.task.Going.TheVariants.{OnKey, OnScan}

abbrev pub at_of : Going → CallAt
at_of (OnKey k) = calls.OnKey k.stage
at_of (OnScan s) = calls.OnScan (low_of s) (high_of s) (scan_of s)

-- the keys between which a call scans, and those between which the task does
abbrev pub keys_between : Call → Option (ℕ × ℕ)
keys_between (Scan low high) = Some (low, high)
keys_between call = None

abbrev pub scanned_in : Going → Option (ℕ × ℕ)
scanned_in (OnKey k) = None
scanned_in (OnScan s) = Some (low_of s, high_of s)

-- it has the room for what the next access gets
abbrev pub HasRoomToGoOn : Going → Type 0
HasRoomToGoOn (OnKey k) = ⊤
HasRoomToGoOn (OnScan s) = IsRoomy s

-- some list of words got leaves the call there
abbrev pub WordsLeadTo : Setting → CallAt → Type 0
WordsLeadTo c at = (got : List ℕ) × Fits c.shape c.variant c.call got (rest_at c at)

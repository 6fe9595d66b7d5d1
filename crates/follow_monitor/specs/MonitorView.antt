-- What contracts see of a monitor.
use Rattle.std.specs.Prelude.{ℕ, List, [], Option, None, Some}
use Rattle.std.specs.BTreeMap.{is_at}
use Rattle.std.specs.Map.{lookup}
use Rattle.std.specs.Ordering.{nat_cmp}
use Rattle.follow_violations.specs.declared.puts.Put.{Put}
use Rattle.follow_parts.specs.Views.{PartsView}
use Rattle.follow_monitor.specs.declared.open_calls.OpenCall.{OpenCall}

-- the parts of the monitor, the open calls by process, the last puts that were answered, and how many calls there were
pub record MonitorView : Type 0 where
  pub parts : PartsView
  pub open_calls : List (ℕ × OpenCall)
  pub puts : List Put
  pub calls : ℕ

-- the open call of a process
abbrev pub known_call : List (ℕ × OpenCall) → ℕ → Option OpenCall
known_call calls process = lookup (is_at (nat_cmp process)) calls

-- no parts, and no events
abbrev pub no_parts : PartsView
no_parts = record { rest = []; parts = []; reads = []; now = 0 }

-- the parts, if they are there
abbrev pub parts_of : Option PartsView → PartsView
parts_of None = no_parts
parts_of (Some parts) = parts

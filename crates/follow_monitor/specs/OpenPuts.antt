-- The puts of the open calls that a monitor knows.
use Rattle.std.specs.Prelude.{◌≡◌, ◌≢◌, ◌↔◌, ℕ, ◌<◌, List, ◌++◌, Some, AllPairs, Any, Contains}
use Rattle.follow_violations.specs.Puts.{IsPutOf}
use Rattle.follow_violations.specs.declared.puts.Put.{Put}
use Rattle.follow_parts.specs.Keeping.{begun}
use Rattle.follow_monitor.specs.MonitorView.{known_call}
use Rattle.follow_monitor.specs.declared.open_calls.OpenCall.{OpenCall}

-- the put of an open call
abbrev pub IsOpenPut : OpenCall → Put → Type 0
IsOpenPut c p = IsPutOf (begun c.call c.event) p

-- the puts of some open calls, each once if no two calls began at one event
pub record ArePutsOfEntries (entries : List (ℕ × OpenCall)) (puts : List Put) : Type 0 where
  pub each : (p : Put) → Contains puts p ↔ Any (λ e. IsOpenPut e.1 p) entries
  pub apart : AllPairs (λ d e. d.1.event ≢ e.1.event) entries → AllPairs (λ p q. p.event ≢ q.event) puts

-- each open call began at an event of its own
abbrev pub HaveOwnEvents : List (ℕ × OpenCall) → Type 0
HaveOwnEvents open_calls =
    (process other : ℕ) (c d : OpenCall) → known_call open_calls process ≡ Some c → known_call open_calls other ≡ Some d → c.event ≡ d.event
    → process ≡ other

-- the puts of the open calls, by rising event
pub record AreOpenPuts (open_calls : List (ℕ × OpenCall)) (puts : List Put) : Type 0 where
  pub each : (p : Put) → Contains puts p ↔ ((process : ℕ) × (c : OpenCall) × (known_call open_calls process ≡ Some c) × IsOpenPut c p)
  pub rising : HaveOwnEvents open_calls → AllPairs (λ p q. p.event < q.event) puts

-- recent puts, and after them those of the open calls
pub record AreAllPuts (recent : List Put) (open_calls : List (ℕ × OpenCall)) (puts : List Put) : Type 0 where
  pub pending : List Put
  pub parts : puts ≡ recent ++ pending
  pub are_open : AreOpenPuts open_calls pending

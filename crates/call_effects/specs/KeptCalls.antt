-- A call when it begins, and when it is answered.
use Rattle.std.specs.Prelude.{ℕ, ◌==◌, if◌then◌else◌, Some}
use Rattle.std.specs.Prelude.{None}
use Rattle.events.specs.declared.event.Call.{Call}
use Rattle.events.specs.declared.event.Reply.{Reply}
use Rattle.events.specs.declared.operation.Operation.{Operation}

-- a call that begins at a place
abbrev pub begun_at : ℕ → Call → Operation
begun_at place call = record { call = call; inv = place; response = None }

-- the call that was invoked at a place, with its answer at another place; all other calls as they
-- are
abbrev pub answered_at : ℕ → ℕ → Reply → Operation → Operation
answered_at inv place reply a = if a.inv == inv then record {
  call = a.call;
  inv = a.inv;
  response = Some
      (record { res = place; reply = reply });
} else a

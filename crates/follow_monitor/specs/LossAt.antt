-- What is put together where a stream goes wrong.
use Rattle.std.specs.Prelude.{◌≡◌, ℕ, List}
use Rattle.follow_violations.specs.declared.loss.Violation.{Violation}
use Rattle.follow_violations.specs.declared.puts.Put.{Put}
use Rattle.follow_parts.specs.declared.state.EndedPart.{EndedPart}
use Rattle.follow_monitor.specs.OpenPuts.{AreAllPuts}
use Rattle.follow_monitor.specs.declared.open_calls.OpenCall.{OpenCall}

-- a part at an event that answers an open call, and the puts that are known then
pub record IsLossAt (event : ℕ) (known : OpenCall) (part : EndedPart) (recent : List Put) (open_calls : List (ℕ × OpenCall)) (loss : Violation) : Type 0 where
  pub event_is : loss.event ≡ event
  pub number_is : loss.number ≡ known.number
  pub call_is : loss.call ≡ known.call
  pub part_is : loss.part ≡ part
  pub puts : AreAllPuts recent open_calls loss.puts.items

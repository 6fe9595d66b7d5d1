use Rattle.events.proofs.Common.{refl, get_or-replicate}
use Rattle.events.proofs.open_calls.OpenCalls.new.Goals as goal

pub returns : goal.returns
returns c = record { calls = refl; has_open = λ p below. get_or-replicate 64 p _ _ below }

use Rattle.follow_laws.proofs.UniteLemmas.{left_calls_part}
use Rattle.follow_laws.proofs.call_laws.left_calls_part.Goals as goal

pub returns : goal.returns
returns c = left_calls_part

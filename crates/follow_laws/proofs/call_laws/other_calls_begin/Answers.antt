use Rattle.follow_laws.proofs.EventLemmas.{other_calls_begin}
use Rattle.follow_laws.proofs.call_laws.other_calls_begin.Goals as goal

pub returns : goal.returns
returns c = other_calls_begin

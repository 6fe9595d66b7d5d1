-- A segment has one call at most, from which two configurations are reached at most.
use Rattle.judge.proofs.OneCallLemmas.{one_call-decided}
use Rattle.judge.proofs.laws.one_call_is_decided.Goals as goal

pub returns : goal.returns
returns c = one_call-decided

-- None of those so far is a call of the place with an answer.
use Rattle.cli_explain.proofs.Common.{◌≡◌, drop, was_answered}
use Rattle.cli_explain.proofs.reports.was_answered.Given as goal

abbrev pub invariant-loop-call : goal.invariant-loop-call
invariant-loop-call l = was_answered (drop l.call-index l.calls) l.place ≡ was_answered l.calls l.place

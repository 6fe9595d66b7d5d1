-- No replace so far.
use Rattle.plan_text.proofs.Common.{◌≡◌, take, true, is_plain_script}
use Rattle.plan_text.proofs.write_plans.is_plain_script.Given as goal

abbrev pub invariant-loop-call : goal.invariant-loop-call
invariant-loop-call l = is_plain_script (take l.call-index l.calls) ≡ true

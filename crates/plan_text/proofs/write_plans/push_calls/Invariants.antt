-- The values so far are those of the calls.
use Rattle.plan_text.proofs.Common.{◌≡◌, map, take, view, call_data}
use Rattle.plan_text.proofs.write_plans.push_calls.Given as goal

abbrev pub invariant-loop-call : goal.invariant-loop-call
invariant-loop-call l = map view l.items.items ≡ map call_data (take l.call-index l.calls)

-- The values so far are those of the scripts.
use Rattle.plan_text.proofs.Common.{◌≡◌, map, take, view, script_data}
use Rattle.plan_text.proofs.write_plans.push_scripts.Given as goal

abbrev pub invariant-loop-script : goal.invariant-loop-script
invariant-loop-script l = map view l.items.items ≡ map script_data (map (λ script. script.items) (take l.script-index l.scripts))

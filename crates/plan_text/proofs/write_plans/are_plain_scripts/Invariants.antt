-- No replace so far.
use Rattle.plan_text.proofs.Common.{◌≡◌, map, take, true, are_plain_scripts}
use Rattle.plan_text.proofs.write_plans.are_plain_scripts.Given as goal

abbrev pub invariant-loop-script : goal.invariant-loop-script
invariant-loop-script l = are_plain_scripts (map (λ script. script.items) (take l.script-index l.scripts)) ≡ true

use Rattle.machine.proofs.Common.{◌≡◌, take, inserts}
use Rattle.machine.proofs.starting.start_script.Given as goal

abbrev pub invariant-loop-key : goal.invariant-loop-key
invariant-loop-key l = l.script.items ≡ inserts (take l.key-index l.start)

use Rattle.recorder.proofs.Common.{◌≢◌, take, All, process_number}
use Rattle.recorder.proofs.closing.has_process.Given as goal

abbrev pub invariant-loop-pass : goal.invariant-loop-pass
invariant-loop-pass l = All (λ p. process_number p ≢ l.process) (take l.pass-index l.passes)

use Rattle.recorder.specs.Recorders.{HasProcesses}
use Rattle.recorder.proofs.closing.has_processes.Given as goal

abbrev pub invariant-loop-process : goal.invariant-loop-process
invariant-loop-process l = HasProcesses l.process l.passes

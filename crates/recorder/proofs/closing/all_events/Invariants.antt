use Rattle.recorder.proofs.Common.{◌≡◌, take, flat_map, log_of}
use Rattle.recorder.proofs.closing.all_events.Given as goal

abbrev pub invariant-loop-pass : goal.invariant-loop-pass
invariant-loop-pass l = l.all.items ≡ flat_map log_of (take l.pass-index l.passes)

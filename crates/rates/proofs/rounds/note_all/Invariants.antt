use Rattle.recorder.specs.Recorders.{IsPassOf}
use Rattle.rates.proofs.rounds.note_all.Given as goal

-- the pass stays one of the recorder
abbrev pub invariant-loop : goal.invariant-loop
invariant-loop l = IsPassOf l.recorder l.pass

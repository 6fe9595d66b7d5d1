use Rattle.recorder.proofs.Common.{arith}
use Rattle.recorder.proofs.CloseLemmas.{all-idle, all-there, as-many}
use Rattle.recorder.proofs.recorders.Recorder.has_all.Goals.{else-self-gt0-via-then-self-gt0+else-passes-from, else-self-gt0-via-else-self-gt0}
use Rattle.recorder.proofs.recorders.Recorder.has_all.Goals as goal

pub returns-then-passes-from : goal.returns-then-passes-from
returns-then-passes-from c = (
  λ h. cc,
  λ all.
      let many = as-many c.args.self.now c.args.passes.now c.requires.own c.if-self-gt0.true all in
      absurd (omega (arith, many, c.if-passes-from.true, c.from.ensures)),
)

pub returns : goal.returns
returns c = (
  λ yes. elim c.else-self-gt0.branch [
    | else-self-gt0-via-then-self-gt0+else-passes-from w ↦
        all-there c.args.self.now c.args.passes.now c.requires.own (omega (arith, w.if-passes-from.false, w.from.ensures))
        (c.has_processes.ensures.0 yes)
    | else-self-gt0-via-else-self-gt0 w ↦
        all-idle c.args.self.now c.args.passes.now c.requires.own (omega (arith, w.if-self-gt0.false)) (c.has_processes.ensures.0 yes)
  ],
  λ all. c.has_processes.ensures.1 all.processes,
)

use Rattle.std.proofs.Common.{refl, inl}
use Rattle.clap.specs.Walk.{texts}
use Rattle.cli_judge.specs.Answers.{IsCheckAnswer, IsHistoryRefusal, IsHintedJudgeAnswer}
use Rattle.cli_outcome.specs.Ends.{change}
use Rattle.cli_words.proofs.OutcomeLemmas.{read-words, hinted-words, fault-words}
use Rattle.bench_judge.specs.Outcomes.{IsHistoryLineOutcome}
use Rattle.bench_judge.proofs.command.run.Goals as goal

pub returns-in-Check-clause-run : goal.returns-in-Check-clause-run
returns-in-Check-clause-run g c = record {
  outcome = c.run_check.ensures.run.outcome;
  comes = inl (read-words IsHistoryLineOutcome (IsCheckAnswer c.in-Check.order.items) IsHistoryRefusal (texts c.args.words.now)
      (change g.S.Source.remaining g.S.Source.failures c.args.source.now c.run_check.new.source) c.run_check.ensures.run.outcome
      (λ comes. record {
        line = c.in-Ok.line;
        accepted = c.in-Ok.ensures.line.1;
        asked = c.in-Ok.ensures.line.0;
        comes = rw
            c.in-Check.is comes;
      })
      (rw (← c.deref.ensures.value) c.run_check.ensures.run.comes));
  leaves = c.run_check.ensures.run.leaves;
}

pub returns-in-Judge-clause-run : goal.returns-in-Judge-clause-run
returns-in-Judge-clause-run g c = record {
  outcome = c.run_judge.ensures.run.outcome;
  comes = inl (hinted-words IsHistoryLineOutcome (IsHintedJudgeAnswer c.in-Judge.budget) IsHistoryRefusal (texts c.args.words.now)
      (change g.S.Source.remaining g.S.Source.failures c.args.source.now c.run_judge.new.source) c.run_judge.ensures.run.outcome
      (λ comes. record {
        line = c.in-Ok.line;
        accepted = c.in-Ok.ensures.line.1;
        asked = c.in-Ok.ensures.line.0;
        comes = rw
            c.in-Judge.is comes;
      })
      c.run_judge.ensures.run.comes);
  leaves = c.run_judge.ensures.run.leaves;
}

pub returns-in-Err-clause-run : goal.returns-in-Err-clause-run
returns-in-Err-clause-run g c = record {
  outcome = c.in-Err.outcome;
  comes = inl (fault-words IsHistoryLineOutcome (texts c.args.words.now)
      (change g.S.Source.remaining g.S.Source.failures c.args.source.now c.args.source.now) c.in-Err.outcome c.in-Err.ensures.refused refl);
  leaves = c.write_outcome.ensures;
}

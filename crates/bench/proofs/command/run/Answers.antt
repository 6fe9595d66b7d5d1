use Rattle.std.specs.Prelude.{refl}
use Rattle.clap.specs.Walk.{texts}
use Rattle.cli_plans.specs.Answers.{IsReplayAnswer, IsReplayRefusal}
use Rattle.cli_outcome.specs.Ends.{change}
use Rattle.cli_words.proofs.OutcomeLemmas.{read-words, fault-words}
use Rattle.cli_dispatch.specs.Outcomes.{AsksForTrees}
use Rattle.cli_dispatch.proofs.OutcomeLemmas.{judged-words}
use Rattle.bench.specs.Outcomes.{IsLineOutcome, shape_of, variant_of}
use Rattle.bench.proofs.OutcomeLemmas.{drawn-words, driven-words, judged-line, not-trees, scheduled-words}
use Rattle.bench.proofs.command.run.Goals as goal

pub returns-in-Generate-clause-run : goal.returns-in-Generate-clause-run
returns-in-Generate-clause-run g c = record {
  outcome = c.run_generate.ensures.outcome;
  comes = drawn-words c.in-Generate.seed _ c.in-Generate.processes c.in-Generate.calls (texts c.args.words.now)
      (change g.S.Source.remaining g.S.Source.failures c.args.source.now c.args.source.now) c.run_generate.ensures.outcome
      (λ comes. record {
        line = c.in-Ok.line;
        accepted = c.in-Ok.ensures.line.1;
        asked = c.in-Ok.ensures.line.0;
        comes = rw
            c.in-Generate.is (refl, comes);
      })
      refl c.run_generate.ensures.comes;
  leaves = c.run_generate.ensures.leaves;
}

pub returns-in-Schedule-clause-run : goal.returns-in-Schedule-clause-run
returns-in-Schedule-clause-run g c = record {
  outcome = c.schedule.ensures.run.outcome;
  comes = scheduled-words (variant_of c.in-Schedule.asked.tree) (shape_of c.in-Schedule.asked.rows) c.in-Schedule.asked.limit (texts c.args.words.now)
      (change g.S.Source.remaining g.S.Source.failures c.args.source.now c.schedule.new.source) c.schedule.ensures.run.outcome
      (λ comes. record {
        line = c.in-Ok.line;
        accepted = c.in-Ok.ensures.line.1;
        asked = c.in-Ok.ensures.line.0;
        comes = rw
            c.in-Schedule.is comes;
      })
      c.schedule.ensures.run.comes;
  leaves = c.schedule.ensures.run.leaves;
}

pub returns-in-Replay-clause-run : goal.returns-in-Replay-clause-run
returns-in-Replay-clause-run g c = record {
  outcome = c.run_replay.ensures.run.outcome;
  comes = read-words IsLineOutcome IsReplayAnswer IsReplayRefusal (texts c.args.words.now)
      (change g.S.Source.remaining g.S.Source.failures c.args.source.now c.run_replay.new.source) c.run_replay.ensures.run.outcome
      (λ comes. record {
        line = c.in-Ok.line;
        accepted = c.in-Ok.ensures.line.1;
        asked = c.in-Ok.ensures.line.0;
        comes = rw
            c.in-Replay.is comes;
      })
      c.run_replay.ensures.run.comes;
  leaves = c.run_replay.ensures.run.leaves;
}

pub returns-in-Drive-clause-run : goal.returns-in-Drive-clause-run
returns-in-Drive-clause-run g c = record {
  outcome = c.drive.ensures.run.outcome;
  comes = driven-words (variant_of c.in-Drive.asked.tree) (shape_of c.in-Drive.asked.rows) c.in-Drive.asked.limit (texts c.args.words.now)
      (change g.S.Source.remaining g.S.Source.failures c.args.source.now c.drive.new.source) c.drive.ensures.run.outcome
      (λ comes. record {
        line = c.in-Ok.line;
        accepted = c.in-Ok.ensures.line.1;
        asked = c.in-Ok.ensures.line.0;
        comes = rw
            c.in-Drive.is comes;
      })
      c.drive.ensures.run.comes;
  leaves = c.drive.ensures.run.leaves;
}

pub returns-in-Err-clause-run : goal.returns-in-Err-clause-run
returns-in-Err-clause-run g c = record {
  outcome = c.in-Err.outcome;
  comes = fault-words IsLineOutcome (texts c.args.words.now)
      (change g.S.Source.remaining g.S.Source.failures c.args.source.now c.args.source.now) c.in-Err.outcome c.in-Err.ensures.refused refl;
  leaves = c.write_outcome.ensures;
}

pub returns-in_default : goal.returns-in_default
returns-in_default g c =
    let here : ¬ (AsksForTrees c.in-Ok.line) =
    not-trees c.in-Ok.line c.in_default.not-Generate c.in_default.not-Schedule c.in_default.not-Replay c.in_default.not-Drive in
    record {
      run = record {
        outcome = c.run_line.ensures.run.outcome;
        comes = judged-words IsLineOutcome c.in-Ok.line (texts c.args.words.now)
            (change g.S.Source.remaining g.S.Source.failures c.args.source.now c.run_line.new.source) c.run_line.ensures.run.outcome here
            (λ comes. record {
              line = c.in-Ok.line;
              accepted = c.in-Ok.ensures.line.1;
              asked = c.in-Ok.ensures.line.0;
              comes = judged-line c.in-Ok.line _ c.run_line.ensures.run.outcome here comes;
            })
            c.run_line.ensures.run.comes;
        leaves = c.run_line.ensures.run.leaves;
      };
      unread = c.run_line.ensures.unread;
    }

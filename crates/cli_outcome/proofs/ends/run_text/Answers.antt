use Rattle.std.proofs.Common.{inr}
use Rattle.cli_outcome.specs.Ends.{change}
use Rattle.cli_outcome.proofs.Reading.{IsTextRead-unread}
use Rattle.cli_outcome.proofs.ends.run_text.Goals as goal

pub returns-in-Ok-clause-run : goal.returns-in-Ok-clause-run
returns-in-Ok-clause-run g c = record {
  outcome = c.make.result;
  comes = inr (
    c.in-Ok.text.items,
    record { first = c.in-Ok.ensures.text; sound = c.in-Ok.ensures.sound },
    record {
      shown = c.deref.result;
      shows = c.deref.ensures.value;
      says = record { met = c.make.ensures };
    },
  );
  leaves = c.write_outcome.ensures;
}

pub returns-in-Ok-clause-read : goal.returns-in-Ok-clause-read
returns-in-Ok-clause-read g c = record { whole = λ _ _. c.in-Ok.ensures.read; most = c.text_from.ensures.most }

pub returns-clause-read : goal.returns-clause-read
returns-clause-read g c =
    IsTextRead-unread c.args.limit (change g.S.Source.remaining g.S.Source.failures c.args.source.now c.text_from.new.source)
    (change g.O.Sink.written g.O.Sink.failures c.args.output.now c.write_outcome-in-Err.new.output)
    (change g.F.Sink.written g.F.Sink.failures c.args.faults.now c.write_outcome-in-Err.new.faults)
    (change g.H.Sink.written g.H.Sink.failures c.args.hints.now c.write_outcome-in-Err.new.hints) c.in-Err.outcome
    c.write_outcome-in-Err.result
    c.in-Err.ensures.unread c.text_from.ensures.most c.write_outcome-in-Err.ensures

use Rattle.cli_outcome.specs.Ends.{change}
use Rattle.cli_judge.specs.Outcomes.{IsCheckOutcome}
use Rattle.cli_dispatch.proofs.lines.run_line.Goals as goal

pub returns-in-Check-clause-run : goal.returns-in-Check-clause-run
returns-in-Check-clause-run g c = record {
  outcome = c.run_check.ensures.run.outcome;
  comes =
      let comes : IsCheckOutcome c.in-Check.order.items
      (change g.S.Source.remaining g.S.Source.failures c.args.source.now c.run_check.new.source) c.run_check.ensures.run.outcome =
      rw (← c.deref.ensures.value) c.run_check.ensures.run.comes
      in rw c.in-Check.is comes;
  leaves = c.run_check.ensures.run.leaves;
}

pub returns-in-Judge-clause-run : goal.returns-in-Judge-clause-run
returns-in-Judge-clause-run g c = rw c.in-Judge.is c.run_judge.ensures.run

pub returns-in-Locate-clause-run : goal.returns-in-Locate-clause-run
returns-in-Locate-clause-run g c = rw c.in-Locate.is c.run_locate.ensures.run

pub returns-in-Explain-clause-run : goal.returns-in-Explain-clause-run
returns-in-Explain-clause-run g c = rw c.in-Explain.is c.run_explain.ensures.run

pub returns-in-Draw-clause-run : goal.returns-in-Draw-clause-run
returns-in-Draw-clause-run g c = rw c.in-Draw.is c.run_draw.ensures.run

pub returns-in-Page-clause-run : goal.returns-in-Page-clause-run
returns-in-Page-clause-run g c = rw c.in-Page.is c.run_page.ensures.run

pub returns-in-Follow-clause-run : goal.returns-in-Follow-clause-run
returns-in-Follow-clause-run g c = rw c.in-Follow.is c.run_follow.ensures

use Rattle.std.proofs.Common.{List, inl, inr, refl}
use Rattle.clap.specs.Walk.{texts}
use Rattle.clap.specs.Words.{Text}
use Rattle.command_line.specs.declared.line.Line.{Line}
use Rattle.command_line.specs.declared.line.Line.TheVariants.{Check, Judge, Locate, Explain, Draw, Page, Follow}
use Rattle.command_line.specs.Lines.{IsLineOf}
use Rattle.command_line.specs.WordsFaults.{IsAccepted}
use Rattle.cli_outcome.specs.declared.outcome.CommandOutcome.{CommandOutcome}
use Rattle.cli_outcome.specs.Ends.{Change, change}
use Rattle.cli_words.proofs.OutcomeLemmas.{fault-words}
use Rattle.cli_dispatch.specs.Outcomes.{AsksForTrees, IsJudgeLineOutcome}
use Rattle.cli_dispatch.proofs.OutcomeLemmas.{judged-words}
use Rattle.bench_histories.specs.Outcomes.{IsJudgeWordsOutcome}
use Rattle.bench_histories.proofs.command.run.Goals as goal

-- the outcome of a line that asks for neither a plan nor a tree
here-words : (line : Line) (words : List Text) (source : Change) (outcome : CommandOutcome) → IsAccepted words → IsLineOf words line
    → ¬ (AsksForTrees line) → IsJudgeLineOutcome line source outcome → IsJudgeWordsOutcome words source outcome
here-words line words source outcome accepted asked here comes = inl (judged-words IsJudgeLineOutcome line words source outcome here
    (λ comes. record { line = line; accepted = accepted; asked = asked; comes = comes }) comes)

-- the outcome of any line
asked-words : (line : Line) (words : List Text) (source : Change) (outcome : CommandOutcome) → IsAccepted words → IsLineOf words line
    → IsJudgeLineOutcome line source outcome → IsJudgeWordsOutcome words source outcome
asked-words (Check order) words source outcome accepted asked comes =
    here-words (Check order) words source outcome accepted asked (λ other. other) comes
asked-words (Judge budget workers) words source outcome accepted asked comes =
    here-words (Judge budget workers) words source outcome accepted asked (λ other. other) comes
asked-words (Locate budget order) words source outcome accepted asked comes =
    here-words (Locate budget order) words source outcome accepted asked (λ other. other) comes
asked-words (Explain budget) words source outcome accepted asked comes =
    here-words (Explain budget) words source outcome accepted asked (λ other. other) comes
asked-words (Draw budget workers around calls) words source outcome accepted asked comes =
    here-words (Draw budget workers around calls) words source outcome accepted asked (λ other. other) comes
asked-words (Page budget workers) words source outcome accepted asked comes =
    here-words (Page budget workers) words source outcome accepted asked (λ other. other) comes
asked-words (Follow budget) words source outcome accepted asked comes =
    here-words (Follow budget) words source outcome accepted asked (λ other. other) comes
asked-words other words source outcome accepted asked comes =
    inr (record { line = other; accepted = accepted; asked = asked; other = tt; comes = comes.1; unused = comes.0 })

pub returns-in-Ok-clause-run : goal.returns-in-Ok-clause-run
returns-in-Ok-clause-run g c = record {
  outcome = c.run_line.ensures.run.outcome;
  comes = asked-words c.in-Ok.line (texts c.args.words.now)
      (change g.S.Source.remaining g.S.Source.failures c.args.source.now c.run_line.new.source) c.run_line.ensures.run.outcome
      c.in-Ok.ensures.line.1 c.in-Ok.ensures.line.0 c.run_line.ensures.run.comes;
  leaves = c.run_line.ensures.run.leaves;
}

pub returns-in-Err-clause-run : goal.returns-in-Err-clause-run
returns-in-Err-clause-run g c = record {
  outcome = c.in-Err.outcome;
  comes = inl (fault-words IsJudgeLineOutcome (texts c.args.words.now)
      (change g.S.Source.remaining g.S.Source.failures c.args.source.now c.args.source.now) c.in-Err.outcome c.in-Err.ensures.refused refl);
  leaves = c.write_outcome.ensures;
}

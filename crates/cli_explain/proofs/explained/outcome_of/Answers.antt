use Rattle.cli_explain.proofs.explained.outcome_of.Goals as goal

pub returns-in-Ok : goal.returns-in-Ok
returns-in-Ok c budget text history is_text told = record {
  history = history;
  is_text = is_text;
  explains = rw c.in-Ok.is at told;
}

use Rattle.cli_explain.proofs.explained.explained_with.Goals as goal

pub returns : goal.returns
returns c =
    let told = c.in_ok-lines.ensures in
    record {
      verdict = c.in_ok-verdict.verdict;
      details = told.0;
      shown = c.in_ok-verdict.ensures.shown;
      exact = c.in_ok-verdict.ensures.exact;
      shows = told.1;
      answer_is = c.answer_of.ensures;
      bytes_are = told.2;
    }

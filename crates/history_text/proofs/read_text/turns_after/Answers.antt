use Rattle.history_text.proofs.Common.{Some, map, ap, sym, view, document, IsDocument, start_data}
use Rattle.history_text.proofs.SpelledLemmas.{spelled_with}
use Rattle.history_text.proofs.TextFaultLemmas.{refused_with}
use Rattle.history_text.proofs.read_text.turns_after.Goals.{After-events_of}
use Rattle.history_text.proofs.read_text.turns_after.Goals as goal

module _ (c : After-events_of) where
  -- the values of the start are those of its pairs
  value : IsDocument c.args.version (start_data (Some c.in_ok-start.start.start)) (map view c.args.items.now)
      (document c.args.version (Some (map view c.args.pairs.now)) (map view c.args.items.now))
  value = (
    sym c.requires,
    ap (λ start. document c.args.version (Some start) (map view c.args.items.now)) c.in_ok-start.ensures.spelled,
  )

pub returns-clause-spelled : goal.returns-clause-spelled
returns-clause-spelled c =
    let here = (goal.at.returns-clause-spelled c).After-events_of in
    spelled_with _ c.args.version (Some c.in_ok-start.start.start) (map view c.args.items.now) c.events_of.result (value here)
    c.events_of.ensures.start
    c.events_of.ensures.spelled c.events_of.ensures.standing

pub returns-clause-refused : goal.returns-clause-refused
returns-clause-refused c =
    let here = (goal.at.returns-clause-refused c).After-events_of in
    refused_with _ c.args.version (Some c.in_ok-start.start.start) (map view c.args.items.now) c.events_of.result (value here)
    c.in_ok-start.ensures.history.start
    c.events_of.ensures.refused

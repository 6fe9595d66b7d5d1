use Rattle.cli_draw.proofs.choice.located_choice.Goals as goal

pub returns : goal.returns
returns c = record { evidence = c.in_ok-evidence.evidence; shows = c.in_ok-evidence.ensures.shows; shown = c.in_ok-choice.ensures }

use Rattle.history_text.proofs.TextLemmas.{neither_turn}
use Rattle.stream_text.proofs.read_line.event_of.Goals as goal

pub returns-clause-refused : goal.returns-clause-refused
returns-clause-refused c = λ e spelled shaped standing.
    neither_turn c.args.version _ c.in_default.ensures.none c.in_default-turn_of.ensures.none e spelled

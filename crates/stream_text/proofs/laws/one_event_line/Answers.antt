use Rattle.stream_text.proofs.LineLemmas.{one_event}
use Rattle.stream_text.proofs.FirstLineLemmas.{one_first}
use Rattle.stream_text.proofs.laws.one_event_line.Goals as goal

pub returns-clause-event : goal.returns-clause-event
returns-clause-event c = one_event

pub returns-clause-first : goal.returns-clause-first
returns-clause-first c = one_first

use Rattle.stream_text.proofs.LineLemmas.{one_line_fault, no_event}
use Rattle.stream_text.proofs.FirstLineLemmas.{one_first_fault, no_first}
use Rattle.stream_text.proofs.laws.one_line_fault.Goals as goal

pub returns-clause-event : goal.returns-clause-event
returns-clause-event c = one_line_fault

pub returns-clause-first : goal.returns-clause-first
returns-clause-first c = one_first_fault

pub returns-clause-no_event : goal.returns-clause-no_event
returns-clause-no_event c = no_event

pub returns-clause-no_first : goal.returns-clause-no_first
returns-clause-no_first c = no_first

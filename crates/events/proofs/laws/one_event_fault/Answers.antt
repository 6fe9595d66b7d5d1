use Rattle.events.proofs.FirstFaultLemmas.{one_first_fault, faulty_is_no_history}
use Rattle.events.proofs.laws.one_event_fault.Goals as goal

pub returns-clause-one : goal.returns-clause-one
returns-clause-one c = one_first_fault

pub returns-clause-no_history : goal.returns-clause-no_history
returns-clause-no_history c = faulty_is_no_history

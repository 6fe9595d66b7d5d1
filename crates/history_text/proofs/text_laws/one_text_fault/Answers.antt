use Rattle.history_text.proofs.TextFaultLemmas.{one_fault, no_history}
use Rattle.history_text.proofs.text_laws.one_text_fault.Goals as goal

pub returns-clause-one : goal.returns-clause-one
returns-clause-one c = one_fault

pub returns-clause-no_history : goal.returns-clause-no_history
returns-clause-no_history c = no_history

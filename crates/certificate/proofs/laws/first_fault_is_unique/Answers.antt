use Rattle.certificate.proofs.FaultLemmas.{one_first_fault, faulty_is_no_order}
use Rattle.certificate.proofs.laws.first_fault_is_unique.Goals as goal

pub returns-clause-one : goal.returns-clause-one
returns-clause-one c = one_first_fault

pub returns-clause-none : goal.returns-clause-none
returns-clause-none c = faulty_is_no_order

use Rattle.history_text.proofs.Common.{list_data, number_data, version_number}
use Rattle.history_text.proofs.read_text.start_and_events.Goals as goal

pub returns-in_err-events-clause-none : goal.returns-in_err-events-clause-none
returns-in_err-events-clause-none c =
    rw c.from_residual.ensures
    (λ version start items h. c.in_err-events.ensures.none (list_data items) (list_data start) (number_data (version_number version)) h.1)

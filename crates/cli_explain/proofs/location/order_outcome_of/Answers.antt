use Rattle.cli_explain.proofs.Common.{Bool, Some, subst, sym, IsTextOutcome, IsHistoryRefusal, IsFoundAnswer}
use Rattle.cli_explain.proofs.location.order_outcome_of.Goals as goal

pub returns : goal.returns
returns c budget text history is_text ordered =
    subst (λ (b : Bool). IsTextOutcome (IsFoundAnswer budget b) IsHistoryRefusal (Some text) c.outcome_of_ordered.result) (sym c.is_some.ensures)
    (c.outcome_of_ordered.ensures budget text history is_text (rw c.in-Ok.is at ordered))

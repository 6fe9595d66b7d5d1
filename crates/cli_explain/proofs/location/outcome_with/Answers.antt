use Rattle.cli_explain.proofs.Common.{ℕ, Bool, List, Some, sym, subst, IsTextOutcome, CommandOutcome, Answered, Noted, Refused, Memory, Words, Failed}
use Rattle.cli_explain.proofs.Common.{IsHistoryRefusal, IsFoundAnswer, IsLocateAnswerWith, IsLocateOrderAnswer}
use Rattle.cli_explain.proofs.location.outcome_with.Goals as goal

-- an answer that says whether it has an order is one with whatever is found
whatever-found : (budget : ℕ) (is_found : Bool) (text : List ℕ) (outcome : CommandOutcome)
    → IsTextOutcome (IsFoundAnswer budget is_found) IsHistoryRefusal (Some text) outcome
    → IsTextOutcome (IsLocateOrderAnswer budget) IsHistoryRefusal (Some text) outcome
whatever-found budget is_found text (Answered answer bytes) (order, has, is) = (order, is)
whatever-found budget is_found text (Noted answer bytes note) is = is
whatever-found budget is_found text (Refused bytes hint) is = is
whatever-found budget is_found text Memory is = is
whatever-found budget is_found text (Words bytes) is = is
whatever-found budget is_found text Failed is = is

pub returns-then-order : goal.returns-then-order
returns-then-order c =
    let outcome = c.locate_order_outcome.result.outcome in
    let text = c.args.text.now in
    subst (λ (order : Bool). IsTextOutcome (IsLocateAnswerWith order c.args.budget) IsHistoryRefusal (Some text) outcome) (sym c.if-order.true)
    (whatever-found c.args.budget c.locate_order_outcome.result.is_found text outcome c.locate_order_outcome.ensures)

pub returns : goal.returns
returns c =
    let outcome = c.locate_outcome.result in
    let text = c.args.text.now in
    subst (λ (order : Bool). IsTextOutcome (IsLocateAnswerWith order c.args.budget) IsHistoryRefusal (Some text) outcome) (sym c.if-order.false)
    c.locate_outcome.ensures

use Rattle.std.proofs.Common.{rules, ◌≡◌, Some}
use Rattle.cli_page.specs.Answers.{printed}
use Rattle.cli_page.proofs.OutcomeLemmas.{found-printed}
use Rattle.cli_page.proofs.pages.ordered_page.Goals as goal

pub page_with-requires-clause-ordered : goal.page_with-requires-clause-ordered
page_with-requires-clause-ordered c =
    let found = c.locate_order_outcome-found.result in
    let answer = c.in-Some.field-0-0 in
    let text = c.args.verdict.text.now in
    let is : Some (answer, c.in-Some.line.now) ≡ printed found.outcome = search rules in
    c.shown_order-ordered.ensures c.args.verdict.budget text answer
    (found-printed c.args.verdict.budget found.is_found text answer c.in-Some.line.now found.outcome is c.locate_order_outcome-found.ensures)

use Rattle.cli_explain.proofs.Common.{string_bytes, ◌∙◌, IfOk-weaker}
use Rattle.cli_explain.proofs.LineLemmas.{few_of}
use Rattle.cli_explain.proofs.explained.segment_details.Goals as goal

pub returns : goal.returns
returns c =
    let segment = c.args.segment.now in
    let few = c.in_ok-few.few in
    IfOk-weaker c.few_lines.result _ _
    (λ text lines. few_of c.args.budget c.args.history.now segment.start c.in_ok-start.start c.start-3.result.now segment.calls
    c.calls.result.now few (string_bytes text) (c.in_ok-start.ensures ∙ c.start.ensures.start) c.calls.ensures.calls
    c.start-3.ensures.start c.in_ok-few.ensures lines)
    c.few_lines.ensures

-- The report, and after it what shows the verdict.
use Rattle.cli_explain.proofs.Common.{ℕ, List, ◌++◌, string_bytes, ap, ◌∙◌, line, compact_text}
use Rattle.judge.specs.Reports.{verdict_data}
use Rattle.cli_explain.proofs.explained.verdict_lines.Goals as goal

pub returns : goal.returns
returns c = (
  string_bytes c.in_ok-details.details,
  c.in_ok-details.ensures,
  c.in_ok-push_str.ensures.bytes
      ∙ (ap (λ (l : List ℕ). l ++ c.as_str.result.now) (c.in_ok-lines.ensures ∙ ap line c.in_ok-report.ensures)
      ∙ ap (λ (l : List ℕ). line (compact_text (verdict_data c.args.verdict.now)) ++ l) c.as_str.ensures.value),
)

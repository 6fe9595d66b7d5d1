use Rattle.cli_explain.proofs.Common.{List, ℕ, ◌++◌, string_bytes, ap, ap₂, ◌∙◌, line, compact_text, front_data}
use Rattle.cli_explain.proofs.reports.two_lines.Goals as goal

pub returns : goal.returns
returns c = λ is_text refuted. record {
  text = string_bytes c.args.text;
  front = c.in_ok-front.front.items;
  is_text = is_text;
  is_front = c.in_ok-front.ensures refuted;
  bytes_are = c.in_ok-push_str.ensures.bytes
      ∙ ap₂ (λ (first : List ℕ) (second : List ℕ). first ++ second) c.in_ok-lines.ensures
      (c.as_str.ensures.value ∙ (c.in_ok-last.ensures
      ∙ ap (λ (front : List ℕ). line (compact_text (front_data c.args.start.now c.args.calls.now front))) c.deref.ensures.value));
}

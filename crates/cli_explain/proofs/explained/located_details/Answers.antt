-- The report, and after it what shows it.
use Rattle.cli_explain.proofs.Common.{ℕ, List, ◌++◌, string_bytes, ap, ◌∙◌, line, compact_text, location_data}
use Rattle.cli_explain.proofs.explained.located_details.Goals as goal

pub returns : goal.returns
returns c = record {
  location = c.in_ok-location.location;
  evidence = c.in_ok-evidence.evidence;
  few = string_bytes c.in_ok-few.few;
  located = c.in_ok-location.ensures;
  shows = c.in_ok-evidence.ensures.shows;
  lines = c.in_ok-few.ensures;
  bytes_are = c.in_ok-push_str.ensures.bytes
      ∙ (ap (λ (l : List ℕ). l ++ c.as_str.result.now) (c.in_ok-lines.ensures ∙ ap line c.in_ok-location_line.ensures)
      ∙ ap (λ (l : List ℕ). line (compact_text (location_data c.in_ok-location.location)) ++ l) c.as_str.ensures.value);
}

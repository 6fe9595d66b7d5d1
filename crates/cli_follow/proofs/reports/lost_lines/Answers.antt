use Rattle.cli_follow.proofs.Common.{ℕ, List, ◌++◌, ap, ◌∙◌, string_bytes, compact_text, KeyViolation, lost_data}
use Rattle.cli_outcome.specs.Lines.{line}
use Rattle.cli_follow.proofs.reports.lost_lines.Goals as goal

pub returns : goal.returns
returns c = λ dead.
    let lines = string_bytes c.in_ok-lines.lines in
    let small = string_bytes c.in_ok-small.small in
    let loss = c.args.loss.now in
    record {
      losses = c.in_ok-losses.losses.items;
      are_losses = c.in_ok-losses.ensures;
      small = small;
      small_is = c.in_ok-small.ensures dead;
      bytes_are = c.in_ok-push_str.ensures.bytes
          ∙ (ap (λ (l : List ℕ). lines ++ l) c.as_str.ensures.value
          ∙ ap (λ (l : List ℕ). l ++ small) (c.in_ok-lines.ensures
          ∙ ap (λ (losses : List KeyViolation). line (compact_text (lost_data loss.event loss.number losses))) c.deref.ensures.value));
    }

-- The lines of the values, and then those of the calls.
use Rattle.cli_explain.proofs.Common.{◌≡◌, ℕ, List, ◌++◌, string_bytes, ap, ◌∙◌, subst, rules, Contents, AreFewLines}
use Rattle.cli_explain.proofs.explained.part_lines.Goals as goal

pub returns : goal.returns
returns c =
    let part = c.args.part.now in
    let few = c.args.few.now in
    let started : c.deref-2.result.now ≡ part.start = search rules in
    record {
      from = string_bytes c.in_ok-lines.lines;
      begins = rw c.deref.ensures.value at c.in_ok-lines.ensures;
      rest = string_bytes c.in_ok-rest.rest;
      lines = subst (λ (m : Contents). AreFewLines c.args.budget c.args.history.now m few (string_bytes c.in_ok-rest.rest)) started
          c.in_ok-rest.ensures;
      bytes_are = c.in_ok-push_str.ensures.bytes
          ∙ ap (λ (l : List ℕ). string_bytes c.in_ok-lines.lines ++ l) c.as_str.ensures.value;
    }

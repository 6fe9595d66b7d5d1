-- The lines so far and those of the calls left are all lines.
use Rattle.cli_explain.proofs.Common.{◌≡◌, ◌++◌, drop, string_bytes, rows}
use Rattle.cli_explain.proofs.reports.row_lines.Given as goal

abbrev pub invariant-loop-number : goal.invariant-loop-number
invariant-loop-number l =
    string_bytes l.text ++ rows l.history (drop l.number l.calls) (drop l.number l.reasons) ≡ rows l.history l.calls l.reasons

-- The lines so far and those of the pairs left are all lines.
use Rattle.cli_explain.proofs.Common.{◌≡◌, ◌++◌, drop, string_bytes, origin_lines}
use Rattle.cli_explain.proofs.writers.origin_lines.Given as goal

abbrev pub invariant-loop-pair : goal.invariant-loop-pair
invariant-loop-pair l =
    string_bytes l.text ++ origin_lines l.start l.events l.calls (drop l.pair-index l.pairs)
    ≡ origin_lines l.start l.events l.calls l.pairs

-- The lines so far and those of the values left are all lines.
use Rattle.cli_explain.proofs.Common.{◌≡◌, ◌++◌, drop, string_bytes, key_lines}
use Rattle.cli_explain.proofs.own_parts.key_lines.Given as goal

abbrev pub invariant-loop-origin : goal.invariant-loop-origin
invariant-loop-origin l =
    string_bytes l.text ++ key_lines l.events l.key (drop l.origin-index l.from) ≡ key_lines l.events l.key l.from

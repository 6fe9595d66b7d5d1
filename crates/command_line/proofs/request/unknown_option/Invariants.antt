use Rattle.command_line.proofs.Common.{map, drop, ◌≡◌, first_value, found_of, are_named, flag_of}
use Rattle.command_line.proofs.request.unknown_option.Given as goal

abbrev pub invariant-loop-option : goal.invariant-loop-option
invariant-loop-option l =
    are_named (map flag_of (drop l.option-index l.options)) (first_value (found_of l.matches)) ≡ are_named (map flag_of l.options)
    (first_value (found_of l.matches))

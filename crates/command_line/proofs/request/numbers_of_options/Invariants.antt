use Rattle.command_line.proofs.Common.{map, take, first_value, found_of, AreNumbersOf, flag_of}
use Rattle.command_line.proofs.request.numbers_of_options.Given as goal

abbrev pub invariant-loop-option : goal.invariant-loop-option
invariant-loop-option l = AreNumbersOf (map flag_of (take l.option-index l.options)) (first_value (found_of l.matches)) l.numbers.items

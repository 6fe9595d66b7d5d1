use Rattle.command_line.proofs.Common.{map, take, subst, sym, ℕ, List, ◌+◌, first_value, found_of, AreNumbersOf, flag_of}
use Rattle.command_line.proofs.StepLemmas.{number_at, one_number}
use Rattle.command_line.proofs.request.numbers_of_options.Goals as goal

pub number_of_option-requires : goal.number_of_option-requires
number_of_option-requires c =
    number_at c.args.options.now (first_value (found_of c.args.matches.now)) c.requires.0 c.loop-option.option-index _
    c.loop-option-test.true c.requires.1

pub loop-option-preserved : goal.loop-option-preserved
loop-option-preserved c =
    let xs = c.args.options.now in
    let value = first_value (found_of c.args.matches.now) in
    subst (λ (ns : List ℕ). AreNumbersOf (map flag_of (take (c.loop-option.option-index + 1) xs)) value ns) (sym c.in_ok-push.ensures.items)
    (one_number xs value c.loop-option.numbers.items c.loop-option.option-index _ c.number_of_option.result c.loop-option-test.true
    c.loop-option.invariant c.number_of_option.ensures)

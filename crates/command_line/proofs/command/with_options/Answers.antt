use Rattle.command_line.proofs.Common.{ap₂, Bool, ◌||◌, ◌∙◌, with_rule}
use Rattle.command_line.proofs.StepLemmas.{one_rule}
use Rattle.command_line.proofs.command.with_options.Goals as goal

pub loop-option-preserved : goal.loop-option-preserved
loop-option-preserved c = record {
  shape = c.in_ok-command.ensures.shape c.option_argument.ensures.local
      ∙ ap₂ with_rule c.loop-option.invariant.shape c.option_argument.ensures.rule
      ∙ one_rule c.args.subcommand.now.name.now c.args.subcommand.now.options.now c.loop-option.option-index _ c.loop-option-test.true;
  local = c.in_ok-command.ensures.globals ∙ ap₂ (λ (a b : Bool). a || b) c.loop-option.invariant.local c.option_argument.ensures.local;
}

use Rattle.command_line.proofs.Common.{ap, ap₂, ◌∙◌, App, with_subcommand}
use Rattle.command_line.proofs.StepLemmas.{one_usage}
use Rattle.command_line.proofs.command.command_of.Goals as goal

pub loop-subcommand-preserved : goal.loop-subcommand-preserved
loop-subcommand-preserved c =
    c.in_ok-command.ensures.shape c.in_ok-subcommand_of.ensures.local
    ∙ ap₂ with_subcommand c.loop-subcommand.invariant (ap (λ (a : App). a.top) c.in_ok-subcommand_of.ensures.shape)
    ∙ one_usage c.args.name.now c.args.table.now c.loop-subcommand.subcommand-index _ c.loop-subcommand-test.true

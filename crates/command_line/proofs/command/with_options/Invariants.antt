use Rattle.command_line.proofs.Common.{map, take, false, ◌≡◌, app_of, leaf, option_rule, flag_of}
use Rattle.clap.specs.declared.builder.command.Command.TheViews.{out-Command}
use Rattle.command_line.proofs.command.with_options.Given as goal

abbrev pub invariant-loop-option : goal.invariant-loop-option
invariant-loop-option l = record {
  shape : app_of l.command ≡ leaf l.subcommand.name.now (map option_rule (map flag_of (take l.option-index l.option-items)));
  local : (out-Command l.command).has_globals ≡ false;
}

use Rattle.command_line.proofs.Common.{map, take, ◌≡◌, app_of, table_app, usage_of}
use Rattle.command_line.proofs.command.command_of.Given as goal

abbrev pub invariant-loop-subcommand : goal.invariant-loop-subcommand
invariant-loop-subcommand l = app_of l.command ≡ table_app l.name (map usage_of (take l.subcommand-index l.table))

use Rattle.command_line.proofs.Common.{map, drop, ◌≡◌, usage_named, usage_of}
use Rattle.command_line.proofs.request.subcommand_named.Given as goal

abbrev pub invariant-loop-subcommand : goal.invariant-loop-subcommand
invariant-loop-subcommand l = usage_named l.name (map usage_of (drop l.subcommand-index l.table)) ≡ usage_named l.name
    (map usage_of l.table)

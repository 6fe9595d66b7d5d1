-- When the words of a command line are refused.
use Rattle.std.specs.Prelude.{◌≡◌, true, List, [], ⊤}
use Rattle.clap.specs.Words.{Text, fault_of, subcommand_of}
use Rattle.command_line.specs.Program.{bench_app, bench_table}
use Rattle.command_line.specs.Requests.{has_named}
use Rattle.command_line.specs.declared.fault.LineFault.{LineFault}
use Rattle.command_line.specs.declared.fault.LineFault.TheVariants.{Line, Memory}

-- each value is one of its option's words, if the option takes words
abbrev pub HasNamed : List Text → Type 0
HasNamed words = has_named bench_table (subcommand_of bench_app words) ≡ true

-- no step of reading these words fails, and each value is one of its option's words
abbrev pub IsAccepted : List Text → Type 0
IsAccepted words = (fault_of bench_app words ≡ []) × HasNamed words

-- these words may have the fault: that of a line only if they are not accepted
abbrev pub IsFaultAt : List Text → LineFault → Type 0
IsFaultAt words (Line text) = ¬ (IsAccepted words)
IsFaultAt words Memory = ⊤

-- The exit statuses.
use Rattle.std.specs.Prelude.{◌≡◌, ℕ}
use Rattle.cli_outcome.specs.declared.outcome.Answer.{Answer}
use Rattle.cli_outcome.specs.declared.outcome.Answer.TheVariants.{Yes, No, Undecided}

-- an answer
abbrev pub answer_status : Answer → ℕ
answer_status Yes = 0
answer_status No = 1
answer_status Undecided = 2

-- if the status is that of an answer, this holds
abbrev pub OnAnswerStatus : ℕ → Type 0 → Type 0
OnAnswerStatus status P = (answer : Answer) → status ≡ answer_status answer → P

-- the input was refused
abbrev pub refused_status : ℕ
refused_status = 3

-- out of memory
abbrev pub memory_status : ℕ
memory_status = 4

-- the command line asks for help, or for something that cannot be done
abbrev pub words_status : ℕ
words_status = 5

-- standard input or output failed
abbrev pub failed_status : ℕ
failed_status = 6

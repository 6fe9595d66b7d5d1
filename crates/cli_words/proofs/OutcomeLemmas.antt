-- The outcome of a line that the words ask for is an outcome of the words.
use Rattle.std.proofs.Common.{ℕ, List, inl, inr}
use Rattle.clap.specs.Words.{Text}
use Rattle.command_line.specs.declared.line.Line.{Line}
use Rattle.cli_outcome.specs.declared.outcome.Answer.{Answer}
use Rattle.cli_outcome.specs.declared.outcome.CommandOutcome.{CommandOutcome}
use Rattle.cli_outcome.specs.declared.outcome.CommandOutcome.TheVariants.{Answered, Noted, Refused, Memory, Words, Failed}
use Rattle.cli_outcome.specs.Ends.{Change, IsSound}
use Rattle.cli_outcome.specs.Outcomes.{IsReadOutcome}
use Rattle.cli_outcome.specs.HintedOutcomes.{IsHintedRead}
use Rattle.cli_words.specs.Outcomes.{IsAskedOutcome, IsFaultOutcome, IsWordsOutcome}

-- the outcome of a subcommand that reads a text
pub read-words : (L : Line → Change → CommandOutcome → Type 0) (A : List ℕ → Answer → List ℕ → Type 0) (R : List ℕ → List ℕ → List ℕ → Type 0)
    (words : List Text) (source : Change) (outcome : CommandOutcome)
    → (IsReadOutcome A R source outcome → IsAskedOutcome L words source outcome) → IsReadOutcome A R source outcome
    → IsWordsOutcome L words source outcome
read-words L A R words source (Answered answer bytes) ask comes = ask comes
read-words L A R words source (Noted answer bytes note) ask comes = ask comes
read-words L A R words source (Refused bytes hint) ask comes = ask comes
read-words L A R words source Memory ask (inl unread) = unread
read-words L A R words source Memory ask (inr read) = read.0
read-words L A R words source (Words text) ask (inl unread) = absurd unread
read-words L A R words source (Words text) ask (inr read) = absurd read.1
read-words L A R words source Failed ask comes = ask comes

-- the outcome of a subcommand whose answers may have hints
pub hinted-words : (L : Line → Change → CommandOutcome → Type 0) (A : List ℕ → Answer → List ℕ → List ℕ → Type 0)
    (R : List ℕ → List ℕ → List ℕ → Type 0) (words : List Text) (source : Change) (outcome : CommandOutcome)
    → (IsHintedRead A R source outcome → IsAskedOutcome L words source outcome) → IsHintedRead A R source outcome
    → IsWordsOutcome L words source outcome
hinted-words L A R words source (Answered answer bytes) ask comes = ask comes
hinted-words L A R words source (Noted answer bytes note) ask comes = ask comes
hinted-words L A R words source (Refused bytes hint) ask comes = ask comes
hinted-words L A R words source Memory ask (inl unread) = unread
hinted-words L A R words source Memory ask (inr read) = read.0
hinted-words L A R words source (Words text) ask (inl unread) = absurd unread
hinted-words L A R words source (Words text) ask (inr read) = absurd read.1
hinted-words L A R words source Failed ask comes = ask comes

-- the outcome of words that ask for no line
pub fault-words : (L : Line → Change → CommandOutcome → Type 0) (words : List Text) (source : Change) (outcome : CommandOutcome)
    → IsFaultOutcome words outcome → IsSound source → IsWordsOutcome L words source outcome
fault-words L words source (Answered answer bytes) fault sound = absurd fault
fault-words L words source (Noted answer bytes note) fault sound = absurd fault
fault-words L words source (Refused bytes hint) fault sound = absurd fault
fault-words L words source Memory fault sound = sound
fault-words L words source (Words text) fault sound = (fault, sound)
fault-words L words source Failed fault sound = absurd fault

-- A text that was read up to one byte more than a limit, and what comes of it where answers may have hints.
use Rattle.std.proofs.Common.{◌≡◌, ℕ, ◌+◌, List, [], Option, Some, None, IfSome, take, subst, inl, inr, ⊎_elim, string_bytes}
use Rattle.cli_outcome.specs.declared.outcome.Answer.{Answer}
use Rattle.cli_outcome.specs.declared.outcome.CommandOutcome.{CommandOutcome}
use Rattle.cli_outcome.specs.declared.outcome.CommandOutcome.TheVariants.{Answered, Noted, Refused, Memory, Words, Failed}
use Rattle.cli_outcome.specs.Ends.{Change, IsSound}
use Rattle.cli_outcome.specs.Runs.{IsRun, IsTextRun}
use Rattle.cli_outcome.specs.HintedOutcomes.{IsHintedOutcome, IsHintedRead}

module _ (IsAnswer : List ℕ → Answer → List ℕ → List ℕ → Type 0) (IsRefusal : List ℕ → List ℕ → List ℕ → Type 0) (limit : ℕ)
    (answers : (text : List ℕ) (answer : Answer) (bytes hint : List ℕ) → IsAnswer (take (limit + 1) text) answer bytes hint
    → IsAnswer text answer bytes hint)
    (refuses : (text bytes hint : List ℕ) → IsRefusal (take (limit + 1) text) bytes hint → IsRefusal text bytes hint) where
  -- an outcome of what was read is one of what was to come, where each answer and each refusal is
  told_of : (told : Option (List ℕ)) (read : List ℕ) (outcome : CommandOutcome) → IfSome told (λ text. read ≡ take (limit + 1) text)
      → IsHintedOutcome IsAnswer IsRefusal (Some read) outcome → IsHintedOutcome IsAnswer IsRefusal told outcome
  told_of None read (Answered answer bytes) is h = tt
  told_of None read (Noted answer bytes note) is h = tt
  told_of None read (Refused bytes hint) is h = tt
  told_of (Some text) read (Answered answer bytes) is h =
      answers text answer (string_bytes bytes) [] (subst (λ (t : List ℕ). IsAnswer t answer (string_bytes bytes) []) is h)
  told_of (Some text) read (Noted answer bytes note) is h =
      answers text answer (string_bytes bytes) (string_bytes note)
      (subst (λ (t : List ℕ). IsAnswer t answer (string_bytes bytes) (string_bytes note)) is h)
  told_of (Some text) read (Refused bytes hint) is h =
      refuses text (string_bytes bytes) (string_bytes hint)
      (subst (λ (t : List ℕ). IsRefusal t (string_bytes bytes) (string_bytes hint)) is h)
  told_of told read Memory is h = tt
  told_of told read (Words bytes) is h = h
  told_of told read Failed is h = h

  -- an outcome of what was read is one of the run that read it
  pub IsHintedRead-read : (source : Change) (read : List ℕ) (outcome : CommandOutcome)
      → IfSome source.old.bytes (λ text. read ≡ take (limit + 1) text) → IsSound source
      → IsHintedOutcome IsAnswer IsRefusal (Some read) outcome → IsHintedRead IsAnswer IsRefusal source outcome
  IsHintedRead-read source read outcome is sound h = inr (sound, told_of source.old.bytes read outcome is h)

  -- an outcome that is made of what a run read is one of the run
  pub IsRun-hinted : {Makes : List ℕ → CommandOutcome → Type 0} {source output faults hints : Change} {status : ℕ}
      → IsTextRun Makes limit source output faults hints status
      → ((text : List ℕ) (outcome : CommandOutcome) → Makes text outcome → IsHintedOutcome IsAnswer IsRefusal (Some text) outcome)
      → IsRun (IsHintedRead IsAnswer IsRefusal source) output faults hints status
  IsRun-hinted {Makes} {source} run makes = record {
    outcome = run.outcome;
    comes = ⊎_elim
        (λ unread. inl unread)
        (λ made. let (text, read, is) = made in
        IsHintedRead-read source text run.outcome read.first read.sound (makes text run.outcome is))
        run.comes;
    leaves = run.leaves;
  }

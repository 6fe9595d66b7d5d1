-- A text that was read up to one byte more than a limit, and what comes of it.
use Rattle.std.proofs.Common.{◌≡◌, ℕ, ◌+◌, List, Option, Some, None, IfSome, take, subst, inl, inr, ⊎_elim, string_bytes}
use Rattle.cli_outcome.specs.declared.outcome.Answer.{Answer}
use Rattle.cli_outcome.specs.declared.outcome.CommandOutcome.{CommandOutcome}
use Rattle.cli_outcome.specs.declared.outcome.CommandOutcome.TheVariants.{Answered, Noted, Refused, Memory, Words, Failed}
use Rattle.cli_outcome.specs.Ends.{Change, IsSound}
use Rattle.cli_outcome.specs.Outcomes.{IsTextOutcome, IsReadOutcome}
use Rattle.cli_outcome.specs.Runs.{IsRun, IsTextRun}

-- an outcome of what was read is one of what was to come, where each answer and each refusal is
IsTextOutcome-told : (IsAnswer : List ℕ → Answer → List ℕ → Type 0) (IsRefusal : List ℕ → List ℕ → List ℕ → Type 0) (limit : ℕ)
    → ((text : List ℕ) (answer : Answer) (bytes : List ℕ) → IsAnswer (take (limit + 1) text) answer bytes → IsAnswer text answer bytes)
    → ((text bytes hint : List ℕ) → IsRefusal (take (limit + 1) text) bytes hint → IsRefusal text bytes hint)
    → (told : Option (List ℕ)) (read : List ℕ) (outcome : CommandOutcome) → IfSome told (λ text. read ≡ take (limit + 1) text)
    → IsTextOutcome IsAnswer IsRefusal (Some read) outcome → IsTextOutcome IsAnswer IsRefusal told outcome
IsTextOutcome-told IsAnswer IsRefusal limit answers refuses None read (Answered answer bytes) is h = tt
IsTextOutcome-told IsAnswer IsRefusal limit answers refuses None read (Refused bytes hint) is h = tt
IsTextOutcome-told IsAnswer IsRefusal limit answers refuses (Some text) read (Answered answer bytes) is h =
    answers text answer (string_bytes bytes) (subst (λ (t : List ℕ). IsAnswer t answer (string_bytes bytes)) is h)
IsTextOutcome-told IsAnswer IsRefusal limit answers refuses (Some text) read (Refused bytes hint) is h =
    refuses text (string_bytes bytes) (string_bytes hint)
    (subst (λ (t : List ℕ). IsRefusal t (string_bytes bytes) (string_bytes hint)) is h)
IsTextOutcome-told IsAnswer IsRefusal limit answers refuses told read (Noted answer bytes note) is h = h
IsTextOutcome-told IsAnswer IsRefusal limit answers refuses told read Memory is h = tt
IsTextOutcome-told IsAnswer IsRefusal limit answers refuses told read (Words bytes) is h = h
IsTextOutcome-told IsAnswer IsRefusal limit answers refuses told read Failed is h = h

-- an outcome of what was read is one of the run that read it
pub IsReadOutcome-read : (IsAnswer : List ℕ → Answer → List ℕ → Type 0) (IsRefusal : List ℕ → List ℕ → List ℕ → Type 0) (limit : ℕ)
    → ((text : List ℕ) (answer : Answer) (bytes : List ℕ) → IsAnswer (take (limit + 1) text) answer bytes → IsAnswer text answer bytes)
    → ((text bytes hint : List ℕ) → IsRefusal (take (limit + 1) text) bytes hint → IsRefusal text bytes hint)
    → (source : Change) (read : List ℕ) (outcome : CommandOutcome)
    → IfSome source.old.bytes (λ text. read ≡ take (limit + 1) text) → IsSound source
    → IsTextOutcome IsAnswer IsRefusal (Some read) outcome → IsReadOutcome IsAnswer IsRefusal source outcome
IsReadOutcome-read IsAnswer IsRefusal limit answers refuses source read outcome is sound h =
    inr (sound, IsTextOutcome-told IsAnswer IsRefusal limit answers refuses source.old.bytes read outcome is h)

-- an outcome that is made of what a run read is one of the run
pub IsRun-read : (IsAnswer : List ℕ → Answer → List ℕ → Type 0) (IsRefusal : List ℕ → List ℕ → List ℕ → Type 0) (limit : ℕ)
    → ((text : List ℕ) (answer : Answer) (bytes : List ℕ) → IsAnswer (take (limit + 1) text) answer bytes → IsAnswer text answer bytes)
    → ((text bytes hint : List ℕ) → IsRefusal (take (limit + 1) text) bytes hint → IsRefusal text bytes hint)
    → {Makes : List ℕ → CommandOutcome → Type 0} {source output faults hints : Change} {status : ℕ}
    → IsTextRun Makes limit source output faults hints status
    → ((text : List ℕ) (outcome : CommandOutcome) → Makes text outcome → IsTextOutcome IsAnswer IsRefusal (Some text) outcome)
    → IsRun (IsReadOutcome IsAnswer IsRefusal source) output faults hints status
IsRun-read IsAnswer IsRefusal limit answers refuses {Makes} {source} run makes = record {
  outcome = run.outcome;
  comes = ⊎_elim
      (λ unread. inl unread)
      (λ made. let (text, read, is) = made in
      IsReadOutcome-read IsAnswer IsRefusal limit answers refuses source text run.outcome read.first read.sound (makes text run.outcome is))
      run.comes;
  leaves = run.leaves;
}

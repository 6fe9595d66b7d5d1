-- How much was read of a source, and that only an answer has the status of one.
use Rattle.std.proofs.Common.{◌≡◌, ℕ, ◌+◌, ◌≤◌, List, Option, Some, None, IfSome, Result, Ok, Err, take, subst, ⊎_elim, arith}
use Rattle.std.specs.Prelude.{OnOk, IsOk}
use Rattle.cli_outcome.specs.declared.outcome.Answer.{Answer}
use Rattle.cli_outcome.specs.declared.outcome.Answer.TheVariants.{Yes, No, Undecided}
use Rattle.cli_outcome.specs.declared.outcome.CommandOutcome.{CommandOutcome}
use Rattle.cli_outcome.specs.declared.outcome.CommandOutcome.TheVariants.{Answered, Noted, Refused, Memory, Words, Failed}
use Rattle.cli_outcome.specs.Ends.{Change}
use Rattle.cli_outcome.specs.Outcomes.{OnAnswered, IsUnread}
use Rattle.cli_outcome.specs.Reads.{ReadsAtMost, IsTextRead}
use Rattle.cli_outcome.specs.Runs.{IsTextRun, Leaves}
use Rattle.cli_outcome.specs.Statuses.{answer_status, OnAnswerStatus}

-- a run without a text read no more than that
pub IsTextRead-unread : (limit : ℕ) (source output faults hints : Change) (outcome : CommandOutcome) (status : ℕ) → IsUnread source outcome
    → ReadsAtMost (limit + 1) source → Leaves outcome output faults hints status → IsTextRead limit source status
IsTextRead-unread limit source output faults hints Memory status unread most leaves =
    record { whole = λ not_memory not_failed. absurd (not_memory leaves.3); most = most }
IsTextRead-unread limit source output faults hints Failed status unread most leaves =
    record { whole = λ not_memory not_failed. absurd (not_failed leaves.3); most = most }
IsTextRead-unread limit source output faults hints (Answered answer bytes) status unread most leaves = absurd unread
IsTextRead-unread limit source output faults hints (Noted answer bytes note) status unread most leaves = absurd unread
IsTextRead-unread limit source output faults hints (Refused bytes hint) status unread most leaves = absurd unread
IsTextRead-unread limit source output faults hints (Words bytes) status unread most leaves = absurd unread

-- no answer has a status past those of answers
no-answer : (status : ℕ) → 3 ≤ status → (answer : Answer) → status ≡ answer_status answer → ⊥
no-answer status past Yes is = omega (arith, past, is)
no-answer status past No is = omega (arith, past, is)
no-answer status past Undecided is = omega (arith, past, is)

-- what holds of an answer holds if the status is that of one
pub answered-status : (P : Type 0) (outcome : CommandOutcome) (output faults hints : Change) (status : ℕ) → Leaves outcome output faults hints status
    → OnAnswered outcome P → OnAnswerStatus status P
answered-status P (Answered given bytes) output faults hints status leaves h answer is = h
answered-status P (Noted given bytes note) output faults hints status leaves h answer is = h
answered-status P (Refused bytes hint) output faults hints status leaves h answer is = absurd (no-answer status (omega (arith, leaves.3)) answer is)
answered-status P Memory output faults hints status leaves h answer is = absurd (no-answer status (omega (arith, leaves.3)) answer is)
answered-status P (Words bytes) output faults hints status leaves h answer is = absurd (no-answer status (omega (arith, leaves.3)) answer is)
answered-status P Failed output faults hints status leaves h answer is = absurd (no-answer status (omega (arith, leaves.3)) answer is)

-- without a text there is no answer
pub unread-status : (P : Type 0) (source output faults hints : Change) (outcome : CommandOutcome) (status : ℕ) → IsUnread source outcome
    → Leaves outcome output faults hints status → OnAnswerStatus status P
unread-status P source output faults hints (Answered given bytes) status unread leaves = absurd unread
unread-status P source output faults hints (Noted given bytes note) status unread leaves = absurd unread
unread-status P source output faults hints (Refused bytes hint) status unread leaves = absurd unread
unread-status P source output faults hints (Words bytes) status unread leaves = absurd unread
unread-status P source output faults hints Memory status unread leaves = answered-status P Memory output faults hints status leaves tt
unread-status P source output faults hints Failed status unread leaves = answered-status P Failed output faults hints status leaves tt

-- what holds of an answer is weakened
pub OnAnswered-map : (P Q : Type 0) (outcome : CommandOutcome) → (P → Q) → OnAnswered outcome P → OnAnswered outcome Q
OnAnswered-map P Q (Answered given bytes) f h = f h
OnAnswered-map P Q (Noted given bytes note) f h = f h
OnAnswered-map P Q (Refused bytes hint) f h = tt
OnAnswered-map P Q Memory f h = tt
OnAnswered-map P Q (Words bytes) f h = tt
OnAnswered-map P Q Failed f h = tt

-- what a call ensures of its Ok holds where it answered Ok
pub ok-holds : {T E : Type 0} (P : Type 0) (r : Result T E) → OnOk r P → IsOk r → P
ok-holds P (Ok v) h is = h
ok-holds P (Err e) h is = cc

-- what holds of an answer to the text that was read holds, by the status, of the whole if it is
-- known
pub told-status : (Q : List ℕ → Type 0) (limit : ℕ) (told : Option (List ℕ)) (read : List ℕ) (outcome : CommandOutcome) (output faults hints : Change)
    (status : ℕ) → ((text : List ℕ) → Q (take (limit + 1) text) → Q text) → IfSome told (λ text. read ≡ take (limit + 1) text)
    → Leaves outcome output faults hints status → OnAnswered outcome (Q read) → OnAnswerStatus status (IfSome told Q)
told-status Q limit None read outcome output faults hints status whole is leaves h = λ answer same. tt
told-status Q limit (Some text) read outcome output faults hints status whole is leaves h =
    answered-status (Q text) outcome output faults hints status leaves
    (OnAnswered-map (Q read) (Q text) outcome (λ q. whole text (subst Q is q)) h)

-- what holds of each answer that is made of a text holds, by the status, of the whole if it is
-- known
pub made-status : (Q : List ℕ → Type 0) (limit : ℕ) → ((text : List ℕ) → Q (take (limit + 1) text) → Q text)
    → {Makes : List ℕ → CommandOutcome → Type 0} {source output faults hints : Change} {status : ℕ}
    → IsTextRun Makes limit source output faults hints status
    → ((text : List ℕ) (outcome : CommandOutcome) → Makes text outcome → OnAnswered outcome (Q text))
    → OnAnswerStatus status (IfSome source.old.bytes Q)
made-status Q limit whole {Makes} {source} {output} {faults} {hints} {status} run makes = ⊎_elim
    (λ unread. unread-status (IfSome source.old.bytes Q) source output faults hints run.outcome status unread run.leaves)
    (λ made. let (text, read, is) = made in
    told-status Q limit source.old.bytes text run.outcome output faults hints status whole read.first run.leaves (makes text run.outcome is))
    run.comes

-- From what an engine answers of a full tree to what the judge answers of its bytes.
use Rattle.cli_plans.proofs.Common.{◌≡◌, ◌≢◌, ℕ, ◌≤◌, List, [], ◌++◌, length, drop, Some, refl, sym, ap, subst, ◌∙◌, arith, inl, inr, string_bytes}
use Rattle.cli_plans.proofs.Common.{length-append, append-nil, HistoryView, text_limit, Spells, IsLinearizableHistory, Verdict}
use Rattle.cli_plans.proofs.Common.{SpellsBetweenWhiteSpace, WhiteSpaceTellsNothing, Answer, CommandOutcome, Answered, Noted, Refused, Memory, Words}
use Rattle.cli_plans.proofs.Common.{Failed, IsNoRefutation, LinearizableTextsAreNeverRefuted, output_of, AreNeverRefuted, AreRefutedByNoRun}
use Rattle.cli_plans.proofs.Common.{WasWritten}
use Rattle.serde_json.specs.Read.{read}
use Rattle.std.proofs.Math.Seq.{drop-append_seam}
use Rattle.std.specs.Prelude.{⊤}
use Rattle.std.specs.Io.KnownBytes.{Appends, Keeps}
use Rattle.std.proofs.lemmas.Option.{none-some}
use Rattle.serde_json.specs.Data.{Data}
use Rattle.serde_json.proofs.OnLiterals.{serde_json_on_literals}
use Rattle.cli_outcome.specs.declared.outcome.Answer.TheVariants.{Yes, No, Undecided}
use Rattle.cli_outcome.specs.Ends.{Change, IsSound}
use Rattle.cli_outcome.specs.Outcomes.{IsTextOutcome, IsUnread, IsReadOutcome}
use Rattle.cli_outcome.specs.Runs.{Leaves, IsRun}
use Rattle.cli_outcome.specs.Statuses.{answer_status}
use Rattle.cli_outcome.specs.HintedOutcomes.{IsHintedOutcome, IsHintedRead}
use Rattle.cli_judge.specs.Answers.{IsHintedJudgeAnswer, IsHistoryRefusal, answer_of}
use Rattle.judge.specs.declared.verdict.Verdict.TheVariants as verdicts

-- ---- the bytes of an outcome

-- a verdict that refutes nothing is not answered as No
not_answered : (v : Verdict) → IsNoRefutation v → answer_of v ≢ No
not_answered (verdicts.Yes order) h = λ is. cc
not_answered (verdicts.No segment) h = absurd h
not_answered (verdicts.Undecided segment) h = λ is. cc

-- the bytes spell a linearizable history, where they are not too many
module _ (linearizable : LinearizableTextsAreNeverRefuted) (between : SpellsBetweenWhiteSpace) (bytes : List ℕ) (history : HistoryView)
    (spelled : length bytes ≤ text_limit → Spells bytes history) (order : IsLinearizableHistory history) where
  pub history_never : AreNeverRefuted bytes
  history_never before behind h k budget answer report is =
      let fits = is.judged.spelled.json.fits in
      let few : length bytes ≤ text_limit = omega (arith, fits, length-append before (bytes ++ behind), length-append bytes behind) in
      subst (λ a. a ≢ No) (sym is.answer_is) (not_answered is.verdict (linearizable budget (before ++ (bytes ++ behind)) is.report history is.verdict
      (between before bytes behind history h k fits (spelled few)) order is.judged))

-- nothing is no JSON
no_value : (d : Data) → read [] ≡ Some d → ⊥
unfolding serde_json_on_literals
no_value d h = none-some d h

pub nothing_never : WhiteSpaceTellsNothing → AreNeverRefuted []
nothing_never nothing before behind h k budget answer report is =
    absurd (no_value is.judged.spelled.value (sym (nothing before [] behind h k) ∙ is.judged.spelled.json.value))

-- ---- the bytes of a run

-- an outcome is not the answer No
abbrev IsNotNo : CommandOutcome → Type 0
IsNotNo (Answered answer bytes) = answer ≢ No
IsNotNo (Noted answer bytes note) = answer ≢ No
IsNotNo (Refused bytes hint) = ⊤
IsNotNo Memory = ⊤
IsNotNo (Words bytes) = ⊤
IsNotNo Failed = ⊤

-- a run of `judge` ends with No only where its outcome is No
no_status : (outcome : CommandOutcome) (output faults hints : Change) (status : ℕ) → IsNotNo outcome → Leaves outcome output faults hints status
    → status ≢ answer_status No
no_status (Answered Yes bytes) output faults hints status never (inl leaves) = λ is. omega (arith, is, leaves.3)
no_status (Answered No bytes) output faults hints status never (inl leaves) = absurd (never refl)
no_status (Answered Undecided bytes) output faults hints status never (inl leaves) = λ is. omega (arith, is, leaves.3)
no_status (Answered answer bytes) output faults hints status never (inr leaves) = λ is. omega (arith, is, leaves.3)
no_status (Noted Yes bytes note) output faults hints status never (inl leaves) = λ is. omega (arith, is, leaves.3)
no_status (Noted No bytes note) output faults hints status never (inl leaves) = absurd (never refl)
no_status (Noted Undecided bytes note) output faults hints status never (inl leaves) = λ is. omega (arith, is, leaves.3)
no_status (Noted answer bytes note) output faults hints status never (inr leaves) = λ is. omega (arith, is, leaves.3)
no_status (Refused bytes hint) output faults hints status never leaves = λ is. omega (arith, is, leaves.3)
no_status Memory output faults hints status never leaves = λ is. omega (arith, is, leaves.3)
no_status (Words bytes) output faults hints status never leaves = λ is. omega (arith, is, leaves.3)
no_status Failed output faults hints status never leaves = λ is. omega (arith, is, leaves.3)

-- where no text was read the outcome is not No
unread : (source : Change) (outcome : CommandOutcome) → IsUnread source outcome → IsNotNo outcome
unread source (Answered answer bytes) h = absurd h
unread source (Noted answer bytes note) h = absurd h
unread source (Refused bytes hint) h = tt
unread source Memory h = tt
unread source (Words bytes) h = tt
unread source Failed h = tt

pub run_never : (bytes : List ℕ) → AreNeverRefuted bytes → AreRefutedByNoRun bytes
run_never bytes never before behind h k budget source output faults hints status reads run =
    no_status run.outcome output faults hints status (by_read run.comes) run.leaves
  where
    by_outcome : (outcome : CommandOutcome)
        → IsHintedOutcome (IsHintedJudgeAnswer budget) IsHistoryRefusal (Some (before ++ (bytes ++ behind))) outcome → IsNotNo outcome
    by_outcome (Answered answer report) c = never before behind h k budget answer (string_bytes report) c.answered
    by_outcome (Noted answer report note) c = never before behind h k budget answer (string_bytes report) c.answered
    by_outcome (Refused report hint) c = tt
    by_outcome Memory c = tt
    by_outcome (Words report) c = tt
    by_outcome Failed c = tt

    by_read : IsHintedRead (IsHintedJudgeAnswer budget) IsHistoryRefusal source run.outcome → IsNotNo run.outcome
    by_read (inl u) = unread source run.outcome u
    by_read (inr t) = by_outcome run.outcome
        (subst (λ told. IsHintedOutcome (IsHintedJudgeAnswer budget) IsHistoryRefusal told run.outcome) reads t.1)

-- ---- what a run has written

-- what was appended is one thing only
one_end : (first xs ys : List ℕ) → first ++ xs ≡ first ++ ys → xs ≡ ys
one_end first xs ys h = sym (drop-append_seam first xs) ∙ ap (drop (length first)) h ∙ drop-append_seam first ys

module _ (output : Change) (bytes : List ℕ) (was : WasWritten output bytes) where
  said : (more : List ℕ) → Appends output.old.bytes output.new.bytes more → bytes ≡ more
  said more h = one_end was.first bytes more
      (subst (λ new. Appends (Some was.first) new more) was.new (subst (λ old. Appends old output.new.bytes more) was.old h))

  silent : Keeps output.old.bytes output.new.bytes → bytes ≡ []
  silent h = one_end was.first bytes []
      (subst (λ new. Keeps (Some was.first) new) was.new (subst (λ old. Keeps old output.new.bytes) was.old h) ∙ sym (append-nil was.first))

  -- what an outcome has for the output, where that did not fail
  pub written : (outcome : CommandOutcome) (faults hints : Change) (status : ℕ) → Leaves outcome output faults hints status → IsSound output
      → bytes ≡ output_of outcome
  written (Answered answer more) faults hints status (inl leaves) sound = said (string_bytes more) leaves.0.0
  written (Answered answer more) faults hints status (inr leaves) sound = absurd (omega (arith, sound, leaves.0.1))
  written (Noted answer more note) faults hints status (inl leaves) sound = said (string_bytes more) leaves.0.0
  written (Noted answer more note) faults hints status (inr leaves) sound = absurd (omega (arith, sound, leaves.0.1))
  written (Refused more hint) faults hints status leaves sound = silent leaves.0.0
  written Memory faults hints status leaves sound = silent leaves.0.0
  written (Words more) faults hints status leaves sound = silent leaves.0.0
  written Failed faults hints status leaves sound = silent leaves.0.0

-- ---- an engine that reads a text

module _ (IsAnswer : List ℕ → Answer → List ℕ → Type 0) (IsRefusal : List ℕ → List ℕ → List ℕ → Type 0) (text : List ℕ)
    (nothing : WhiteSpaceTellsNothing) (answered : (answer : Answer) (bytes : List ℕ) → IsAnswer text answer bytes → AreNeverRefuted bytes) where
  pub outcome_never : (recorded : CommandOutcome) → IsTextOutcome IsAnswer IsRefusal (Some text) recorded → AreNeverRefuted (output_of recorded)
  outcome_never (Answered answer bytes) h = answered answer (string_bytes bytes) h
  outcome_never (Noted answer bytes note) h = absurd h
  outcome_never (Refused bytes hint) h = nothing_never nothing
  outcome_never Memory h = nothing_never nothing
  outcome_never (Words bytes) h = absurd h
  outcome_never Failed h = absurd h

  unread_never : (source : Change) (recorded : CommandOutcome) → IsUnread source recorded → AreNeverRefuted (output_of recorded)
  unread_never source (Answered answer bytes) h = absurd h
  unread_never source (Noted answer bytes note) h = absurd h
  unread_never source (Refused bytes hint) h = absurd h
  unread_never source Memory h = nothing_never nothing
  unread_never source (Words bytes) h = absurd h
  unread_never source Failed h = nothing_never nothing

  pub engine_never : (bytes : List ℕ) (source output faults hints : Change) (status : ℕ) → source.old.bytes ≡ Some text
      → WasWritten output bytes → IsSound output → IsRun (IsReadOutcome IsAnswer IsRefusal source) output faults hints status
      → AreRefutedByNoRun bytes
  engine_never bytes source output faults hints status told was sound run =
      run_never bytes (subst AreNeverRefuted (sym (written output bytes was run.outcome faults hints status run.leaves sound)) (by_read run.comes))
    where
      by_read : IsReadOutcome IsAnswer IsRefusal source run.outcome → AreNeverRefuted (output_of run.outcome)
      by_read (inl u) = unread_never source run.outcome u
      by_read (inr t) = outcome_never run.outcome
          (subst (λ found. IsTextOutcome IsAnswer IsRefusal found run.outcome) told t.1)

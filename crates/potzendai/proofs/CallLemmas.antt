-- What a call writes is what it may write, and what its status says of the text.
use Rattle.potzendai.proofs.Common.{◌≡◌, ℕ, List, length, inl, refl, Some, HistoryView, operations, IsLinearizableHistory, Yes, No, Undecided}
use Rattle.potzendai.proofs.Common.{CommandOutcome, Answered, Noted, Refused, Memory, Words, Failed, IsBudget, IsCall, status_of, text_of, written}
use Rattle.judge.specs.declared.verdict.Verdict.{Verdict}
use Rattle.judge.specs.Shown.{IsShown}
use Rattle.cli_outcome.specs.Outcomes.{IsTextOutcome}
use Rattle.cli_outcome.specs.HintedOutcomes.{IsHintedOutcome}
use Rattle.cli_judge.specs.Answers.{answer_of, IsHistoryRefusal, IsHintedJudgeAnswer, IsJudgeAnswer}
use Rattle.cli_explain.specs.Answers.{IsExplainAnswer}
use Rattle.potzendai.specs.Verdicts.{SpellsLinearizable, SpellsUnlinearizable}
use Rattle.judge.specs.declared.verdict.Verdict.TheVariants as verdicts

-- an outcome is written
pub IsCall-outcome : (IsOutcome : CommandOutcome → Type 0) (budget : ℕ) (before after : List ℕ) (size status : ℕ) (outcome : CommandOutcome)
    → IsBudget budget → IsOutcome outcome → status ≡ status_of outcome → size ≡ length (text_of outcome)
    → after ≡ written (text_of outcome) before
    → IsCall IsOutcome budget before after size status
IsCall-outcome IsOutcome budget before after size status outcome within comes status_is size_is room = record {
  text = text_of outcome;
  reported = inl (record { outcome = outcome; is_budget = within; comes = comes; status_is = status_is; text_is = refl });
  size_is = size_is;
  room = room;
}

-- what is written of a verdict with its hint is written of one without
pub record IsReportedAs (budget : ℕ) (text : List ℕ) (outcome : CommandOutcome) : Type 0 where
  pub plain : CommandOutcome
  pub comes : IsTextOutcome (IsJudgeAnswer budget) IsHistoryRefusal (Some text) plain
  pub status_is : status_of outcome ≡ status_of plain
  pub text_is : text_of outcome ≡ text_of plain

pub without_note : (budget : ℕ) (text : List ℕ) (outcome : CommandOutcome)
    → IsHintedOutcome (IsHintedJudgeAnswer budget) IsHistoryRefusal (Some text) outcome → IsReportedAs budget text outcome
without_note budget text (Answered answer bytes) h =
    record { plain = Answered answer bytes; comes = h.answered; status_is = refl; text_is = refl }
without_note budget text (Noted answer bytes note) h =
    record { plain = Answered answer bytes; comes = h.answered; status_is = refl; text_is = refl }
without_note budget text (Refused bytes hint) h = record { plain = Refused bytes hint; comes = h; status_is = refl; text_is = refl }
without_note budget text Memory h = record { plain = Memory; comes = tt; status_is = refl; text_is = refl }
without_note budget text (Words bytes) h = absurd h
without_note budget text Failed h = absurd h

order_of_yes : (budget : ℕ) (history : HistoryView) (verdict : Verdict) → Yes ≡ answer_of verdict
    → IsShown history.start budget (operations history.events) verdict → IsLinearizableHistory history
order_of_yes budget history (verdicts.Yes order) is shown = (order.items, shown.is_order)
order_of_yes budget history (verdicts.No segment) is shown = cc
order_of_yes budget history (verdicts.Undecided segment) is shown = cc

none_of_no : (budget : ℕ) (history : HistoryView) (verdict : Verdict) → No ≡ answer_of verdict
    → IsShown history.start budget (operations history.events) verdict → IsLinearizableHistory history → ⊥
none_of_no budget history (verdicts.Yes order) is shown = cc
none_of_no budget history (verdicts.No segment) is shown = shown.no_order
none_of_no budget history (verdicts.Undecided segment) is shown = cc

-- the status of yes is that of a history with an order
pub yes_is_linearizable : (budget : ℕ) (text : List ℕ) (outcome : CommandOutcome)
    → IsTextOutcome (IsJudgeAnswer budget) IsHistoryRefusal (Some text) outcome
    → status_of outcome ≡ 0 → SpellsLinearizable text
yes_is_linearizable budget text (Answered Yes bytes) comes is =
    let judged = comes.judged in (
      judged.history,
      record { spelled = judged.spelled; is_history = judged.is_history },
      order_of_yes budget judged.history comes.verdict
          comes.answer_is judged.shown,
    )
yes_is_linearizable budget text (Answered No bytes) comes is = cc
yes_is_linearizable budget text (Answered Undecided bytes) comes is = cc
yes_is_linearizable budget text (Noted answer bytes note) comes is = absurd comes
yes_is_linearizable budget text (Refused bytes hint) comes is = cc
yes_is_linearizable budget text Memory comes is = cc
yes_is_linearizable budget text (Words bytes) comes is = cc
yes_is_linearizable budget text Failed comes is = cc

-- the status of no is that of a history without
pub no_is_unlinearizable : (budget : ℕ) (text : List ℕ) (outcome : CommandOutcome)
    → IsTextOutcome (IsJudgeAnswer budget) IsHistoryRefusal (Some text) outcome
    → status_of outcome ≡ 1 → SpellsUnlinearizable text
no_is_unlinearizable budget text (Answered Yes bytes) comes is = cc
no_is_unlinearizable budget text (Answered No bytes) comes is =
    let judged = comes.judged in (
      judged.history,
      record { spelled = judged.spelled; is_history = judged.is_history },
      none_of_no budget judged.history comes.verdict
          comes.answer_is judged.shown,
    )
no_is_unlinearizable budget text (Answered Undecided bytes) comes is = cc
no_is_unlinearizable budget text (Noted answer bytes note) comes is = absurd comes
no_is_unlinearizable budget text (Refused bytes hint) comes is = cc
no_is_unlinearizable budget text Memory comes is = cc
no_is_unlinearizable budget text (Words bytes) comes is = cc
no_is_unlinearizable budget text Failed comes is = cc

-- the same of one that is explained
pub explained_yes_is_linearizable : (budget : ℕ) (text : List ℕ) (outcome : CommandOutcome)
    → IsTextOutcome (IsExplainAnswer budget) IsHistoryRefusal (Some text) outcome
    → status_of outcome ≡ 0 → SpellsLinearizable text
explained_yes_is_linearizable budget text (Answered Yes bytes) comes is =
    let reported = comes.explains in (
      comes.history,
      comes.is_text,
      order_of_yes budget comes.history reported.verdict reported.answer_is reported.shown,
    )
explained_yes_is_linearizable budget text (Answered No bytes) comes is = cc
explained_yes_is_linearizable budget text (Answered Undecided bytes) comes is = cc
explained_yes_is_linearizable budget text (Noted answer bytes note) comes is = absurd comes
explained_yes_is_linearizable budget text (Refused bytes hint) comes is = cc
explained_yes_is_linearizable budget text Memory comes is = cc
explained_yes_is_linearizable budget text (Words bytes) comes is = cc
explained_yes_is_linearizable budget text Failed comes is = cc

pub explained_no_is_unlinearizable : (budget : ℕ) (text : List ℕ) (outcome : CommandOutcome)
    → IsTextOutcome (IsExplainAnswer budget) IsHistoryRefusal (Some text) outcome
    → status_of outcome ≡ 1 → SpellsUnlinearizable text
explained_no_is_unlinearizable budget text (Answered Yes bytes) comes is = cc
explained_no_is_unlinearizable budget text (Answered No bytes) comes is =
    let reported = comes.explains in (
      comes.history,
      comes.is_text,
      none_of_no budget comes.history reported.verdict reported.answer_is reported.shown,
    )
explained_no_is_unlinearizable budget text (Answered Undecided bytes) comes is = cc
explained_no_is_unlinearizable budget text (Noted answer bytes note) comes is = absurd comes
explained_no_is_unlinearizable budget text (Refused bytes hint) comes is = cc
explained_no_is_unlinearizable budget text Memory comes is = cc
explained_no_is_unlinearizable budget text (Words bytes) comes is = cc
explained_no_is_unlinearizable budget text Failed comes is = cc

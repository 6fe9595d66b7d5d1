-- The answers of a function that judges histories.
use Rattle.std.specs.Prelude.{ℕ, Result, Ok, IfOk}
use Rattle.events.specs.declared.memory.Memory.{Memory}
use Rattle.events.specs.HistoryView.{HistoryView}
use Rattle.events.specs.Operations.{operations}
use Rattle.judge.specs.declared.verdict.Verdict.{Verdict}
use Rattle.judge.specs.Shown.{IsShown}
use Rattle.judge.specs.Exact.{IsExactVerdict}

-- each verdict that it returns is the exact one at this budget, and what it says of the history's
-- calls is true
abbrev pub JudgesExactly : ℕ → (HistoryView → Result Verdict Memory → Type 0) → Type 0
JudgesExactly budget Answers =
    (history : HistoryView) (answer : Result Verdict Memory) → Answers history answer
    → IfOk answer (IsShown history.start budget (operations history.events))
    × IfOk answer (IsExactVerdict history.start budget (operations history.events))

-- it returns some verdict on this history
abbrev pub AnswersVerdict : (HistoryView → Result Verdict Memory → Type 0) → HistoryView → Type 0
AnswersVerdict Answers history = (verdict : Verdict) × Answers history (Ok verdict)

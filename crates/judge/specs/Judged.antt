-- The answer to a text: a verdict with its report, or why there is none.
use Rattle.std.specs.Prelude.{◌≡◌, ◌≢◌, ℕ, List, ⊤}
use Rattle.serde_json.specs.Written.{compact_text}
use Rattle.events.specs.HistoryView.{HistoryView}
use Rattle.events.specs.declared.fault.HistoryFault.{HistoryFault}
use Rattle.events.specs.declared.fault.HistoryFault.TheVariants as histories
use Rattle.events.specs.Histories.{IsHistory}
use Rattle.events.specs.Operations.{operations}
use Rattle.history_text.specs.Texts.{Spells}
use Rattle.history_text.specs.TextFaults.{IsTextFault}
use Rattle.judge.specs.declared.verdict.Verdict.{Verdict}
use Rattle.judge.specs.declared.fault.JudgeFault.{JudgeFault}
use Rattle.judge.specs.declared.fault.JudgeFault.TheVariants.{History, Memory}
use Rattle.judge.specs.Shown.{IsShown}
use Rattle.judge.specs.Exact.{IsExactVerdict}
use Rattle.judge.specs.Reports.{verdict_data}

-- the text spells a history, what the verdict says of its calls is true, the verdict is the exact
-- one, and this is its report
pub record IsJudged (budget : ℕ) (text : List ℕ) (verdict : Verdict) (report : List ℕ) : Type 0 where
  pub history : HistoryView
  pub spelled : Spells text history
  pub is_history : IsHistory history
  pub shown : IsShown history.start budget (operations history.events) verdict
  pub exact : IsExactVerdict history.start budget (operations history.events) verdict
  pub reported : report ≡ compact_text (verdict_data verdict)

-- the judge's fault for a reader's fault; if memory runs out, in the reader or in the judge, it is
-- one fault
abbrev pub fault_of : HistoryFault → JudgeFault
fault_of histories.Memory = Memory
fault_of fault = History fault

-- why a text has no verdict
abbrev pub IsUnjudged : List ℕ → JudgeFault → Type 0
IsUnjudged text (History fault) = IsTextFault text fault × (fault ≢ histories.Memory)
IsUnjudged text Memory = ⊤

-- The program's answers to the text of a history, with an order of its calls or with a budget.
use Rattle.std.specs.Prelude.{◌≡◌, ◌≢◌, ℕ, List}
use Rattle.events.specs.HistoryView.{HistoryView}
use Rattle.events.specs.declared.fault.HistoryFault.{HistoryFault}
use Rattle.events.specs.declared.fault.HistoryFault.TheVariants as histories
use Rattle.events.specs.Histories.{IsHistory}
use Rattle.events.specs.Operations.{operations}
use Rattle.orders.specs.Orders.{IsOrderOfHistory}
use Rattle.history_text.specs.Texts.{Spells}
use Rattle.history_text.specs.TextFaults.{IsTextFault}
use Rattle.certificate.specs.declared.fault.OrderFault.{OrderFault}
use Rattle.certificate.specs.declared.fault.OrderFault.TheVariants as orders
use Rattle.certificate.specs.Faults.{IsRefusedFor}
use Rattle.judge.specs.declared.verdict.Verdict.{Verdict}
use Rattle.judge.specs.declared.verdict.Verdict.TheVariants as verdicts
use Rattle.judge.specs.Judged.{IsJudged}
use Rattle.cli_outcome.specs.declared.outcome.Answer.{Answer}
use Rattle.cli_outcome.specs.declared.outcome.Answer.TheVariants.{Yes, No, Undecided}
use Rattle.cli_outcome.specs.Lines.{line, ok_line, order_fault_line}
use Rattle.cli_outcome.specs.Hints.{verdict_hint}
use Rattle.cli_judge.specs.Refusals.{IsToldFault}

-- the text spells this, and it is a history
pub record IsTextOf (text : List ℕ) (history : HistoryView) : Type 0 where
  pub spelled : Spells text history
  pub is_history : IsHistory history

-- the text spells a history, and the numbers are an order of its calls
abbrev pub SpellsOrdered : List ℕ → List ℕ → Type 0
SpellsOrdered text order = (history : HistoryView) × IsTextOf text history × IsOrderOfHistory history order

-- the text spells a history, and the numbers are not an order of its calls, for this fault
pub record SpellsUnordered (text order : List ℕ) (fault : OrderFault) : Type 0 where
  pub history : HistoryView
  pub is_text : IsTextOf text history
  pub refused : IsRefusedFor history.start (operations history.events) order fault
  pub not_memory : fault ≢ orders.Memory

-- for this fault the text spells no history
pub record SpellsNone (text : List ℕ) (fault : HistoryFault) : Type 0 where
  pub refused : IsTextFault text fault
  pub not_memory : fault ≢ histories.Memory

-- a text that spells no history is refused with this line and this hint, which are those of its
-- first fault
abbrev pub IsHistoryRefusal : List ℕ → List ℕ → List ℕ → Type 0
IsHistoryRefusal text bytes hint = (fault : HistoryFault) × SpellsNone text fault × IsToldFault text fault bytes hint

-- the answer of `check` to the order and the text: yes with `ok`, or no with the order's first
-- fault
abbrev pub IsCheckAnswer : List ℕ → List ℕ → Answer → List ℕ → Type 0
IsCheckAnswer order text Yes bytes = SpellsOrdered text order × (bytes ≡ ok_line)
IsCheckAnswer order text No bytes = (fault : OrderFault) × SpellsUnordered text order fault × (bytes ≡ order_fault_line fault)
IsCheckAnswer order text Undecided bytes = ⊥

-- the answer that a verdict is
abbrev pub answer_of : Verdict → Answer
answer_of (verdicts.Yes order) = Yes
answer_of (verdicts.No segment) = No
answer_of (verdicts.Undecided segment) = Undecided

-- the answer of `judge` to the text at the budget: the report of a verdict on the history
pub record IsJudgeAnswer (budget : ℕ) (text : List ℕ) (answer : Answer) (bytes : List ℕ) : Type 0 where
  pub verdict : Verdict
  pub report : List ℕ
  pub judged : IsJudged budget text verdict report
  pub answer_is : answer ≡ answer_of verdict
  pub bytes_are : bytes ≡ line report

-- the answer of `judge` on standard output, and the hint next to it
pub record IsHintedJudgeAnswer (budget : ℕ) (text : List ℕ) (answer : Answer) (bytes hint : List ℕ) : Type 0 where
  pub history : HistoryView
  pub is_text : IsTextOf text history
  pub answered : IsJudgeAnswer budget text answer bytes
  pub hint_is : hint ≡ verdict_hint answer history.events

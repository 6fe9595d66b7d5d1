-- Laws of verdicts.
use Rattle.std.specs.Prelude.{◌≡◌, ℕ, ◌≤◌, List, length}
use Rattle.events.specs.declared.operation.Operation.{Operation}
use Rattle.map_object.specs.MapObject.{Contents}
use Rattle.orders.specs.SegmentView.{SegmentView}
use Rattle.events.specs.HistoryView.{HistoryView}
use Rattle.events.specs.Histories.{IsHistory}
use Rattle.events.specs.Operations.{operations}
use Rattle.judge.specs.declared.verdict.Verdict.{Verdict}
use Rattle.judge.specs.Shows.{ShowsYes, ShowsNo, ShowsUndecided}
use Rattle.judge.specs.Exact.{IsExactVerdict, AreSameVerdict}
use Rattle.judge.specs.Judged.{IsJudged}

-- no history is shown a yes and a no, whatever the budgets were
abbrev pub FinishedVerdictsAgree : Type 0
FinishedVerdictsAgree =
    (start : Contents) (budget : ℕ) (calls : List Operation) (order : List ℕ) (segment : SegmentView) → ShowsYes start calls order
    → ShowsNo start budget calls segment → ⊥

-- one call is decided at every budget of two or more
abbrev pub OneCallIsDecided : Type 0
OneCallIsDecided =
    (start : Contents) (budget : ℕ) (calls : List Operation) (segment : SegmentView) → length calls ≡ 1 → 2 ≤ budget
    → ShowsUndecided start budget calls segment → ⊥

-- one verdict on a history is exact at a budget
abbrev pub OneExactVerdict : Type 0
OneExactVerdict =
    (budget : ℕ) (history : HistoryView) (a b : Verdict) → IsHistory history
    → IsExactVerdict history.start budget (operations history.events) a
    → IsExactVerdict history.start budget (operations history.events) b → AreSameVerdict a b

-- one report is answered to a text at a budget
abbrev pub OneReport : Type 0
OneReport =
    (budget : ℕ) (text : List ℕ) (a b : Verdict) (report other : List ℕ) → IsJudged budget text a report
    → IsJudged budget text b other → report ≡ other

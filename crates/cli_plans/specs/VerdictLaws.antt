-- The answers of the judge to the histories of the full trees.
use Rattle.std.specs.Prelude.{◌≡◌, ◌⊎◌, ℕ, List}
use Rattle.events.specs.HistoryView.{HistoryView}
use Rattle.events.specs.Operations.{operations}
use Rattle.history_text.specs.Texts.{Spells}
use Rattle.map_object.specs.MapObject.{Contents}
use Rattle.orders.specs.Orders.{IsLinearizableHistory}
use Rattle.art_rows.specs.declared.variant.Variant.TheVariants.{Coupled, Optimistic}
use Rattle.art_core.specs.Core.{Plan, State, history_of}
use Rattle.art_core.specs.Plans.{IsRun}
use Rattle.judge.specs.declared.verdict.Verdict.{Verdict}
use Rattle.judge.specs.declared.verdict.Verdict.TheVariants.{No}
use Rattle.judge.specs.Shown.{IsShown}
use Rattle.judge.specs.Judged.{IsJudged}

-- the verdict is a yes, or undecided
abbrev pub IsNoRefutation : Verdict → Type 0
IsNoRefutation (No segment) = ⊥
IsNoRefutation verdict = Unit {0}

-- No verdict that is shown of the calls of a run of a full tree refutes it, whatever the budget. So
-- `judge_alone` and `judge`, which show what they answer, never answer No there.
abbrev pub NeverRefuted : Type 0
NeverRefuted =
    (plan : Plan) (start : Contents) (words schedule : List ℕ) (s : State) → IsRun plan start words schedule s
    → (plan.variant ≡ Coupled) ⊎ (plan.variant ≡ Optimistic) → (budget : ℕ) (verdict : Verdict)
    → IsShown start budget (operations (history_of s)) verdict
    → IsNoRefutation verdict

-- No judgement of a text that spells a linearizable history refutes it.
abbrev pub LinearizableTextsAreNeverRefuted : Type 0
LinearizableTextsAreNeverRefuted =
    (budget : ℕ) (text report : List ℕ) (history : HistoryView) (verdict : Verdict) → Spells text history → IsLinearizableHistory history
    → IsJudged budget text verdict report → IsNoRefutation verdict

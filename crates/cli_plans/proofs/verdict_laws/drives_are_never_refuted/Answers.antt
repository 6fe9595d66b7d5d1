use Rattle.cli_plans.proofs.Common.{ℕ, List, Shape, Variant, IsTreeDriveAnswer, IsDriveRefusal, Answer, LinearizableTextsAreNeverRefuted, IsFull}
use Rattle.cli_plans.proofs.Common.{AreNeverRefuted, SpellsBetweenWhiteSpace}
use Rattle.cli_plans.proofs.VerdictLemmas.{history_never, outcome_never, engine_never}
use Rattle.cli_plans.proofs.verdict_laws.drives_are_never_refuted.Goals as goal

-- an answer of `drive` has the bytes of a linearizable history
answered : LinearizableTextsAreNeverRefuted → SpellsBetweenWhiteSpace → (shape : Shape) (variant : Variant) (limit : ℕ) (text : List ℕ)
    → IsFull variant → (answer : Answer) (bytes : List ℕ) → IsTreeDriveAnswer shape variant limit text answer bytes → AreNeverRefuted bytes
answered linearizable between shape variant limit text full answer bytes is =
    history_never linearizable between bytes is.history is.spelled (is.driven.driven.linearizable full)

pub returns-clause-outcomes : goal.returns-clause-outcomes
returns-clause-outcomes c shape variant limit text recorded full =
    outcome_never (IsTreeDriveAnswer shape variant limit) IsDriveRefusal text c.white_space_tells_nothing.ensures
    (answered c.linearizable_texts_are_never_refuted.ensures c.spells_between_white_space.ensures shape variant limit text full) recorded

pub returns-clause-runs : goal.returns-clause-runs
returns-clause-runs c shape variant limit text bytes source output faults hints status full told was sound run =
    engine_never (IsTreeDriveAnswer shape variant limit) IsDriveRefusal text c.white_space_tells_nothing.ensures
    (answered c.linearizable_texts_are_never_refuted.ensures c.spells_between_white_space.ensures shape variant limit text full)
    bytes source output faults hints status told was sound run

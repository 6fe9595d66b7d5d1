use Rattle.cli_plans.proofs.Common.{ℕ, List, subst, IsReplayAnswer, IsReplayRefusal, Answer, IsFull, SpellsFullReplay, AreNeverRefuted, ReplayView}
use Rattle.cli_plans.proofs.Common.{LinearizableTextsAreNeverRefuted, SpellsBetweenWhiteSpace}
use Rattle.cli_plans.proofs.VerdictLemmas.{history_never, outcome_never, engine_never}
use Rattle.plan_text.specs.ReplayTextLaws.{SpellsOneReplay}
use Rattle.cli_plans.proofs.verdict_laws.replays_are_never_refuted.Goals as goal

-- an answer of `replay` has the bytes of a linearizable history
answered : LinearizableTextsAreNeverRefuted → SpellsBetweenWhiteSpace → SpellsOneReplay → (text : List ℕ) → SpellsFullReplay text
    → (answer : Answer) (bytes : List ℕ) → IsReplayAnswer text answer bytes → AreNeverRefuted bytes
answered linearizable between one text full answer bytes is =
    let same = one text full.0 is.played.0 full.1 is.played.1 in
    history_never linearizable between bytes is.history is.spelled
    (is.played.2.linearizable (subst (λ (r : ReplayView). IsFull r.variant) same full.2))

pub returns-clause-outcomes : goal.returns-clause-outcomes
returns-clause-outcomes c text recorded full =
    outcome_never IsReplayAnswer IsReplayRefusal text c.white_space_tells_nothing.ensures
    (answered c.linearizable_texts_are_never_refuted.ensures c.spells_between_white_space.ensures c.one_replay.ensures text full) recorded

pub returns-clause-runs : goal.returns-clause-runs
returns-clause-runs c text bytes source output faults hints status full told was sound run =
    engine_never IsReplayAnswer IsReplayRefusal text c.white_space_tells_nothing.ensures
    (answered c.linearizable_texts_are_never_refuted.ensures c.spells_between_white_space.ensures c.one_replay.ensures text full)
    bytes source output faults hints status told was sound run

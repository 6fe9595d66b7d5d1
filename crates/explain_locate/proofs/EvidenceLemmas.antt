-- What shows a location.
use Rattle.explain_locate.proofs.Common.{◌≡◌, ℕ, ◌+◌, suc, List, [], ◌∷◌, ◌++◌, length, take, Some, subst, Event, Answer, HistoryView, Violation, KeyCore}
use Rattle.explain_locate.proofs.Common.{key_core, IsLostAt, IsLossEvidence, IsOwnEvidence, ShowsNoneUpTo}
use Rattle.follow_violations.specs.Laws.{IsOwnPartOf, OwnPartsHaveNoOrder}
use Rattle.explain_locate.specs.declared.evidence.Evidence.{Evidence}
use Rattle.explain_locate.specs.declared.evidence.Evidence.TheVariants.{OfEvents, OfPart, Missing}
use Rattle.explain_locate.proofs.FormLemmas.{kept_of_own}
use Rattle.explain_locate.proofs.PassLemmas.{next}

-- what goes wrong on its own at a loss is of the events up to there
pub own_of : OwnPartsHaveNoOrder → (budget : ℕ) (history : HistoryView) (loss : Violation) (part : KeyCore) → IsLostAt budget history loss
    → key_core loss ≡ Some part → IsOwnPartOf (take (loss.event + 1) history.events) part
own_of law budget history loss part lost is =
    let at = lost.followed in
    let answer = Answer at.process at.reply in
    let before = take loss.event history.events in
    let kept = kept_of_own history.start before at.process at.reply loss part at.answered_is is in
    subst (λ (events : List Event). IsOwnPartOf events part) (next history loss.event answer at.event_is)
    (law history.start (suc (length before)) (before ++ answer ∷ []) loss part kept.0 kept.1 is)

-- if the last calls show nothing, it shows the loss
pub of_loss : (budget : ℕ) (history : HistoryView) (loss : Violation) (evidence : Evidence) → ShowsNoneUpTo budget history loss.event
    → IsOwnEvidence budget loss evidence → IsLossEvidence budget history loss evidence
of_loss budget history loss (OfEvents few) none own = absurd own
of_loss budget history loss (OfPart part few) none own = (none, own)
of_loss budget history loss Missing none own = (none, own)

-- The outcome of an answer at which a stream stops.
use Rattle.cli_follow.proofs.Common.{ℕ, List, [], ◌∷◌, ◌++◌, Option, All, Event, Invoke, Answer, HistoryView, SpellsEvent, IsDead, pasts_of, Violation}
use Rattle.cli_follow.proofs.Common.{CommandOutcome, Followed, IsFollowed, IsLostOutcome, IsSpentOutcome, IsStreamOutcome, IsLostAt, IsSpentAt}
use Rattle.cli_follow.proofs.Common.{BeginsWith}
use Rattle.cli_follow.proofs.JudgedLemmas.{lost_at, spent_at}
use Rattle.cli_follow.proofs.OwnLemmas.{lost_dead}

pub lost_dead_at : (stream : HistoryView) (e : Event) (loss : Violation) → IsLostAt stream e loss → All IsDead (pasts_of loss.part)
lost_dead_at stream (Invoke process call) loss lost = absurd lost
lost_dead_at stream (Answer process reply) loss lost = lost_dead stream.start stream.events process reply loss lost

pub lost_stop : (budget : ℕ) (known : Option (List ℕ)) (read : List (List ℕ)) (next : List ℕ) (f : Followed) (e : Event) (loss : Violation)
    (outcome : CommandOutcome) (followed : IsFollowed read f) → SpellsEvent f.version next e → BeginsWith known (read ++ next ∷ [])
    → IsLostAt followed.stream e loss → IsLostOutcome loss outcome → IsStreamOutcome budget known outcome
lost_stop budget known read next f (Invoke process call) loss outcome followed spelled begins lost is = absurd lost
lost_stop budget known read next f (Answer process reply) loss outcome followed spelled begins lost is =
    lost_at budget known read next f process reply loss outcome followed spelled begins lost is

pub spent_stop : (budget : ℕ) (known : Option (List ℕ)) (read : List (List ℕ)) (next : List ℕ) (f : Followed) (e : Event) (loss : Violation)
    (outcome : CommandOutcome) (followed : IsFollowed read f) → SpellsEvent f.version next e → BeginsWith known (read ++ next ∷ [])
    → IsSpentAt followed.stream budget e loss → IsSpentOutcome loss outcome → IsStreamOutcome budget known outcome
spent_stop budget known read next f (Invoke process call) loss outcome followed spelled begins spent is = absurd spent
spent_stop budget known read next f (Answer process reply) loss outcome followed spelled begins spent is =
    spent_at budget known read next f process reply loss outcome followed spelled begins spent is

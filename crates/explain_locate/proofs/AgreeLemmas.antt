-- Locations of one history agree.
use Rattle.explain_locate.proofs.Common.{◌≡◌, ℕ, ◌≤◌, ⊎_elim, sym, subst, cases_lt, HistoryView, IsHistory, IsLinearizableHistory, AnswersHaveOneCall}
use Rattle.explain_locate.proofs.Common.{OneEventGoesWrong, GoesWrongAt, IsAnswerOf, prefix_of, Said, SaysYes, SaysNo, SaysUndecided, said_by}
use Rattle.explain_locate.proofs.Common.{DoNotContradict, LocationsAgree, IsLocated, Location, Yes, No, Lost, Undecided}

module _ (one_event : OneEventGoesWrong) (one_call : AnswersHaveOneCall) (history : HistoryView) where
  -- no more events have an order than those before the one at which the history goes wrong
  not_after : (number place count : ℕ) → GoesWrongAt history number place → IsLinearizableHistory (prefix_of history count) → count ≤ place
  not_after number place count wrong has =
      ⊎_elim (λ later. absurd ((one_event history number place wrong).2 count later has)) (λ within. within) (cases_lt place count)

  same_call : (number place other elsewhere : ℕ) → IsHistory history → GoesWrongAt history number place
      → GoesWrongAt history other elsewhere → (place ≡ elsewhere) × (number ≡ other)
  same_call number place other elsewhere is wrong again =
      let at : place ≡ elsewhere = (one_event history number place wrong).0 other elsewhere again in (
        at,
        one_call history number other place is wrong.answer
            (subst (λ (n : ℕ). IsAnswerOf history.events other n) (sym at) again.answer),
      )

  -- what each location says of where the history goes wrong
  abbrev Says : Said → Type 0
  Says SaysYes = IsLinearizableHistory history
  Says (SaysNo event number) = GoesWrongAt history number event
  Says (SaysUndecided event) = IsLinearizableHistory (prefix_of history event)

  says : (budget : ℕ) (a : Location) → IsLocated budget history a → Says (said_by a)
  says budget Yes x = x
  says budget (No event number) x = x.wrong
  says budget (Lost loss) x = x.wrong
  says budget (Undecided event number) x = x.before

  agree : (a b : Said) → IsHistory history → Says a → Says b → DoNotContradict a b
  agree SaysYes SaysYes is x y = tt
  agree SaysYes (SaysNo event number) is x y = (one_event history number event y).1 x
  agree SaysYes (SaysUndecided event) is x y = tt
  agree (SaysNo event number) SaysYes is x y = (one_event history number event x).1 y
  agree (SaysNo event number) (SaysNo other call) is x y = same_call number event call other is x y
  agree (SaysNo event number) (SaysUndecided other) is x y = not_after number event other x y
  agree (SaysUndecided other) SaysYes is x y = tt
  agree (SaysUndecided other) (SaysNo event number) is x y = not_after number event other y x
  agree (SaysUndecided event) (SaysUndecided other) is x y = tt

pub locations_agree : OneEventGoesWrong → AnswersHaveOneCall → LocationsAgree
locations_agree one_event one_call budget other history a b is x y =
    agree one_event one_call history (said_by a) (said_by b) is (says one_event one_call history budget a x)
    (says one_event one_call history other b y)

-- If the judge's verdicts show where a history goes wrong, an order of the events before is found.
use Rattle.explain_locate.proofs.Common.{◌≡◌, ◌⊎◌, ℕ, ◌<◌, List, Option, Some, None, ⊎_elim, true, is_some, inl, inr, refl, subst, arith, IfSome, IsSomeAnd}
use Rattle.explain_locate.proofs.Common.{slice_get, same_Some, some_at, Event, Operation, response_later, HistoryView, IsHistory, operations}
use Rattle.explain_locate.proofs.Common.{OneEventGoesWrong, PrefixesAreHistories, IsAnswerOf, OneExactVerdict, found, spent, upper, lower, IsYes, IsJudged}
use Rattle.explain_locate.proofs.Common.{IsBisected, IsLeftOpen, OrdersAreFoundWhereJudged, IsDecidedByJudge, IsFoundAt, IsLocated, Location, Yes, No, Lost}
use Rattle.explain_locate.proofs.Common.{Undecided}
use Rattle.events.proofs.Lists.{All-at}
use Rattle.events.specs.declared.operation.Response.{Response}
use Rattle.explain_locate.specs.FirstOrders.{IsFoundBefore}
use Rattle.explain_locate.proofs.BisectionLemmas.{not_yes_and_undecided, open_but_yes, open_but_found}

-- the answer of a call comes after another event
answer_later : (events : List Event) (number place : ℕ) → IsAnswerOf events number place → 0 < place
answer_later events number place is =
    let call = some_at (slice_get (operations events) number) (λ (a : Operation). IsSomeAnd a.response (λ (r : Response). r.res ≡ place)) is in
    let later = All-at (λ (a : Operation). IfSome a.response (λ (r : Response). a.inv < r.res)) (operations events) number call.0
    (response_later events) call.1 in
    go call.0.inv call.0.response later call.2
  where
    go : (inv : ℕ) (o : Option Response) → IfSome o (λ r. inv < r.res) → IsSomeAnd o (λ r. r.res ≡ place) → 0 < place
    go inv None later at = absurd at
    go inv (Some r) later at = omega (arith, later, at)

module _ (budget : ℕ) (history : HistoryView) where
  -- the events before the one that bisection finds are judged a yes, unless they are those that it began with
  judged_before : {low high : ℕ} {a : Option ℕ} → IsBisected budget history low high a → (event : ℕ) → a ≡ Some event
      → (low ≡ event) ⊎ IsJudged IsYes budget history event
  judged_before (found next) event is = inl (same_Some _ _ is)
  judged_before (spent wide und) event is = cc
  judged_before (upper wide y rest) event is =
      ⊎_elim (λ same. inr (subst (λ (n : ℕ). IsJudged IsYes budget history n) same y)) (λ later. inr later) (judged_before rest event is)
  judged_before (lower wide n rest) event is = judged_before rest event is

  -- the events before one that the judge's verdicts find are judged a yes
  judged_before_found : (event number : ℕ) → IsFoundAt budget history event number → IsJudged IsYes budget history event
  judged_before_found event number here =
      let after = answer_later history.events number event here.wrong.answer in
      ⊎_elim (λ same. absurd (omega (arith, same, after))) (λ judged. judged) (judged_before here.judged.bisected event refl)

module _ (one_verdict : OneExactVerdict) (prefixes : PrefixesAreHistories) (one_event : OneEventGoesWrong) (budget : ℕ)
    (history : HistoryView) (is : IsHistory history) where
  -- what the judge's verdicts show is not left open to the monitor
  not_open : IsLeftOpen budget history → IsDecidedByJudge budget history → ⊥
  not_open left (inl judged) = open_but_yes one_verdict prefixes budget history is left judged
  not_open left (inr (event, (number, here))) = open_but_found one_verdict prefixes budget history is event left here.judged

  -- an order is found, if the judge's verdicts show the location
  there : (location : Location) (order : Option (List ℕ)) → IsLocated budget history location → IsDecidedByJudge budget history
      → IsFoundBefore budget history location order → is_some order ≡ true
  there location (Some order) located decided is_found = refl
  there Yes None located (inl judged) is_found =
      absurd (not_yes_and_undecided one_verdict prefixes budget history is judged is_found.undecided)
  there Yes None located (inr (event, (number, here))) is_found =
      absurd ((one_event history number event here.wrong).1 located)
  there (No event number) None located decided is_found =
      absurd (not_yes_and_undecided one_verdict prefixes budget history is (judged_before_found budget history event number located)
      is_found.undecided)
  there (Lost loss) None located decided is_found = absurd (not_open located.open_to_judge decided)
  there (Undecided event number) None located decided is_found = absurd (not_open located.open_to_judge decided)

pub orders_are_found : OneExactVerdict → PrefixesAreHistories → OneEventGoesWrong → OrdersAreFoundWhereJudged
orders_are_found one_verdict prefixes one_event budget history location order is located before decided =
    there one_verdict prefixes one_event budget history is location order located decided before

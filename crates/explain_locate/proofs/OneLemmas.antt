-- If the judge's verdicts say where a history goes wrong, its locations at that budget have one report.
use Rattle.explain_locate.proofs.Common.{◌≡◌, ℕ, refl, sym, ◌∙◌, inl, inr, HistoryView, IsHistory, PrefixesAreHistories, OneExactVerdict, IsJudgedWhole}
use Rattle.explain_locate.proofs.Common.{IsYes, LocationsAgree, OneLocationWhereJudged, IsDecidedByJudge, IsFoundAt, IsLocated, location_data, no_data}
use Rattle.explain_locate.proofs.Common.{Location, Yes, No, Lost, Undecided}
use Rattle.explain_locate.proofs.BisectionLemmas.{not_yes_and_no, open_but_yes, open_but_found}

module _ (one_verdict : OneExactVerdict) (prefixes : PrefixesAreHistories) (agree : LocationsAgree) (budget : ℕ) (history : HistoryView)
    (is : IsHistory history) where
  of_yes : (a : Location) → IsJudgedWhole IsYes budget history → IsLocated budget history a → location_data a ≡ location_data Yes
  of_yes Yes y x = refl
  of_yes (No event number) y x =
      absurd (not_yes_and_no one_verdict prefixes budget history is y x.judged.refuted)
  of_yes (Lost loss) y x = absurd (open_but_yes one_verdict prefixes budget history is x.open_to_judge y)
  of_yes (Undecided event number) y x = absurd (open_but_yes one_verdict prefixes budget history is x.open_to_judge y)

  of_found : (a : Location) (event number : ℕ) → IsFoundAt budget history event number → IsLocated budget history a
      → location_data a ≡ no_data event number
  of_found Yes event number here x = absurd (agree budget budget history Yes (No event number) is x here)
  of_found (No other call) event number here x =
      let same = agree budget budget history (No other call) (No event number) is x here in λ i. no_data (same.0 i) (same.1 i)
  of_found (Lost loss) event number here x =
      absurd (open_but_found one_verdict prefixes budget history is event x.open_to_judge here.judged)
  of_found (Undecided other call) event number here x =
      absurd (open_but_found one_verdict prefixes budget history is event x.open_to_judge here.judged)

  one_location : (a b : Location) → IsDecidedByJudge budget history → IsLocated budget history a → IsLocated budget history b
      → location_data a ≡ location_data b
  one_location a b (inl judged) x y = of_yes a judged x ∙ sym (of_yes b judged y)
  one_location a b (inr (event, (number, here))) x y = of_found a event number here x ∙ sym (of_found b event number here y)

pub one_location_where_judged : OneExactVerdict → PrefixesAreHistories → LocationsAgree → OneLocationWhereJudged
one_location_where_judged one_verdict prefixes agree budget history a b is decided x y =
    one_location one_verdict prefixes agree budget history is a b decided x y

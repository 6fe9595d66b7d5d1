-- Pasts of a part that are listed in another order, or dropped.
use Rattle.follow_laws.proofs.Common.{◌∷◌, inl, inr, subst, ⊎_elim, Contains-later, Contains-cases, Choice, GoesOnAt, PastsInAnyOrder}
use Rattle.follow_laws.proofs.Common.{PastsWithoutOrderGo}
use Rattle.follow_laws.proofs.PartLemmas.{at_self}
use Rattle.follow_laws.proofs.OperationLemmas.{operations_decide}
use Rattle.follow_laws.proofs.StepLemmas.{dead_pasts_go as pasts_of_part_go}

pub pasts_in_any_order : PastsInAnyOrder
pasts_in_any_order held place calls keys pasts others rest forth back stand =
    pasts_of_part_go held place calls keys pasts others rest
    (λ past past_in. inl (past, forth past past_in, at_self keys past))
    (λ past past_in. (past, back past past_in, at_self keys past))
    stand

pub pasts_without_order_go : PastsWithoutOrderGo
pasts_without_order_go held place calls keys kept past others rest apart rising dead is stand =
    pasts_of_part_go held place calls keys (past ∷ others) others rest
    (λ some some_in. ⊎_elim
    (λ same. inr (subst (λ (z : Choice). GoesOnAt keys z calls → ⊥) same none))
    (λ later. inl (some, later, at_self keys some))
    (Contains-cases past others some some_in))
    (λ some some_in. (some, Contains-later past others some some_in, at_self keys some))
    stand
  where
    none : GoesOnAt keys past calls → ⊥
    none goes_on = dead ((operations_decide keys past calls kept.pairs kept.left apart rising is.alike).0 goes_on.1)

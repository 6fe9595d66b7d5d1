use Rattle.follow_pasts.proofs.Common.{◌≡◌, ◌∙◌, ◌∷◌, ◌++◌, List, map, refl, sym, ap, subst, arith, All, Contains, IfOk, All-contains}
use Rattle.follow_pasts.proofs.Common.{All-contains_itself, All-weaker, IfOk-weaker, Operation, Contents, IsAnswer, KeptPast, kept_of, Found, AreGoneOn}
use Rattle.follow_pasts.proofs.Common.{lefts, lefts_of, lefts_of_kept}
use Rattle.follow_pasts.proofs.AnsweringLemmas.{lefts_next, searched, split_first}
use Rattle.follow_pasts.proofs.pasts.any_alive.Goals as goal

pub returns-clause-left : goal.returns-clause-left
returns-clause-left c =
    let pasts = c.args.pasts.items in
    let rest = c.remove.new.self.items in
    let past = c.remove.result in
    let kept = c.in_ok-kept.kept in
    let split : pasts ≡ past ∷ rest = split_first pasts rest past (omega arith) c.remove.ensures.value c.remove.ensures.items in
    let pairs_are : c.into_parts-map.result.0 ≡ past.map = rw c.into_parts-map.ensures refl in
    let calls_are : c.into_parts-map.result.1.items ≡ past.calls.items = rw c.into_parts-map.ensures refl in
    let answer : IsAnswer past.map past.calls.items c.args.budget kept =
    subst (λ (m : Contents). IsAnswer m past.calls.items c.args.budget kept) pairs_are
    (subst (λ (l : List Operation). IsAnswer c.into_parts-map.result.0 l c.args.budget kept) calls_are c.in_ok-kept.ensures) in
    let among : All (Contains (lefts pasts)) (lefts_of_kept kept ++ lefts rest) =
    lefts_next (lefts pasts) past.map c.args.budget pasts rest past kept split answer (All-contains_itself (lefts pasts)) in
    IfOk-weaker c.first_alive.result (λ gone. All (Contains (lefts_of_kept kept ++ lefts rest)) (lefts_of gone))
    (λ gone. All (Contains (lefts pasts)) (lefts_of gone))
    (λ gone h. All-weaker (Contains (lefts_of_kept kept ++ lefts rest)) (Contains (lefts pasts))
    (λ x has. All-contains (Contains (lefts pasts)) (lefts_of_kept kept ++ lefts rest) x among has) (lefts_of gone) h)
    c.first_alive.ensures.left

pub returns-clause-gone : goal.returns-clause-gone
returns-clause-gone c =
    let pasts = c.args.pasts.items in
    let rest = c.remove.new.self.items in
    let past = c.remove.result in
    let kept = c.in_ok-kept.kept in
    let split : pasts ≡ past ∷ rest = split_first pasts rest past (omega arith) c.remove.ensures.value c.remove.ensures.items in
    let pairs_are : c.into_parts-map.result.0 ≡ past.map = rw c.into_parts-map.ensures refl in
    let calls_are : c.into_parts-map.result.1.items ≡ past.calls.items = rw c.into_parts-map.ensures refl in
    let found_are : c.into_parts-map.result.2.items ≡ past.found.items = rw c.into_parts-map.ensures refl in
    let answer : IsAnswer past.map past.calls.items c.args.budget kept =
    subst (λ (m : Contents). IsAnswer m past.calls.items c.args.budget kept) pairs_are
    (subst (λ (l : List Operation). IsAnswer c.into_parts-map.result.0 l c.args.budget kept) calls_are c.in_ok-kept.ensures) in
    let gone = c.first_alive.ensures.gone past.map past.calls.items answer in
    let same : searched past.map past.calls.items c.into_parts-map.result.2.items ∷ map kept_of rest ≡ map kept_of pasts =
    ap (λ (f : List Found). searched past.map past.calls.items f ∷ map kept_of rest) found_are ∙ ap (map kept_of) (sym split) in
    subst (λ (ps : List KeptPast). IfOk c.first_alive.result (AreGoneOn c.args.budget ps)) same gone

use Rattle.follow_pasts.proofs.Common.{◌≡◌, ◌<◌, ◌∙◌, ◌∷◌, ◌++◌, [], List, map, refl, sym, ap, subst, arith, All, AllPairs, Contains}
use Rattle.follow_pasts.proofs.Common.{All-contains_itself, nil_from_length, Operation, NonePrecedesItself, Contents, IsAnswer, Mended, kept_of, Found}
use Rattle.follow_pasts.proofs.Common.{Past, lefts, lefts_of_kept}
use Rattle.std.proofs.Common.{eqb-true}
use Rattle.follow_pasts.proofs.AnsweringLemmas.{HaveTried, SearchesOn, search_begins, found_alive, found_doubtful, found_dead, tried_more}
use Rattle.follow_pasts.proofs.AnsweringLemmas.{search_goes_on, lefts_next, searched, split_first, first_shaped, rest_shaped}
use Rattle.follow_pasts.proofs.pasts.first_alive.Goals as goal

pub loop-kept-init : goal.loop-kept-init
loop-kept-init c = record {
  shaped = c.requires;
  goes = λ pairs calls h.
      let pasts = searched pairs calls c.args.found.items ∷ map kept_of c.args.others.items in
      subst (λ (l : List Past). SearchesOn c.args.budget pasts l c.args.kept c.args.found.items c.args.others.items)
      (sym c.new-tried.ensures.items) (search_begins c.args.budget pairs calls c.args.kept c.args.found.items c.args.others.items h);
  within = All-contains_itself (lefts_of_kept c.args.kept ++ lefts c.args.others.items);
}

pub returns-in-Order-clause-gone : goal.returns-in-Order-clause-gone
returns-in-Order-clause-gone c = λ pairs calls h.
    let pasts = searched pairs calls c.args.found.items ∷ map kept_of c.args.others.items in
    let tried = c.loop-kept.tried.items in
    found_alive c.args.budget pasts tried c.in-Order.first c.loop-kept.found.items c.loop-kept.others.items
    (subst (λ (k : Mended). SearchesOn c.args.budget pasts tried k c.loop-kept.found.items c.loop-kept.others.items) c.in-Order.is
    (c.loop-kept.invariant.goes pairs calls h))

pub returns-in-Spent-clause-gone : goal.returns-in-Spent-clause-gone
returns-in-Spent-clause-gone c = λ pairs calls h.
    let pasts = searched pairs calls c.args.found.items ∷ map kept_of c.args.others.items in
    let tried = c.loop-kept.tried.items in
    let others = c.loop-kept.others.items in
    let past : Past = record { map = c.in-Spent.start; calls = c.in-Spent.calls; found = c.loop-kept.found } in
    found_doubtful c.args.budget pasts tried past others c.add_pasts.new.pasts.items
    (subst (λ (k : Mended). SearchesOn c.args.budget pasts tried k c.loop-kept.found.items others) c.in-Spent.is
    (c.loop-kept.invariant.goes pairs calls h))
    (c.in_ok-add_pasts-in-Spent.ensures ∙ ap (λ (l : List Past). l ++ others) c.in_ok-push-in-Spent.ensures.items)

pub returns-then-is_empty-clause-gone : goal.returns-then-is_empty-clause-gone
returns-then-is_empty-clause-gone c = λ pairs calls h.
    let pasts = searched pairs calls c.args.found.items ∷ map kept_of c.args.others.items in
    let tried = c.loop-kept.tried.items in
    let others = c.loop-kept.others.items in
    let past : Past = record { map = c.in-NoOrder.start; calls = c.in-NoOrder.calls; found = c.loop-kept.found } in
    let empty : c.loop-kept.others.len ≡ 0 = eqb-true c.loop-kept.others.len 0 (sym c.is_empty.ensures ∙ c.if-is_empty.true) in
    let none : others ≡ [] = nil_from_length others (omega arith) in
    found_dead pasts c.push-in-NoOrder.new.self.items others none
    (tried_more c.args.budget pasts tried past others c.push-in-NoOrder.new.self.items
    (subst (λ (k : Mended). SearchesOn c.args.budget pasts tried k c.loop-kept.found.items others) c.in-NoOrder.is
    (c.loop-kept.invariant.goes pairs calls h))
    c.in_ok-push-in-NoOrder.ensures.items)

pub find-requires-clause-rising : goal.find-requires-clause-rising
find-requires-clause-rising c =
    let others = c.loop-kept.others.items in
    let split : others ≡ c.remove.result ∷ c.remove.new.self.items =
    split_first others c.remove.new.self.items c.remove.result (omega arith) c.remove.ensures.value c.remove.ensures.items in
    let same : c.into_parts-map.result.1.items ≡ c.remove.result.calls.items = rw c.into_parts-map.ensures refl in
    subst (λ (l : List Operation). AllPairs (λ a b. a.inv < b.inv) l) (sym same)
    (first_shaped others c.remove.new.self.items c.remove.result split c.loop-kept.invariant.shaped).0

pub find-requires-clause-apart : goal.find-requires-clause-apart
find-requires-clause-apart c =
    let others = c.loop-kept.others.items in
    let split : others ≡ c.remove.result ∷ c.remove.new.self.items =
    split_first others c.remove.new.self.items c.remove.result (omega arith) c.remove.ensures.value c.remove.ensures.items in
    let same : c.into_parts-map.result.1.items ≡ c.remove.result.calls.items = rw c.into_parts-map.ensures refl in
    subst NonePrecedesItself (sym same) (first_shaped others c.remove.new.self.items c.remove.result split c.loop-kept.invariant.shaped).1

pub loop-kept-preserved : goal.loop-kept-preserved
loop-kept-preserved c =
    let all = lefts_of_kept c.args.kept ++ lefts c.args.others.items in
    let others = c.loop-kept.others.items in
    let past = c.remove.result in
    let tried = c.loop-kept.tried.items in
    let dead : Past = record { map = c.in-NoOrder.start; calls = c.in-NoOrder.calls; found = c.loop-kept.found } in
    let split : others ≡ past ∷ c.remove.new.self.items =
    split_first others c.remove.new.self.items past (omega arith) c.remove.ensures.value c.remove.ensures.items in
    let pairs_are : c.into_parts-map.result.0 ≡ past.map = rw c.into_parts-map.ensures refl in
    let calls_are : c.into_parts-map.result.1.items ≡ past.calls.items = rw c.into_parts-map.ensures refl in
    let found_are : c.into_parts-map.result.2.items ≡ past.found.items = rw c.into_parts-map.ensures refl in
    let answer : IsAnswer past.map past.calls.items c.args.budget c.in_ok-kept.kept =
    subst (λ (m : Contents). IsAnswer m past.calls.items c.args.budget c.in_ok-kept.kept) pairs_are
    (subst (λ (l : List Operation). IsAnswer c.into_parts-map.result.0 l c.args.budget c.in_ok-kept.kept) calls_are c.in_ok-kept.ensures) in
    record {
      shaped = rest_shaped others c.remove.new.self.items past split c.loop-kept.invariant.shaped;
      goes = λ pairs calls h.
          let pasts = searched pairs calls c.args.found.items ∷ map kept_of c.args.others.items in
          let so_far : HaveTried pasts c.push-in-NoOrder.new.self.items others =
          tried_more c.args.budget pasts tried dead others c.push-in-NoOrder.new.self.items
          (subst (λ (k : Mended). SearchesOn c.args.budget pasts tried k c.loop-kept.found.items others) c.in-NoOrder.is
          (c.loop-kept.invariant.goes pairs calls h))
          c.in_ok-push-in-NoOrder.ensures.items in
          subst (λ (f : List Found). SearchesOn c.args.budget pasts c.push-in-NoOrder.new.self.items c.in_ok-kept.kept f c.remove.new.self.items)
          (sym found_are)
          (search_goes_on c.args.budget pasts c.push-in-NoOrder.new.self.items others c.remove.new.self.items past c.in_ok-kept.kept split
          answer so_far);
      within = lefts_next all past.map c.args.budget others c.remove.new.self.items past c.in_ok-kept.kept split answer
          (subst (λ (k : Mended). All (Contains all) (lefts_of_kept k ++ lefts others)) c.in-NoOrder.is c.loop-kept.invariant.within);
    }

pub returns-in-Order-clause-left : goal.returns-in-Order-clause-left
returns-in-Order-clause-left c =
    let all = lefts_of_kept c.args.kept ++ lefts c.args.others.items in
    subst (λ (k : Mended). All (Contains all) (lefts_of_kept k ++ lefts c.loop-kept.others.items)) c.in-Order.is c.loop-kept.invariant.within

use Rattle.memo.proofs.Common.{◌≡◌, ◌∙◌, ◌++◌, ◌∷◌, [], Bool, List, Some, Result, Ok, Err, ap, ◌↔◌, IsTrue, IfOk, IsSomeAnd, Contains}
use Rattle.memo.proofs.Common.{if◌then◌else◌, Configuration, Kept, configuration_from, changed, after_one, pairs_left, MayTake}
use Rattle.memo.proofs.Common.{configurations_from}
use Rattle.std.proofs.Common.{slice_get}
use Rattle.memo.proofs.KeptLemmas.{kept_at, all_kept, new_told, visited_told}
use Rattle.memo.proofs.memo.Memo.visit_next.Goals as goal

module _ (c : goal.After-add) where
  abbrev before : Configuration
  before = configuration_from c.self.inside.base c.index-as_slice-from.result

  abbrev next : Configuration
  next = after_one before c.args.place (pairs_left c.args.before.now c.args.call.now)

  here : slice_get c.args.self.now c.args.from ≡ Some before
  here = kept_at c.self.inside.base c.self.inside.visited.keys c.as_slice.result.now c.args.self.now c.args.from c.index-as_slice-from.result
      (λ d. MayTake d c.args.place c.args.before.now) c.self.view_is c.as_slice.ensures.keys c.index-as_slice-from.is c.requires

  may : MayTake before c.args.place c.args.before.now
  may = rw here at c.requires

  next_is : configuration_from c.self.inside.base c.follow.new.self ≡ next
  next_is =
      c.in_ok-follow.ensures.is ∙ ap (λ m. after_one before c.args.place (changed c.change_of.result m)) may.holds
      ∙ ap (after_one before c.args.place) c.change_of.ensures

pub invariant_of-self : goal.invariant_of-self
invariant_of-self c = c.self.invariant

pub invariant_of-self-2 : goal.invariant_of-self-2
invariant_of-self-2 c =
    all_kept c.self.inside.base c.self.inside.visited.keys c.follow.new.self c.add.new.visited.keys c.add.result
    c.add.ensures.visited c.add.ensures.unchanged c.self.invariant c.in_ok-follow.ensures.kept

pub returns-clause-new : goal.returns-clause-new
returns-clause-new c = told c.add.result c.add.ensures.new
  where
    told : {E : Type 0} (r : Result Bool E) → IfOk r (λ new. IsTrue new ↔ (Contains c.self.inside.visited.keys c.follow.new.self → ⊥))
        → IfOk r (λ new. IsSomeAnd (slice_get c.args.self.now c.args.from)
        (λ d. IsTrue new ↔ (Contains c.args.self.now (after_one d c.args.place (pairs_left c.args.before.now c.args.call.now)) → ⊥)))
    told (Ok new) h = rw (here c, ← c.self.view_is)
        (new_told c.self.inside.base c.self.inside.visited.keys c.follow.new.self c.add.new.visited.keys (next c) (next_is c)
        new c.self.invariant c.in_ok-follow.ensures.kept h)
    told (Err e) h = tt

pub returns-clause-visited : goal.returns-clause-visited
returns-clause-visited c = told c.add.result c.add.ensures.visited
  where
    keys : List Kept
    keys = c.self.inside.visited.keys

    told : {E : Type 0} (r : Result Bool E)
        → IfOk r (λ new. c.add.new.visited.keys ≡ (if new then keys ++ c.follow.new.self ∷ [] else keys))
        → IfOk r (λ new. IsSomeAnd (slice_get c.args.self.now c.args.from) (λ d. configurations_from c.self.inside.base c.add.new.visited.keys
        ≡ (if new then c.args.self.now ++ after_one d c.args.place (pairs_left c.args.before.now c.args.call.now) ∷ [] else c.args.self.now)))
    told (Ok new) h = rw (here c, ← c.self.view_is)
        (visited_told c.self.inside.base keys c.follow.new.self c.add.new.visited.keys (next c) (next_is c) new h)
    told (Err e) h = tt

use Rattle.std.proofs.Common.{◌≡◌, ℕ, true, false, Option, ◌+◌, ◌<◌, ◌≤◌, get_or, [], ◌∷◌, ◌++◌, Some, length, set, refl, sym}
use Rattle.std.proofs.Common.{ap, ◌∙◌}
use Rattle.std.proofs.Common.{subst, arith}
use Rattle.std.specs.Prelude.{◌⊎◌, slice_get, Contains}
use Rattle.std.proofs.lemmas.List.{length-append}
use Rattle.std.proofs.lemmas.Option.{slice_get_read, slice_get_within, same_Some}
use Rattle.memo.proofs.ConfigurationLemmas.{LeadsTo-push}
use Rattle.events.specs.declared.operation.Operation.{Operation}
use Rattle.map_object.specs.MapObject.{Contents}
use Rattle.orders.specs.Orders.{after_call}
use Rattle.search.proofs.MemoLemmas.{not_new}
use Rattle.memo.specs.Taking.{after_one, pairs_left}
use Rattle.memo.proofs.TakingLemmas.{Contains-with_place, with_place-rises}
use Rattle.search_choices.specs.Standing.{places, IsStateBut, to_try, IsPushed}
use Rattle.search_choices.specs.declared.branch.CallSearch.{CallSearch}
use Rattle.events.specs.declared.event.Call.{Call}
use Rattle.search_choices.specs.declared.branch.Branch.{Branch}
use Rattle.search_choices.proofs.StandingLemmas.{stands-push, dead-seen, to_try-push, stands-same}
use Rattle.reduced_search.proofs.standing.take.Goals as goal

-- a call that is read at its place is the one that may come next
same_call : (m n : Contents) (a b : Operation) → b ≡ a → n ≡ after_call m a.call a.response → n ≡ after_call m b.call b.response
same_call m n a b is h = subst (λ (x : Operation). n ≡ after_call m x.call x.response) (sym is) h

-- the place below which all calls are taken, after one more
low_within : {place : ℕ} {undo : Option Call} {old new : CallSearch} (p : IsPushed place undo old new)
    → new.low ≤ length (set old.taken.items place true)
low_within {place} {undo} {old} {new} p = subst (λ xs. new.low ≤ length xs) p.taken p.within

low_below : {place : ℕ} {undo : Option Call} {old new : CallSearch} (p : IsPushed place undo old new) (k : ℕ) → k < new.low
    → (k < old.low) ⊎ (get_or (set old.taken.items place true) k false ≡ true)
low_below {place} {undo} {old} {new} p k lt = subst (λ xs. (k < old.low) ⊎ (get_or xs k false ≡ true)) p.taken (p.below k lt)

more : (n : ℕ) → n + 1 + 0 ≡ n + 1
more n = omega arith

pub bounds-calls-place : goal.bounds-calls-place
bounds-calls-place g c =
    let next = c.requires.1.1.is_next in
    slice_get_within c.args.calls.now c.args.place next.call next.here

pub visit_next-requires : goal.visit_next-requires
visit_next-requires g c =
    let w = c.args.standing.now in
    let s = c.requires.1.0 in
    let next = c.requires.1.1.is_next in
    rw s.stands_at.1 (record {
      new = λ h. next.new ((s.stands_at.2.taken c.args.place).0 h);
      holds = s.stands_at.2.pairs ∙ sym s.holds;
    })

pub push-requires-clause-place : goal.push-requires-clause-place
push-requires-clause-place g c =
    let next = c.requires.1.1.is_next in
    let lt = slice_get_within c.args.calls.now c.args.place next.call next.here in
    omega (arith, lt, c.requires.1.0.marked.all)

pub push-requires-clause-low : goal.push-requires-clause-low
push-requires-clause-low g c = let marked = c.requires.1.0.marked in omega (arith, marked.all, marked.within)

pub push-requires-clause-visited : goal.push-requires-clause-visited
push-requires-clause-visited g c =
    let w = c.args.standing.now in
    let s = c.requires.1.0 in
    let config = after_one s.stands_at.0 c.args.place (pairs_left w.map c.index-calls-place.result) in
    let visited_is = rw (c.if-new.true, s.stands_at.1) at c.in_ok-new.ensures.visited in
    omega (arith, ap length visited_is, length-append w.memo (config ∷ []))

pub returns-then-new : goal.returns-then-new
returns-then-new g c =
    let calls = c.args.calls.now in
    let w = c.args.standing.now in
    let s = c.requires.1.0 in
    let of = c.requires.1.1 in
    let next = of.is_next in
    let a = c.index-calls-place.result in
    let lt = slice_get_within calls c.args.place next.call next.here in
    let here : slice_get calls c.args.place ≡ Some a = slice_get_read calls (length calls) c.args.place a refl lt c.index-calls-place.is in
    let same = same_Some next.call a (sym next.here ∙ here) in
    let after_is = same_call w.map c.take_call.new.map a next.call same c.in_ok-undo.ensures.after in
    let left_is = same_call w.map (pairs_left w.map a) a next.call same refl in
    let before = s.stands_at.0 in
    let config = after_one before c.args.place (pairs_left w.map a) in
    let pairs_before = s.stands_at.2.pairs ∙ sym s.holds in
    let leads =
    LeadsTo-push g.start calls (places w.levels.items) c.args.place next.call before config s.stands_at.2 next.here
    (with_place-rises before.taken c.args.place s.stands_at.2.rising) (Contains-with_place before.taken c.args.place)
    (left_is ∙ ap (λ m. after_call m next.call.call next.call.response) (sym pairs_before)) in
    let visited_is = rw (c.if-new.true, s.stands_at.1) at c.in_ok-new.ensures.visited in
    let p = c.in_ok-push.ensures in
    let level : Branch = record { place = c.args.place; undo = c.in_ok-undo.undo; at = w.at; rest = w.rest } in
    let n = c.push.new.standing in
    let stands =
    stands-push g.start calls w.levels.items w.at w.map w.memo w.taken.items w.low s c.args.place next config leads w.rest.items
    of level refl refl refl
    c.take_call.new.map after_is c.in_ok-undo.ensures.undo n.low (low_within p) (λ k lt. low_below p k lt) in
    let one_more : length (w.memo ++ config ∷ []) ≡ length w.memo + 1 = length-append w.memo (config ∷ []) in (
      stands-same g.start calls (w.levels.items ++ level ∷ []) n.levels.items (length w.memo) n.at c.take_call.new.map n.map
          (w.memo ++ config ∷ []) n.memo
          (set w.taken.items c.args.place true) n.taken.items n.low n.low p.levels
          (p.at ∙ omega (arith, ap length visited_is, one_more)) p.map
          (p.memo ∙ visited_is) p.taken refl stands,
      ap length (p.memo ∙ visited_is) ∙ one_more,
      ap (λ ls. to_try ls []) p.levels ∙ to_try-push w.levels.items level [] ∙ more (to_try w.levels.items w.rest.items),
    )

pub returns : goal.returns
returns g c =
    let calls = c.args.calls.now in
    let w = c.args.standing.now in
    let s = c.requires.1.0 in
    let next = c.requires.1.1.is_next in
    let a = c.index-calls-place.result in
    let lt = slice_get_within calls c.args.place next.call next.here in
    let here : slice_get calls c.args.place ≡ Some a = slice_get_read calls (length calls) c.args.place a refl lt c.index-calls-place.is in
    let same = same_Some next.call a (sym next.here ∙ here) in
    let left_is = same_call w.map (pairs_left w.map a) a next.call same refl in
    let before = s.stands_at.0 in
    let config = after_one before c.args.place (pairs_left w.map a) in
    let pairs_before = s.stands_at.2.pairs ∙ sym s.holds in
    let leads =
    LeadsTo-push g.start calls (places w.levels.items) c.args.place next.call before config s.stands_at.2 next.here
    (with_place-rises before.taken c.args.place s.stands_at.2.rising) (Contains-with_place before.taken c.args.place)
    (left_is ∙ ap (λ m. after_call m next.call.call next.call.response) (sym pairs_before)) in
    let visited_is = rw (c.if-new.false, s.stands_at.1) at c.in_ok-new.ensures.visited in
    let within : Contains w.memo config = not_new config w.memo c.in_ok-new.new (rw s.stands_at.1 at c.in_ok-new.ensures.new) c.if-new.false in (
      subst (λ vs. IsStateBut g.start calls w.levels.items w.at w.map vs w.taken.items w.low) (sym visited_is) s,
      visited_is,
      refl,
      refl,
      dead-seen g.start calls w.levels.items w.at w.map w.memo w.taken.items w.low s c.args.place next config leads within,
    )

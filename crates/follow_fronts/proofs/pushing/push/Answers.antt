use Rattle.follow_fronts.proofs.Common.{◌≡◌, ℕ, ◌<◌, ◌≤◌, true, false, Some, [], ◌∷◌, ◌++◌, length, set, get_or, refl, sym, ap, ◌∙◌, subst, arith, ◌⊎◌}
use Rattle.follow_fronts.proofs.Common.{slice_get, slice_get_read, slice_get_within, same_Some, Operation, Contents, after_call, places, IsStateBut, Level}
use Rattle.follow_fronts.proofs.StandingLemmas.{stands-push, stands-same, places-push}
use Rattle.follow_fronts.proofs.pushing.push.Goals as goal

-- a call that is read at its place is the one that may come next
same_call : (m n : Contents) (a b : Operation) → b ≡ a → n ≡ after_call m a.call a.response → n ≡ after_call m b.call b.response
same_call m n a b is h = subst (λ (x : Operation). n ≡ after_call m x.call x.response) (sym is) h

pub bounds-calls-place : goal.bounds-calls-place
bounds-calls-place c = slice_get_within c.args.calls.now c.args.place c.requires.next.call c.requires.next.here

pub mark-requires-clause-known : goal.mark-requires-clause-known
mark-requires-clause-known c =
    let lt = slice_get_within c.args.calls.now c.args.place c.requires.next.call c.requires.next.here in
    omega (arith, lt, c.requires.stands.marked.all)

pub mark-requires-clause-low : goal.mark-requires-clause-low
mark-requires-clause-low c = let marked = c.requires.stands.marked in omega (arith, marked.all, marked.within)

pub returns-clause-stands : goal.returns-clause-stands
returns-clause-stands c =
    let calls = c.args.calls.now in
    let w = c.args.front.now in
    let s = c.requires.stands in
    let next = c.requires.next in
    let a = c.index-calls-place.result in
    let lt = slice_get_within calls c.args.place next.call next.here in
    let here : slice_get calls c.args.place ≡ Some a = slice_get_read calls (length calls) c.args.place a refl lt c.index-calls-place.is in
    let same = same_Some next.call a (sym next.here ∙ here) in
    let after_is = same_call w.map c.take_call.new.map a next.call same c.in_ok-undo.ensures.after in
    let level : Level = record { place = c.args.place; undo = c.in_ok-undo.undo } in
    let m = c.mark.ensures in
    let n = c.mark.new.self in
    let low_within : n.low ≤ length (set w.taken.items c.args.place true) = subst (λ xs. n.low ≤ length xs) m.taken m.within in
    let low_below : (k : ℕ) → k < n.low → (k < w.low) ⊎ (get_or (set w.taken.items c.args.place true) k false ≡ true) =
    λ k k_lt. subst (λ xs. (k < w.low) ⊎ (get_or xs k false ≡ true)) m.taken (m.below k k_lt) in
    subst (λ start. IsStateBut start calls n.levels.items n.map n.taken.items n.low) (sym m.start)
    (stands-same w.start calls (w.levels.items ++ level ∷ []) n.levels.items c.take_call.new.map n.map (set w.taken.items c.args.place true)
    n.taken.items n.low (ap (λ v. v.items) m.levels ∙ c.in_ok-push.ensures.items) m.map m.taken
    (stands-push w.start calls w.levels.items w.map w.taken.items w.low s level next c.take_call.new.map after_is
    c.in_ok-undo.ensures.undo n.low low_within low_below))

pub returns-clause-places : goal.returns-clause-places
returns-clause-places c =
    let w = c.args.front.now in
    let level : Level = record { place = c.args.place; undo = c.in_ok-undo.undo } in
    ap (λ v. places v.items) c.mark.ensures.levels ∙ ap places c.in_ok-push.ensures.items ∙ places-push w.levels.items level

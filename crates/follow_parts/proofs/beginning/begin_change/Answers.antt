use Rattle.follow_parts.proofs.Common.{◌≡◌, ℕ, ◌+◌, ◌<◌, suc, ◌++◌, ◌∷◌, [], refl, sym, subst, arith, All, Operation, low_key, PartsView, IsShaped}
use Rattle.follow_parts.proofs.Common.{begun, IsStateOf, IsBegunIn, IsPartWith}
use Rattle.follow_parts.proofs.BegunLemmas.{same_view}
use Rattle.follow_parts.proofs.ChangeLemmas.{calls_before, change_is_shaped, change_is_state, with_same}
use Rattle.follow_parts.proofs.beginning.begin_change.Goals as goal

pub begin_in-requires-clause-last : goal.begin_in-requires-clause-last
begin_in-requires-clause-last c =
    let s = c.args.state in
    let others = c.take_part.new.parts in
    let w : IsPartWith (low_key c.args.call) s.rest s.parts c.in_ok-rest.rest others c.in_ok-rest.part =
    with_same c.low_key.result (low_key c.args.call) c.apart-rest.result.0 s.rest c.apart-rest.result.1 s.parts c.in_ok-rest.rest
    others c.in_ok-rest.part c.low_key.ensures c.apart-rest.ensures.rest c.apart-rest.ensures.parts c.in_ok-rest.ensures in
    subst (λ (n : ℕ). All (λ (a : Operation). a.inv < n) c.in_ok-rest.part.first.calls) (sym c.apart-rest.ensures.now)
    (calls_before s c.in_ok-rest.rest others c.in_ok-rest.part c.args.call w c.apart-rest.ensures.shaped)

pub invariant_of-result : goal.invariant_of-result
invariant_of-result c =
    let s = c.args.state in
    let others = c.take_part.new.parts in
    let w : IsPartWith (low_key c.args.call) s.rest s.parts c.in_ok-rest.rest others c.in_ok-rest.part =
    with_same c.low_key.result (low_key c.args.call) c.apart-rest.result.0 s.rest c.apart-rest.result.1 s.parts c.in_ok-rest.rest
    others c.in_ok-rest.part c.low_key.ensures c.apart-rest.ensures.rest c.apart-rest.ensures.parts c.in_ok-rest.ensures in
    let begun_in : IsBegunIn (begun c.args.call s.now) c.in_ok-rest.part c.begin_in.new.part =
    subst (λ (n : ℕ). IsBegunIn (begun c.args.call n) c.in_ok-rest.part c.begin_in.new.part) c.apart-rest.ensures.now
    c.in_ok-begin_in.ensures.begun in
    let now : suc s.now ≡ c.apart-rest.result.3 + 1 = omega (arith, c.apart-rest.ensures.now) in
    subst (λ (v : PartsView). IsShaped v)
    (same_view c.in_ok-rest.rest c.in_ok-rest.rest c.in_ok-parts.parts c.in_ok-parts.parts s.reads c.apart-rest.result.2 (suc s.now)
    (c.apart-rest.result.3 + 1) refl refl (sym c.apart-rest.ensures.reads) now)
    (change_is_shaped s c.in_ok-rest.rest others c.in_ok-rest.part c.args.call w c.apart-rest.ensures.shaped c.begin_in.new.part begun_in
    c.in_ok-begin_in.ensures.kept c.in_ok-parts.parts c.in_ok-parts.ensures)

pub returns-clause-state : goal.returns-clause-state
returns-clause-state c start calls state =
    let s = c.args.state in
    let others = c.take_part.new.parts in
    let w : IsPartWith (low_key c.args.call) s.rest s.parts c.in_ok-rest.rest others c.in_ok-rest.part =
    with_same c.low_key.result (low_key c.args.call) c.apart-rest.result.0 s.rest c.apart-rest.result.1 s.parts c.in_ok-rest.rest
    others c.in_ok-rest.part c.low_key.ensures c.apart-rest.ensures.rest c.apart-rest.ensures.parts c.in_ok-rest.ensures in
    let begun_in : IsBegunIn (begun c.args.call s.now) c.in_ok-rest.part c.begin_in.new.part =
    subst (λ (n : ℕ). IsBegunIn (begun c.args.call n) c.in_ok-rest.part c.begin_in.new.part) c.apart-rest.ensures.now
    c.in_ok-begin_in.ensures.begun in
    let now : suc s.now ≡ c.apart-rest.result.3 + 1 = omega (arith, c.apart-rest.ensures.now) in
    subst (λ (v : PartsView). IsStateOf start (calls ++ begun c.args.call s.now ∷ []) v)
    (same_view c.in_ok-rest.rest c.in_ok-rest.rest c.in_ok-parts.parts c.in_ok-parts.parts s.reads c.apart-rest.result.2 (suc s.now)
    (c.apart-rest.result.3 + 1) refl refl (sym c.apart-rest.ensures.reads) now)
    (change_is_state s c.in_ok-rest.rest others c.in_ok-rest.part c.args.call w c.apart-rest.ensures.shaped c.begin_in.new.part begun_in
    c.in_ok-begin_in.ensures.kept c.in_ok-parts.parts c.in_ok-parts.ensures c.requires.changes start calls state)

use Rattle.search_choices.proofs.Common.{[], ◌∷◌, ◌++◌, take, get_or, sym, ap, ◌∙◌, subst, take_more, places, IsReduced}
use Rattle.search_choices.proofs.StandingLemmas.{reduced-keep, reduced-leave}
use Rattle.search_choices.proofs.choosing.hopeful.Goals.{then-not-is_futile+in_ok-push, else-not-is_futile}
use Rattle.search_choices.proofs.choosing.hopeful.Goals as goal

pub loop-place-preserved : goal.loop-place-preserved
loop-place-preserved g c =
    let calls = c.args.calls.now in
    let path = places c.args.standing.now.levels.items in
    let next = c.args.next.now in
    let i = c.loop-place.place-index in
    let n = get_or next i 0 in
    let rest = c.loop-place.rest.items in
    let more = c.if-not-is_futile.rest.items in
    subst (λ xs. IsReduced g.start calls path xs more) (sym (take_more next i 0 c.loop-place-test.true))
    (elim c.if-not-is_futile.branch [
      | then-not-is_futile+in_ok-push w ↦ reduced-keep g.start calls path (take i next) rest more n
          (ap (λ v. v.items) w.rest-is ∙ w.in_ok-push.ensures.items) c.loop-place.invariant
      | else-not-is_futile w ↦ subst (IsReduced g.start calls path (take i next ++ n ∷ [])) (sym (ap (λ v. v.items) w.rest-is))
          (reduced-leave g.start calls path (take i next) rest n (c.is_futile.ensures w.if-not-is_futile.false) c.loop-place.invariant)
    ])

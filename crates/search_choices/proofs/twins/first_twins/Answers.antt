use Rattle.search_choices.proofs.Common.{[], ◌∷◌, ◌++◌, take, get_or, sym, ap, ◌∙◌, subst, take_more}
use Rattle.search_choices.specs.Twins.{AreFirstTwins, HasTwin}
use Rattle.search_choices.proofs.TwinLemmas.{first_twins-keep, first_twins-leave}
use Rattle.search_choices.proofs.twins.first_twins.Goals.{then-not-has_twin+in_ok-push, else-not-has_twin}
use Rattle.search_choices.proofs.twins.first_twins.Goals as goal

pub loop-place-preserved : goal.loop-place-preserved
loop-place-preserved c =
    let calls = c.args.calls.now in
    let next = c.args.next.now in
    let i = c.loop-place.place-index in
    let n = get_or next i 0 in
    let firsts = c.loop-place.firsts.items in
    let more = c.if-not-has_twin.firsts.items in
    subst (λ xs. AreFirstTwins calls xs more) (sym (take_more next i 0 c.loop-place-test.true))
    (elim c.if-not-has_twin.branch [
      | then-not-has_twin+in_ok-push w ↦ first_twins-keep calls (take i next) firsts more n
          (ap (λ v. v.items) w.firsts-is ∙ w.in_ok-push.ensures.items) c.loop-place.invariant
      | else-not-has_twin w ↦ subst (AreFirstTwins calls (take i next ++ n ∷ [])) (sym (ap (λ v. v.items) w.firsts-is))
          (first_twins-leave calls (take i next) firsts n
          (subst (λ xs. HasTwin calls xs n) c.deref.ensures.value (c.has_twin.ensures w.if-not-has_twin.false)) c.loop-place.invariant)
    ])

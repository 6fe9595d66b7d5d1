use Rattle.follow_cuts.proofs.Common.{◌<◌, ◌∙◌, [], ◌∷◌, ◌++◌, false, length, ap, refl, sym, arith, get_or_read, slice_get_read}
use Rattle.follow_cuts.proofs.MadeLemmas.{left_skip, left_push}
use Rattle.follow_cuts.proofs.cut.past_of.Goals.{then-not-index+in_ok-copy+in_ok-push, else-not-index}
use Rattle.follow_cuts.proofs.cut.past_of.Goals as goal

pub loop-place-preserved : goal.loop-place-preserved
loop-place-preserved c =
    let calls = c.args.calls.now in
    let taken = c.args.position.now.taken.items in
    let n = c.loop-place.place in
    let x = c.index.result.now in
    let within : n < length taken = omega (arith, c.loop-place-test.true, c.requires) in
    elim c.if-not-index.branch [
      | then-not-index+in_ok-copy+in_ok-push w ↦ left_push calls taken n w.index-calls-place.result c.loop-place.left.items c.if-not-index.left.items
          c.requires
          (slice_get_read calls (length calls) n w.index-calls-place.result refl c.loop-place-test.true w.index-calls-place.is)
          (sym (get_or_read taken n x within c.index.ensures false) ∙ w.if-not-index.true)
          (ap (λ v. v.items) w.left-is ∙ (w.in_ok-push.ensures.items ∙ ap (λ p. c.loop-place.left.items ++ p ∷ []) w.in_ok-copy.ensures))
          c.loop-place.invariant
      | else-not-index w ↦ ap (λ v. v.items) w.left-is
          ∙ left_skip calls taken n c.loop-place.left.items c.requires
          (sym (get_or_read taken n x within c.index.ensures false) ∙ w.if-not-index.false) c.loop-place.invariant
    ]

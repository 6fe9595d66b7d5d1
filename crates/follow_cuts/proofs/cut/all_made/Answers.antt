use Rattle.follow_cuts.proofs.Common.{◌≡◌, List, Some, length, refl, sym, ap, ◌∙◌, subst, Contains, slice_get, slice_get_read, All-at, Operation}
use Rattle.follow_cuts.proofs.Common.{AreKeptAlike, kept_of, IsFrom, IsPastAt, Past}
use Rattle.follow_cuts.proofs.MadeLemmas.{made_push, made_skip}
use Rattle.follow_cuts.proofs.WalkLemmas.{past_there}
use Rattle.follow_cuts.proofs.cut.all_made.Goals.{then-not-is_among+in_ok-push, else-not-is_among}
use Rattle.follow_cuts.proofs.cut.all_made.Goals as goal

pub loop-position-preserved : goal.loop-position-preserved
loop-position-preserved c =
    let pasts = c.args.pasts.now in
    let positions = c.args.positions.now in
    let n = c.loop-position.position-index in
    let position = c.position-item.result in
    let past = c.index-pasts-position.result in
    let new = c.in_ok-past.past in
    let old = c.loop-position.made.items in
    let at : slice_get positions n ≡ Some position =
    slice_get_read positions (length positions) n position refl c.loop-position-test.true c.position-item.is in
    let here : slice_get pasts position.base ≡ Some past =
    slice_get_read pasts (length pasts) position.base past refl
    (past_there pasts position (All-at (IsFrom pasts) positions n position c.requires.from_past at)) c.index-pasts-position.is in
    let is : IsPastAt past.calls.items position new =
    subst (λ (l : List Operation). IsPastAt l position new)
    (c.deref.ensures.value ∙ ap (λ (p : Past). p.calls.items) (sym c.index-pasts-position.is)) c.in_ok-past.ensures in
    elim c.if-not-is_among.branch [
      | then-not-is_among+in_ok-push w ↦ made_push pasts positions n position past new old c.if-not-is_among.made.items at here c.requires.shaped is
          (ap (λ v. v.items) w.made-is ∙ w.in_ok-push.ensures.items) c.loop-position.invariant
      | else-not-is_among w ↦ made_skip pasts positions n position past new old c.if-not-is_among.made.items at here is (ap (λ v. v.items) w.made-is)
          (subst (λ (l : List Past). (other : Past) × Contains l other × AreKeptAlike (kept_of new) (kept_of other))
          c.deref-in-loop-position.ensures.value (c.is_among.ensures w.if-not-is_among.false)) c.loop-position.invariant
    ]

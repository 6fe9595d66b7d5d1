use Rattle.follow_cuts.proofs.Common.{AreTaken, Bool, ◌≡◌, ◌<◌, ◌≤◌, Some, List, false, get_or, length, refl, sym, ap, ◌∙◌, subst, arith, slice_get, both_ways}
use Rattle.follow_cuts.proofs.Common.{slice_get_read, slice_get_within, get_or_from_slice_get, All-at, Operation, Past}
use Rattle.follow_cuts.proofs.EndLemmas.{begins_later}
use Rattle.follow_cuts.proofs.MadeLemmas.{IsShaped}
use Rattle.follow_cuts.proofs.WalkLemmas.{IsBranchedBelow, branched_none, branched_skip, branched_taken, branched_more, branched_all, marks_here, past_there}
use Rattle.follow_cuts.proofs.stepping.branch_by.Goals.{then-is_branch+in_ok-after+in_ok-take+in_ok-add_new, else-is_branch}
use Rattle.follow_cuts.proofs.stepping.branch_by.Goals as goal

pub loop-place-init : goal.loop-place-init
loop-place-init c =
    branched_none c.args.pasts.now c.args.branching.now c.as_slice-calls.result.now c.args.position.now c.args.next.now.items c.requires.next_from

pub is_branch-requires-clause-marks : goal.is_branch-requires-clause-marks
is_branch-requires-clause-marks c =
    let pasts = c.args.pasts.now in
    let past = c.index-pasts-position.result in
    let base = c.args.position.now.base in
    let here : slice_get pasts base ≡ Some past =
    slice_get_read pasts (length pasts) base past refl (past_there pasts c.args.position.now c.requires.from_past) c.index-pasts-position.is in
    marks_here pasts past c.args.position.now here c.requires.from_past ∙ ap length (sym (c.as_slice-calls.ensures.value ∙ ap (λ (p : Past). p.calls.items) (sym c.index-pasts-position.is)))

pub loop-place-preserved-then-index : goal.loop-place-preserved-then-index
loop-place-preserved-then-index c =
    branched_taken c.args.pasts.now c.args.branching.now c.as_slice-calls.result.now c.args.position.now c.loop-place.place
    c.after_taken-place.result c.args.next.now.items c.loop-place.next.items (subst (λ (l : List Bool). AreTaken l c.loop-place.place c.after_taken-place.result)
    (c.deref.ensures.value) c.after_taken-place.ensures) c.loop-place.invariant

pub take-requires : goal.take-requires
take-requires c =
    let pasts = c.args.pasts.now in
    let past = c.index-pasts-position.result in
    let position = c.args.position.now in
    let calls = c.as_slice-calls.result.now in
    let here : slice_get pasts position.base ≡ Some past =
    slice_get_read pasts (length pasts) position.base past refl (past_there pasts position c.requires.from_past) c.index-pasts-position.is in
    let same : calls ≡ past.calls.items = c.as_slice-calls.ensures.value ∙ ap (λ (p : Past). p.calls.items) (sym c.index-pasts-position.is) in
    let marks : length position.taken.items ≡ length calls = marks_here pasts past position here c.requires.from_past ∙ ap length (sym same) in
    omega (arith, c.loop-place-test.true, marks, ap length c.in_ok-after.ensures.taken)

pub returns-then-branching-calls : goal.returns-then-branching-calls
returns-then-branching-calls c =
    let pasts = c.args.pasts.now in
    let past = c.index-pasts-position.result in
    let position = c.args.position.now in
    let calls = c.as_slice-calls.result.now in
    let n = c.loop-place.place in
    let a = c.index-calls-place.result in
    let here : slice_get pasts position.base ≡ Some past =
    slice_get_read pasts (length pasts) position.base past refl (past_there pasts position c.requires.from_past) c.index-pasts-position.is in
    let at : slice_get past.calls.items n ≡ Some a =
    subst (λ (l : List Operation). slice_get l n ≡ Some a) (c.as_slice-calls.ensures.value ∙ ap (λ (p : Past). p.calls.items) (sym c.index-pasts-position.is))
    (slice_get_read calls (length calls) n a refl c.loop-place-test.true c.index-calls-place.is) in
    branched_all pasts past c.args.branching.now position n c.args.next.now.items c.loop-place.next.items here
    (λ m ge may.
    let later : a.inv ≤ may.may.call.inv =
    begins_later past.calls.items n m a may.may.call (All-at IsShaped pasts position.base past c.requires.shaped here).0 ge at may.may.is_left.here in
    let late : c.args.branching.now.answered < a.inv =
    subst (λ (p : Operation). c.args.branching.now.answered < p.inv) (sym c.index-calls-place.is) c.if-branching-calls.true in
    omega (arith, later, may.may.early, late))
    (subst (λ (l : List Operation). IsBranchedBelow pasts c.args.branching.now l position n c.args.next.now.items c.loop-place.next.items)
    (c.as_slice-calls.ensures.value ∙ ap (λ (p : Past). p.calls.items) (sym c.index-pasts-position.is)) c.loop-place.invariant)

pub returns : goal.returns
returns c =
    let pasts = c.args.pasts.now in
    let past = c.index-pasts-position.result in
    let position = c.args.position.now in
    let calls = c.as_slice-calls.result.now in
    let n = c.loop-place.place in
    let here : slice_get pasts position.base ≡ Some past =
    slice_get_read pasts (length pasts) position.base past refl (past_there pasts position c.requires.from_past) c.index-pasts-position.is in
    branched_all pasts past c.args.branching.now position n c.args.next.now.items c.loop-place.next.items here
    (λ m ge may.
    let within : m < length past.calls.items = slice_get_within past.calls.items m may.may.call may.may.is_left.here in
    omega (arith, within, ge, c.loop-place-test.false, ap length (c.as_slice-calls.ensures.value ∙ ap (λ (p : Past). p.calls.items) (sym c.index-pasts-position.is))))
    (subst (λ (l : List Operation). IsBranchedBelow pasts c.args.branching.now l position n c.args.next.now.items c.loop-place.next.items)
    (c.as_slice-calls.ensures.value ∙ ap (λ (p : Past). p.calls.items) (sym c.index-pasts-position.is)) c.loop-place.invariant)

pub loop-place-preserved : goal.loop-place-preserved
loop-place-preserved c =
    let pasts = c.args.pasts.now in
    let past = c.index-pasts-position.result in
    let position = c.args.position.now in
    let calls = c.as_slice-calls.result.now in
    let n = c.loop-place.place in
    let here : slice_get pasts position.base ≡ Some past =
    slice_get_read pasts (length pasts) position.base past refl (past_there pasts position c.requires.from_past) c.index-pasts-position.is in
    let same : calls ≡ past.calls.items = c.as_slice-calls.ensures.value ∙ ap (λ (p : Past). p.calls.items) (sym c.index-pasts-position.is) in
    elim c.if-is_branch.branch [
      | then-is_branch+in_ok-after+in_ok-take+in_ok-add_new w ↦ rw w.next-is
          (let a = w.index-calls-place-then-is_branch.result in
          branched_more pasts past calls c.args.branching.now position w.in_ok-after.after w.take.new.position a n c.args.next.now.items
          c.loop-place.next.items w.add_new.new.positions.items same here
          (All-at IsShaped pasts position.base past c.requires.shaped here).0 c.requires.from_past
          (slice_get_read calls (length calls) n a refl c.loop-place-test.true w.index-calls-place-then-is_branch.is)
          (c.is_branch.ensures.0 w.if-is_branch.true) w.in_ok-after.ensures w.in_ok-take.ensures w.in_ok-add_new.ensures c.loop-place.invariant)
      | else-is_branch w ↦ rw w.next-is
          (branched_skip pasts c.args.branching.now calls position n c.args.next.now.items c.loop-place.next.items
          (λ may. both_ways c.is_branch.result w.if-is_branch.false (c.is_branch.ensures.1 may)) c.loop-place.invariant)
    ]

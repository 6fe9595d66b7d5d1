use Rattle.follow_cuts.proofs.Common.{◌≡◌, ◌<◌, List, Some, length, refl, sym, ap, ◌∙◌, subst, slice_get, AllPairs, slice_get_read, on_ok_weaker}
use Rattle.follow_cuts.proofs.Common.{All-at, Operation, Past, IsFirstEnded, IsBranching, kept_at, calls_of}
use Rattle.follow_cuts.proofs.MadeLemmas.{IsShaped}
use Rattle.follow_cuts.proofs.WalkLemmas.{past_there, marks_here, branches_become}
use Rattle.follow_cuts.proofs.stepping.branch.Goals as goal

pub branching_at-requires-clause-rising : goal.branching_at-requires-clause-rising
branching_at-requires-clause-rising c =
    let pasts = c.args.pasts.now in
    let position = c.args.position.now in
    let past = c.index-pasts-position.result in
    let calls = c.as_slice-calls.result.now in
    let here : slice_get pasts position.base ≡ Some past =
    slice_get_read pasts (length pasts) position.base past refl (past_there pasts position c.requires.from_past) c.index-pasts-position.is in
    let same : calls ≡ past.calls.items = c.as_slice-calls.ensures.value ∙ ap (λ (p : Past). p.calls.items) (sym c.index-pasts-position.is) in
    subst (λ (l : List Operation). AllPairs (λ a b. a.inv < b.inv) l) (sym same) (All-at IsShaped pasts position.base past c.requires.shaped here).0

pub branching_at-requires-clause-marks : goal.branching_at-requires-clause-marks
branching_at-requires-clause-marks c =
    let pasts = c.args.pasts.now in
    let position = c.args.position.now in
    let past = c.index-pasts-position.result in
    let calls = c.as_slice-calls.result.now in
    let here : slice_get pasts position.base ≡ Some past =
    slice_get_read pasts (length pasts) position.base past refl (past_there pasts position c.requires.from_past) c.index-pasts-position.is in
    let same : calls ≡ past.calls.items = c.as_slice-calls.ensures.value ∙ ap (λ (p : Past). p.calls.items) (sym c.index-pasts-position.is) in
    marks_here pasts past position here c.requires.from_past ∙ ap length (sym same)

pub branching_at-requires-clause-first : goal.branching_at-requires-clause-first
branching_at-requires-clause-first c =
    let pasts = c.args.pasts.now in
    let position = c.args.position.now in
    let past = c.index-pasts-position.result in
    let calls = c.as_slice-calls.result.now in
    let here : slice_get pasts position.base ≡ Some past =
    slice_get_read pasts (length pasts) position.base past refl (past_there pasts position c.requires.from_past) c.index-pasts-position.is in
    let same : calls ≡ past.calls.items = c.as_slice-calls.ensures.value ∙ ap (λ (p : Past). p.calls.items) (sym c.index-pasts-position.is) in
    subst (λ (l : List Operation). IsFirstEnded l position.taken.items c.args.place c.args.answered) (ap calls_of here ∙ sym same) c.requires.first

pub returns : goal.returns
returns c =
    let pasts = c.args.pasts.now in
    let position = c.args.position.now in
    let past = c.index-pasts-position.result in
    let calls = c.as_slice-calls.result.now in
    let here : slice_get pasts position.base ≡ Some past =
    slice_get_read pasts (length pasts) position.base past refl (past_there pasts position c.requires.from_past) c.index-pasts-position.is in
    let same : calls ≡ past.calls.items = c.as_slice-calls.ensures.value ∙ ap (λ (p : Past). p.calls.items) (sym c.index-pasts-position.is) in
    let b = c.in_ok-branching.branching in
    on_ok_weaker c.branch_by.result
    (λ branched. branches_become pasts past c.args.answered b position c.args.next.now.items c.branch_by.new.next.items here
    c.in_ok-branching.ensures.answer
    (subst (λ (l : List Operation). IsBranching (kept_at l position) b) same c.in_ok-branching.ensures.branching) branched)
    c.branch_by.ensures

use Rattle.follow_cuts.proofs.Common.{◌≡◌, ◌<◌, Bool, false, Some, List, length, refl, sym, ap, ◌∙◌, subst, arith, slice_get, All, AllPairs}
use Rattle.follow_cuts.proofs.Common.{slice_get_read, slice_get_within, on_ok_weaker, All-at, Operation, is_before, NonePrecedesItself, Past, Position}
use Rattle.follow_cuts.proofs.Common.{left_of, IsAdded, AreAdded}
use Rattle.follow_cuts.proofs.MadeLemmas.{IsShaped}
use Rattle.follow_cuts.proofs.WalkLemmas.{IsOnTheWay, past_there, way_marks, way_on, gone_to_end, gone_to_next, gone_by_branches, first_in}
use Rattle.follow_cuts.proofs.EndLemmas.{cut_left}
use Rattle.follow_cuts.proofs.levels.go_on.Goals.{else-loop-test}
use Rattle.follow_cuts.proofs.levels.go_on.Goals.{then-loop-test+in-Some+in-Some-next_read+in_ok-take-in-Some-next_read+else-counter-end}
use Rattle.follow_cuts.proofs.levels.go_on.Goals as goal

pub first_ended-requires-clause-rising : goal.first_ended-requires-clause-rising
first_ended-requires-clause-rising c =
    let pasts = c.args.pasts.now in
    let start = c.args.position in
    let past = c.index-pasts-position.result in
    let calls = c.as_slice-calls.result.now in
    let there : slice_get pasts start.base ≡ Some past =
    slice_get_read pasts (length pasts) start.base past refl (past_there pasts start c.requires.from_past) c.index-pasts-position.is in
    let same : calls ≡ past.calls.items = c.as_slice-calls.ensures.value ∙ ap (λ (p : Past). p.calls.items) (sym c.index-pasts-position.is) in
    subst (λ (l : List Operation). AllPairs (λ a b. a.inv < b.inv) l) (sym same) (All-at IsShaped pasts start.base past c.requires.shaped there).0

pub first_ended-requires-clause-apart : goal.first_ended-requires-clause-apart
first_ended-requires-clause-apart c =
    let pasts = c.args.pasts.now in
    let start = c.args.position in
    let past = c.index-pasts-position.result in
    let calls = c.as_slice-calls.result.now in
    let there : slice_get pasts start.base ≡ Some past =
    slice_get_read pasts (length pasts) start.base past refl (past_there pasts start c.requires.from_past) c.index-pasts-position.is in
    let same : calls ≡ past.calls.items = c.as_slice-calls.ensures.value ∙ ap (λ (p : Past). p.calls.items) (sym c.index-pasts-position.is) in
    subst NonePrecedesItself (sym same) (All-at IsShaped pasts start.base past c.requires.shaped there).1

pub first_ended-requires-clause-marks : goal.first_ended-requires-clause-marks
first_ended-requires-clause-marks c =
    let pasts = c.args.pasts.now in
    let start = c.args.position in
    let past = c.index-pasts-position.result in
    let calls = c.as_slice-calls.result.now in
    let there : slice_get pasts start.base ≡ Some past =
    slice_get_read pasts (length pasts) start.base past refl (past_there pasts start c.requires.from_past) c.index-pasts-position.is in
    let same : calls ≡ past.calls.items = c.as_slice-calls.ensures.value ∙ ap (λ (p : Past). p.calls.items) (sym c.index-pasts-position.is) in
    ap length c.deref.ensures.value ∙ way_marks pasts past c.args.moment calls start c.loop.position same there c.loop.invariant.way

pub returns-in_default : goal.returns-in_default
returns-in_default c =
    let pasts = c.args.pasts.now in
    let start = c.args.position in
    let past = c.index-pasts-position.result in
    let calls = c.as_slice-calls.result.now in
    let there : slice_get pasts start.base ≡ Some past =
    slice_get_read pasts (length pasts) start.base past refl (past_there pasts start c.requires.from_past) c.index-pasts-position.is in
    let same : calls ≡ past.calls.items = c.as_slice-calls.ensures.value ∙ ap (λ (p : Past). p.calls.items) (sym c.index-pasts-position.is) in
    let now = c.loop.position in
    let newly = c.add_new.new.positions.items in
    rw c.loop.invariant.next
    (gone_to_end pasts past c.args.moment start now c.args.next.now.items c.args.ended.now.items newly there c.loop.invariant.way
    (subst (λ (l : List Operation). All (λ o. is_before o.response c.args.moment ≡ false) (left_of l now.taken.items)) same
    (subst (λ (t : List Bool). All (λ o. is_before o.response c.args.moment ≡ false) (left_of calls t)) c.deref.ensures.value
    (cut_left c.args.moment calls c.deref.result.now c.in_default.ensures)))
    (subst (λ (l : List Position). IsAdded l now newly) c.loop.invariant.ended c.in_ok-add_new.ensures) c.requires.next_from c.requires.are_ended)

pub next_read-requires : goal.next_read-requires
next_read-requires c =
    let pasts = c.args.pasts.now in
    let start = c.args.position in
    let past = c.index-pasts-position.result in
    let calls = c.as_slice-calls.result.now in
    let there : slice_get pasts start.base ≡ Some past =
    slice_get_read pasts (length pasts) start.base past refl (past_there pasts start c.requires.from_past) c.index-pasts-position.is in
    let same : calls ≡ past.calls.items = c.as_slice-calls.ensures.value ∙ ap (λ (p : Past). p.calls.items) (sym c.index-pasts-position.is) in
    record { marks = way_marks pasts past c.args.moment calls start c.loop.position same there c.loop.invariant.way }

pub bounds-calls-read : goal.bounds-calls-read
bounds-calls-read c =
    let calls = c.as_slice-calls.result.now in
    let place = c.in-Some-next_read.read in
    let is_read = c.in-Some-next_read.ensures in
    slice_get_within calls place is_read.may.call is_read.may.is_left.here

pub take-requires : goal.take-requires
take-requires c =
    let pasts = c.args.pasts.now in
    let start = c.args.position in
    let past = c.index-pasts-position.result in
    let calls = c.as_slice-calls.result.now in
    let there : slice_get pasts start.base ≡ Some past =
    slice_get_read pasts (length pasts) start.base past refl (past_there pasts start c.requires.from_past) c.index-pasts-position.is in
    let same : calls ≡ past.calls.items = c.as_slice-calls.ensures.value ∙ ap (λ (p : Past). p.calls.items) (sym c.index-pasts-position.is) in
    let marks : length c.loop.position.taken.items ≡ length calls =
    way_marks pasts past c.args.moment calls start c.loop.position same there c.loop.invariant.way in
    let place = c.in-Some-next_read.read in
    let is_read = c.in-Some-next_read.ensures in
    let within : place < length calls = slice_get_within calls place is_read.may.call is_read.may.is_left.here in
    omega (arith, within, marks)

pub returns-in-None : goal.returns-in-None
returns-in-None c =
    let pasts = c.args.pasts.now in
    let start = c.args.position in
    let past = c.index-pasts-position.result in
    let calls = c.as_slice-calls.result.now in
    let there : slice_get pasts start.base ≡ Some past =
    slice_get_read pasts (length pasts) start.base past refl (past_there pasts start c.requires.from_past) c.index-pasts-position.is in
    let same : calls ≡ past.calls.items = c.as_slice-calls.ensures.value ∙ ap (λ (p : Past). p.calls.items) (sym c.index-pasts-position.is) in
    let now = c.loop.position in
    let more = c.branch-alloc.new.next.items in
    rw c.loop.invariant.ended
    (on_ok_weaker c.branch-alloc.result
    (λ branched. gone_by_branches pasts c.args.moment c.in-Some.answered start now c.args.next.now.items more c.args.ended.now.items
    c.loop.invariant.way c.in-Some.ensures.1
    (branched.0, branched.1, subst (λ (l : List Position). AreAdded pasts branched.0 l more) c.loop.invariant.next branched.2)
    c.requires.are_ended)
    c.branch-alloc.ensures)

pub branch-alloc-requires-clause-first : goal.branch-alloc-requires-clause-first
branch-alloc-requires-clause-first c =
    let pasts = c.args.pasts.now in
    let start = c.args.position in
    let past = c.index-pasts-position.result in
    let calls = c.as_slice-calls.result.now in
    let there : slice_get pasts start.base ≡ Some past =
    slice_get_read pasts (length pasts) start.base past refl (past_there pasts start c.requires.from_past) c.index-pasts-position.is in
    let same : calls ≡ past.calls.items = c.as_slice-calls.ensures.value ∙ ap (λ (p : Past). p.calls.items) (sym c.index-pasts-position.is) in
    first_in pasts past c.args.moment calls c.deref.result.now c.in-Some.place c.in-Some.answered start c.loop.position same c.deref.ensures.value
    there c.loop.invariant.way c.in-Some.ensures.0

pub loop-preserved : goal.loop-preserved
loop-preserved c =
    let pasts = c.args.pasts.now in
    let start = c.args.position in
    let past = c.index-pasts-position.result in
    let calls = c.as_slice-calls.result.now in
    let there : slice_get pasts start.base ≡ Some past =
    slice_get_read pasts (length pasts) start.base past refl (past_there pasts start c.requires.from_past) c.index-pasts-position.is in
    let same : calls ≡ past.calls.items = c.as_slice-calls.ensures.value ∙ ap (λ (p : Past). p.calls.items) (sym c.index-pasts-position.is) in
    let place = c.in-Some-next_read.read in
    let o = c.index-calls-read.result in
    let is_read = c.in-Some-next_read.ensures in
    let within : place < length calls = slice_get_within calls place is_read.may.call is_read.may.is_left.here in
    record {
      way = way_on pasts past c.args.moment calls c.deref.result.now c.in-Some.place c.in-Some.answered start c.loop.position c.take.new.position place o same
          c.deref.ensures.value there (All-at IsShaped pasts start.base past c.requires.shaped there).0 c.in-Some.ensures is_read
          (slice_get_read calls (length calls) place o refl within c.index-calls-read.is) c.in_ok-take-in-Some-next_read.ensures c.loop.invariant.way;
      next = c.loop.invariant.next;
      ended = c.loop.invariant.ended;
    }

pub returns : goal.returns
returns c =
    let pasts = c.args.pasts.now in
    let start = c.args.position in
    let past = c.index-pasts-position.result in
    let calls = c.as_slice-calls.result.now in
    let there : slice_get pasts start.base ≡ Some past =
    slice_get_read pasts (length pasts) start.base past refl (past_there pasts start c.requires.from_past) c.index-pasts-position.is in
    let same : calls ≡ past.calls.items = c.as_slice-calls.ensures.value ∙ ap (λ (p : Past). p.calls.items) (sym c.index-pasts-position.is) in
    let now = c.loop-test.position in
    let more = c.add_new-2.new.positions.items in
    let way : IsOnTheWay pasts c.args.moment start now = elim c.loop-test.branch [
      | else-loop-test w ↦ rw w.position-is c.loop.invariant.way
      | then-loop-test+in-Some+in-Some-next_read+in_ok-take-in-Some-next_read+else-counter-end w ↦ rw w.position-is
          (let place = w.in-Some-next_read.read in
          let o = w.index-calls-read.result in
          let is_read = w.in-Some-next_read.ensures in
          let within : place < length calls = slice_get_within calls place is_read.may.call is_read.may.is_left.here in
          way_on pasts past c.args.moment calls w.deref.result.now w.in-Some.place w.in-Some.answered start c.loop.position w.take.new.position place o same
          w.deref.ensures.value there (All-at IsShaped pasts start.base past c.requires.shaped there).0 w.in-Some.ensures is_read
          (slice_get_read calls (length calls) place o refl within w.index-calls-read.is) w.in_ok-take-in-Some-next_read.ensures c.loop.invariant.way)
    ] in
    rw c.loop.invariant.ended
    (gone_to_next pasts c.args.moment start now c.args.next.now.items more c.args.ended.now.items way
    (subst (λ (l : List Position). IsAdded l now more) c.loop.invariant.next c.in_ok-add_new-2.ensures) c.requires.next_from c.requires.are_ended)

pub offset_bounds-calls-read : goal.offset_bounds-calls-read
offset_bounds-calls-read c =
    let calls = c.as_slice-calls.result.now in
    let place = c.in-Some-next_read.read in
    let is_read = c.in-Some-next_read.ensures in
    let within : place < length calls = slice_get_within calls place is_read.may.call is_read.may.is_left.here in
    omega (arith, within, c.as_slice-calls.ensures.len)

use Rattle.search_choices.proofs.Common.{◌≡◌, Some, length, refl, slice_get, slice_get_read, places}
use Rattle.search_choices.proofs.FirstKeyLemmas.{all_miss-taken, all_miss-more, all_miss-late, all_miss-all}
use Rattle.search_choices.proofs.first_keys.tied_scan.Goals.{else-not-is_taken-via-then-not-is_taken+else-is_tied}
use Rattle.search_choices.proofs.first_keys.tied_scan.Goals.{else-not-is_taken-via-else-not-is_taken}
use Rattle.search_choices.proofs.first_keys.tied_scan.Goals as goal

pub returns-then-answered-call-clause-none : goal.returns-then-answered-call-clause-none
returns-then-answered-call-clause-none g c =
    let calls = c.args.calls.now in
    let i = c.loop-place.place in
    let a = c.index-calls-place.result in
    let here : slice_get calls i ≡ Some a = slice_get_read calls (length calls) i a refl c.loop-place-test.true c.index-calls-place.is in
    all_miss-late c.args.standing.now.map calls (places c.args.standing.now.levels.items) c.args.answered c.args.keys.now i a c.requires.1 here
    c.if-answered-call.true c.loop-place.invariant

pub loop-place-preserved : goal.loop-place-preserved
loop-place-preserved g c =
    let calls = c.args.calls.now in
    let path = places c.args.standing.now.levels.items in
    let m = c.args.standing.now.map in
    let keys = c.args.keys.now in
    let i = c.loop-place.place in
    let a = c.index-calls-place.result in
    let here : slice_get calls i ≡ Some a = slice_get_read calls (length calls) i a refl c.loop-place-test.true c.index-calls-place.is in
    elim c.else-not-is_taken.branch [
      | else-not-is_taken-via-then-not-is_taken+else-is_tied w ↦ all_miss-more m calls path c.args.answered keys i a here
          (w.is_tied.ensures w.if-is_tied.false) c.loop-place.invariant
      | else-not-is_taken-via-else-not-is_taken w ↦ all_miss-taken m calls path c.args.answered keys i
          (c.is_taken.ensures.0 w.if-not-is_taken.false) c.loop-place.invariant
    ]

pub returns-clause-none : goal.returns-clause-none
returns-clause-none g c =
    all_miss-all c.args.standing.now.map c.args.calls.now (places c.args.standing.now.levels.items) c.args.answered c.args.keys.now
    c.loop-place.place c.loop-place-test.false c.loop-place.invariant

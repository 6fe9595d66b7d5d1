-- The values before the one at hand spell the pairs so far.
use Rattle.history_text.proofs.Common.{◌≡◌, ◌+◌, ◌∷◌, ◌++◌, length, map, drop, err_from_is_err_and, view, pair_data}
use Rattle.history_text.proofs.ValueFaultLemmas.{pairs_before, pairs_and_value, pair_fault_alone, pair_fault_on_taking}
use Rattle.history_text.proofs.read_text.start_of.Goals.{After-starting_pair}
use Rattle.history_text.proofs.read_text.start_of.Goals as goal

module _ (c : After-starting_pair) where
  size : length c.loop-place.turns.start ≡ c.loop-place.place
  size = pairs_before c.args.items.now c.loop-place.turns.start c.loop-place.place c.loop-place-test.true
      c.loop-place.invariant.spelled

  parts : map view c.args.items.now ≡ map pair_data c.loop-place.turns.start ++ view c.index-items-place.result ∷ map view
      (drop (c.loop-place.place + 1) c.args.items.now)
  parts = pairs_and_value c.args.items.now c.loop-place.turns.start c.loop-place.place c.index-items-place.result c.loop-place-test.true
      c.index-items-place.is c.loop-place.invariant.spelled

pub returns-in_err-pair-clause-refused : goal.returns-in_err-pair-clause-refused
returns-in_err-pair-clause-refused c =
    let p = err_from_is_err_and c.from_residual.result c.from_residual.ensures.1 in
    let here = (goal.at.returns-in_err-pair-clause-refused c).After-starting_pair in
    rw (p.1, p.2)
    (pair_fault_alone c.loop-place.turns.start (view c.index-items-place.result) c.in_err-pair.field-0.0
    (rw (size here) c.in_err-pair.ensures.refused) _ _
    (parts here) c.loop-place.invariant.history.start)

pub returns-in_err-take_pair-clause-refused : goal.returns-in_err-take_pair-clause-refused
returns-in_err-take_pair-clause-refused c =
    let p = err_from_is_err_and c.from_residual-in_err-take_pair.result c.from_residual-in_err-take_pair.ensures.1 in
    let here = (goal.at.returns-in_err-take_pair-clause-refused c).After-starting_pair in
    rw (p.1, p.2)
    (pair_fault_on_taking c.loop-place.turns.start c.in_ok-pair.pair (view c.index-items-place.result) c.in_err-take_pair.field-0.0 _ _
    c.in_err-take_pair.ensures.refused c.in_ok-pair.ensures.ok (parts here) c.loop-place.invariant.history.start)

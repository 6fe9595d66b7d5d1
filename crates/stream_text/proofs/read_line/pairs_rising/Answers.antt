-- The value at hand spells no pair, or one whose key is not above those before it.
use Rattle.stream_text.proofs.Common.{sym, ap, ◌∙◌, view, is_above}
use Rattle.stream_text.proofs.FirstLineLemmas.{KeysRise-push}
use Rattle.stream_text.proofs.ValueLemmas.{pairs_more, faulty_pair, same_pair}
use Rattle.stream_text.proofs.read_line.pairs_rising.Goals.{in_default-via-in-Some+else-is_above, in_default-via-in_default}
use Rattle.stream_text.proofs.read_line.pairs_rising.Goals as goal

pub returns-in_default-clause-refused : goal.returns-in_default-clause-refused
returns-in_default-clause-refused c =
    let before = c.loop-place.pairs.items in
    let item = c.index-items-place.result in
    faulty_pair c.args.items.now before c.loop-place.place item c.loop-place-test.true c.index-items-place.is c.loop-place.invariant.spelled
    c.loop-place.invariant.rising
    (elim c.in_default.branch [
      | in_default-via-in-Some+else-is_above w ↦ same_pair before (view item) w.in-Some.pair w.in-Some.ensures.some
          (ap (λ pairs. is_above pairs w.in-Some.pair.0) (sym w.deref.ensures.value) ∙ (sym w.is_above.ensures ∙ w.if-is_above.false))
      | in_default-via-in_default w ↦ λ pair h. absurd (w.in_default.ensures.none pair h)
    ])

pub loop-place-preserved : goal.loop-place-preserved
loop-place-preserved c =
    let before = c.loop-place.pairs.items in
    let pair = c.in-Some.pair in
    let above = ap (λ pairs. is_above pairs pair.0) (sym c.deref.ensures.value) ∙ (sym c.is_above.ensures ∙ c.if-is_above.true) in
    rw c.in_ok-push-in-Some.ensures.items (record {
      spelled = pairs_more c.args.items.now before c.loop-place.place c.index-items-place.result pair c.loop-place-test.true
          c.index-items-place.is
          c.loop-place.invariant.spelled c.in-Some.ensures.some;
      rising = KeysRise-push before pair c.loop-place.invariant.rising above;
    })

use Rattle.follow_violations.proofs.Common.{Operation, kept_of, AreAdded, Names, NamesIn, List, subst}
use Rattle.follow_violations.proofs.AnyLemmas.{added_all, added_more, added_same}
use Rattle.follow_violations.proofs.NameLemmas.{all_named}
use Rattle.follow_violations.proofs.named_keys.with_named.Goals as goal

pub loop-past-preserved : goal.loop-past-preserved
loop-past-preserved c =
    let old = c.loop-past.all.items in
    let mid = c.note_calls.new.keys.items in
    let past = c.past-item.result in
    let noted : AreAdded (Names past.map) past.calls.items old mid =
    subst (λ (calls : List Operation). AreAdded (Names past.map) calls old mid) c.deref.ensures.value c.in_ok-note_calls.ensures in record {
      rising = c.in_order-all.ensures.rising;
      so_far = added_more (λ p. NamesIn (kept_of p)) c.args.pasts.now c.loop-past.past-index past c.args.keys.items old c.in_order-all.result.items
          c.loop-past-test.true c.past-item.is c.loop-past.invariant.so_far
          (added_same (NamesIn (kept_of past)) old mid c.in_order-all.result.items noted c.in_order-all.ensures.same);
    }

pub returns-clause-named : goal.returns-clause-named
returns-clause-named c =
    all_named c.args.pasts.now c.args.keys.items c.loop-past.all.items
    (added_all (λ p. NamesIn (kept_of p)) c.args.pasts.now c.loop-past.past-index c.args.keys.items c.loop-past.all.items c.loop-past-test.false
    c.loop-past.invariant.so_far)

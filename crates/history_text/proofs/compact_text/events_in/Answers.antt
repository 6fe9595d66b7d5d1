use Rattle.history_text.proofs.Common.{◌++◌, map, refl, subst, sym, ap, IsTrue, list_all, HistoryView, event_data, may_stand, ArePlain}
use Rattle.history_text.proofs.CompactLemmas.{values_before, values_go_on, values_close, values_plain, left_shorter, stands_more}
use Rattle.history_text.proofs.compact_text.events_in.Goals as goal

pub each-init : goal.each-init
each-init c = record {
  so_far = sym (ap (λ (h : HistoryView). values_before (map event_data h.events) ++ c.args.text.now) c.requires);
  plain = subst (λ (h : HistoryView). ArePlain (map event_data h.events)) (sym c.requires) tt;
  standing = subst (λ (h : HistoryView). IsTrue (list_all (may_stand c.args.version) h.events)) (sym c.requires) refl;
  start = ap (λ (h : HistoryView). h.start) c.requires;
}

pub returns-in-Some-clause-text : goal.returns-in-Some-clause-text
returns-in-Some-clause-text c =
    rw c.in_ok-take.ensures.taken
    (values_close event_data c.each.turns.events c.in_ok-event.event c.args.text.now _ _ c.in-Some.rest.now c.each.invariant.so_far
    c.in_ok-event.ensures.text c.in-Some.ensures)

pub returns-in-Some-clause-plain : goal.returns-in-Some-clause-plain
returns-in-Some-clause-plain c =
    rw c.in_ok-take.ensures.taken
    (values_plain event_data c.each.turns.events c.in_ok-event.event c.each.invariant.plain c.in_ok-event.ensures.text.plain)

pub returns-in-Some-clause-standing : goal.returns-in-Some-clause-standing
returns-in-Some-clause-standing c =
    rw c.in_ok-take.ensures.taken
    (stands_more c.args.version c.each.turns.events c.in_ok-event.event c.each.invariant.standing c.in_ok-event.ensures.standing)

pub returns-in-Some-clause-start : goal.returns-in-Some-clause-start
returns-in-Some-clause-start c = rw c.in_ok-take.ensures.taken c.each.invariant.start

pub each-preserved : goal.each-preserved
each-preserved c =
    rw c.in_ok-take.ensures.taken (record {
      so_far =
          values_go_on event_data c.each.turns.events c.in_ok-event.event c.args.text.now _ _ c.in_ok-more.more.now
          c.each.invariant.so_far c.in_ok-event.ensures.text c.in_ok-more.ensures;
      plain = values_plain event_data c.each.turns.events c.in_ok-event.event c.each.invariant.plain c.in_ok-event.ensures.text.plain;
      standing = stands_more c.args.version c.each.turns.events c.in_ok-event.event c.each.invariant.standing c.in_ok-event.ensures.standing;
      start = c.each.invariant.start;
    })

pub each-smaller : goal.each-smaller
each-smaller c = left_shorter (event_data c.in_ok-event.event) _ _ c.in_ok-more.more.now c.in_ok-event.ensures.text c.in_ok-more.ensures

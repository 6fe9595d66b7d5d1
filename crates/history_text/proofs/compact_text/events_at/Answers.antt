use Rattle.history_text.proofs.Common.{refl, subst, sym, ap, IsTrue, list_all, HistoryView, event_data, may_stand}
use Rattle.history_text.proofs.CompactLemmas.{values_begin, no_values_begin}
use Rattle.history_text.proofs.compact_text.events_at.Goals as goal

pub returns-in-Some-clause-text : goal.returns-in-Some-clause-text
returns-in-Some-clause-text c =
    no_values_begin event_data _ c.args.text.now c.in-Some.rest.now c.in-Some.ensures (ap (λ (h : HistoryView). h.events) c.requires.none)

pub returns-clause-text : goal.returns-clause-text
returns-clause-text c =
    values_begin event_data c.events_in.new.turns.events c.args.text.now c.in_ok-items.items.now c.in_ok-rest.rest.now c.in_ok-items.ensures
    c.in_ok-rest.ensures.text c.in_ok-rest.ensures.plain

pub returns-in-Some-clause-standing : goal.returns-in-Some-clause-standing
returns-in-Some-clause-standing c =
    subst (λ (h : HistoryView). IsTrue (list_all (may_stand c.args.version) h.events)) (sym c.requires.none) refl

pub returns-in-Some-clause-start : goal.returns-in-Some-clause-start
returns-in-Some-clause-start c = ap (λ (h : HistoryView). h.start) c.requires.none

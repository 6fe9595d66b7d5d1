use Rattle.history_text.proofs.Common.{sym, ◌∙◌, subst, List, IsTrue, list_all, Event, event_data, may_stand, list_data, BeginsWith}
use Rattle.std.specs.Prelude.{map}
use Rattle.history_text.proofs.CompactLemmas.{spelled_alone, spelled_with_start}
use Rattle.history_text.proofs.compact_text.document_in.Goals as goal

pub returns-then-not-has_start-clause-spelled : goal.returns-then-not-has_start-clause-spelled
returns-then-not-has_start-clause-spelled c =
    spelled_alone c.args.version c.events_at.new.turns c.args.text.now c.in_ok-items.items.now c.in_ok-rest.rest.now
    (sym c.has_start.ensures ∙ c.if-not-has_start.true) c.in_ok-rest.ensures.start c.in_ok-items.ensures c.in_ok-rest.ensures.text
    c.in_ok-end_at.ensures c.in_ok-rest.ensures.standing

pub returns-clause-spelled : goal.returns-clause-spelled
returns-clause-spelled c =
    let same = c.in_ok-last.ensures.events in
    spelled_with_start c.args.version c.start_at.new.turns c.args.text.now c.in_ok-items.items.now c.in_ok-rest.rest.now
    c.in_ok-pairs.pairs.now c.in_ok-last.last.now (sym c.has_start.ensures ∙ c.if-not-has_start.false) c.in_ok-items.ensures
    (subst (λ (es : List Event). BeginsWith (list_data (map event_data es)) c.in_ok-items.items.now c.in_ok-rest.rest.now) (sym same)
    c.in_ok-rest.ensures.text) c.in_ok-pairs.ensures c.in_ok-last.ensures.text c.in_ok-end_at-2.ensures
    (subst (λ (es : List Event). IsTrue (list_all (may_stand c.args.version) es)) (sym same) c.in_ok-rest.ensures.standing)

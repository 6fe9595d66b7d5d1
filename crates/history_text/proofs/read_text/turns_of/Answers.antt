-- Without a start nothing comes before the events.
use Rattle.history_text.proofs.Common.{One, ◌≡◌, None, map, subst, IfOk, view, HistoryView, IsStart}
use Rattle.history_text.proofs.SpelledLemmas.{spelled_with}
use Rattle.history_text.proofs.TextFaultLemmas.{refused_with}
use Rattle.history_text.proofs.read_text.turns_of.Goals as goal

pub returns-in-Some-clause-spelled : goal.returns-in-Some-clause-spelled
returns-in-Some-clause-spelled c =
    spelled_with _ One None (map view c.in-Some.items.now) c.events_of.result c.in-Some.ensures.some
    (subst (λ (v : HistoryView). IfOk c.events_of.result (λ h. h.start ≡ v.start)) c.new.ensures.none c.events_of.ensures.start)
    c.events_of.ensures.spelled c.events_of.ensures.standing

pub returns-in-Some-clause-refused : goal.returns-in-Some-clause-refused
returns-in-Some-clause-refused c =
    refused_with _ One None (map view c.in-Some.items.now) c.events_of.result c.in-Some.ensures.some
    (subst (λ (v : HistoryView). IsStart v.start) c.new.ensures.none c.new.ensures.history.start) c.events_of.ensures.refused

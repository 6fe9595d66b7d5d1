use Rattle.history_text.proofs.Common.{map, sym, ap, ◌∙◌, view}
use Rattle.serde_json.proofs.Views.{view-Array}
use Rattle.history_text.proofs.DataLemmas.{no_reply, IfNone-mapped}
use Rattle.history_text.proofs.read_event.reply_of.Goals as goal

pub returns-in_ok-pairs_of-in-Array-clause-none : goal.returns-in_ok-pairs_of-in-Array-clause-none
returns-in_ok-pairs_of-in-Array-clause-none c =
    let items = c.in-Array.items in
    IfNone-mapped _ _ c.map-in-Array.ensures.variant
    (λ none reply h. no_reply items.items (λ pairs k. none pairs (ap (map view) c.deref.ensures.value ∙ k)) reply
    (sym (view-Array items) ∙ (sym (ap view c.in-Array.is) ∙ h)))
    c.in_ok-pairs_of-in-Array.ensures.none

-- Which history a text spells, by its value.
use Rattle.history_text.proofs.Common.{One, Two, Three, ◌≡◌, ℕ, Bool, true, false, not, ◌&&◌, cond, List, [], ◌∷◌, map, Option, Some, None, Result}
use Rattle.history_text.proofs.Common.{Ok, Err, inl, refl, sym, ap, ◌∙◌, IsTrue, list_all, and_parts, Data, Event, HistoryFault, HistoryView, Invoke}
use Rattle.history_text.proofs.Common.{Answer, is_replace, is_plain_event, has_no_pairs, is_plain, is_complete, are_complete, TextVersion, has_start}
use Rattle.history_text.proofs.Common.{event_data, SpellEvents, document, IsDocument, start_data, start_pairs, may_stand, least_version}
use Rattle.history_text.proofs.Common.{written_start, history_data, IsJson, SpellsAs, Spells}
use Rattle.std.proofs.Common.{IfOk}

-- ---- the events of what is written

-- any event may be in a text of version 3, one with a complete answer in one of version 2, and a
-- plain one in one of version 1
any_stand : (events : List Event) → list_all (may_stand Three) events ≡ true
any_stand [] = refl
any_stand (Invoke p call ∷ events) = any_stand events
any_stand (Answer p reply ∷ events) = any_stand events

told_stand : (events : List Event) → are_complete events ≡ list_all (may_stand Two) events
told_stand [] = refl
told_stand (Invoke p call ∷ events) = told_stand events
told_stand (Answer p reply ∷ events) = ap (λ b. is_complete reply && b) (told_stand events)

plain_stand : (events : List Event) → list_all is_plain_event events ≡ list_all (may_stand One) events
plain_stand [] = refl
plain_stand (Invoke p call ∷ events) = ap (λ b. not (is_replace call) && b) (plain_stand events)
plain_stand (Answer p reply ∷ events) = ap (λ b. is_complete reply && b) (plain_stand events)

-- the values of events spell them in each version
pub values_spell : (version : TextVersion) (events : List Event) → SpellEvents version (map event_data events) events
values_spell version [] = tt
values_spell version (e ∷ events) = (inl refl, values_spell version events)

no_pairs : (pairs : List (ℕ × ℕ)) → has_no_pairs pairs ≡ true → pairs ≡ []
no_pairs [] h = refl
no_pairs (pair ∷ pairs) h = cc

-- ---- what is written

-- the value of a history, by its version
abbrev written_as : TextVersion → HistoryView → Data
written_as version history = document version (written_start version history.start) (map event_data history.events)

-- the text spells the history, if the history has a start only in a version that has one, and its
-- events may be there
abbrev MayBe : TextVersion → HistoryView → Type 0
MayBe version history = (has_start version ≡ false → history.start ≡ []) × IsTrue (list_all (may_stand version) history.events)

spelled_as : (version : TextVersion) (history : HistoryView) → MayBe version history → SpellsAs (written_as version history) history
spelled_as One history may = record {
  version = One;
  start = None;
  items = map event_data history.events;
  value = (refl, refl);
  starts = may.0 refl;
  spelled = values_spell One history.events;
  standing = may.1;
}
spelled_as Two history may = record {
  version = Two;
  start = Some history.start;
  items = map event_data history.events;
  value = (refl, refl);
  starts = refl;
  spelled = values_spell Two history.events;
  standing = may.1;
}
spelled_as Three history may = record {
  version = Three;
  start = Some history.start;
  items = map event_data history.events;
  value = (refl, refl);
  starts = refl;
  spelled = values_spell Three history.events;
  standing = may.1;
}

-- the least version says all of a history
least_may_be : (history : HistoryView) → MayBe (least_version history) history
least_may_be history = by_tests (is_plain history) refl (are_complete history.events) refl
  where
    by_tests : (b : Bool) → is_plain history ≡ b → (c : Bool) → are_complete history.events ≡ c
        → MayBe (cond b One (cond c Two Three)) history
    by_tests true plain c told =
        let parts = and_parts (has_no_pairs history.start) (list_all is_plain_event history.events) plain in
        (λ none. no_pairs history.start parts.0, sym (plain_stand history.events) ∙ parts.1)
    by_tests false plain true told = (λ none. cc, sym (told_stand history.events) ∙ told)
    by_tests false plain false told = (λ none. cc, any_stand history.events)

-- the text that a history is written as spells it
pub Spells-written : (text : List ℕ) (history : HistoryView) → IsJson text (history_data history) → Spells text history
Spells-written text history json = record {
  value = history_data history;
  json = json;
  spelled = spelled_as (least_version history) history (least_may_be history);
}

-- ---- what is read

-- what the values of the events spell, after those of a start
pub spelled_with : (d : Data) (version : TextVersion) (start : Option (List (ℕ × ℕ))) (items : List Data)
    (r : Result HistoryView HistoryFault)
    → IsDocument version (start_data start) items d → IfOk r (λ h. h.start ≡ start_pairs start)
    → IfOk r (λ h. SpellEvents version items h.events)
    → IfOk r (λ h. IsTrue (list_all (may_stand version) h.events)) → IfOk r (SpellsAs d)
spelled_with d version start items (Ok h) is starts spelled standing = record {
  version = version;
  start = start;
  items = items;
  value = is;
  starts = starts;
  spelled = spelled;
  standing = standing;
}
spelled_with d version start items (Err e) is starts spelled standing = tt

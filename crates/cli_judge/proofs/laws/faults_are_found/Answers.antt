use Rattle.std.proofs.Common.{◌≡◌, ℕ, Bool, true, false, not, ◌||◌, List, [], ◌∷◌, ◌++◌, length, map, Option, Some, None, option_and_then}
use Rattle.std.specs.Prelude.{⊤, if◌then◌else◌}
use Rattle.std.proofs.Common.{refl, sym, ap, ◌∙◌, subst, inl, inr, codes}
use Rattle.std.proofs.lemmas.List.{length-map}
use Rattle.serde_json.specs.Data.{Data}
use Rattle.serde_json.specs.Find.{get_item}
use Rattle.serde_json.specs.Read.{read}
use Rattle.serde_json.specs.View.{items_of}
use Rattle.events.specs.declared.event.Event.{Event}
use Rattle.events.specs.declared.fault.HistoryFault.{HistoryFault}
use Rattle.events.specs.declared.fault.HistoryFault.TheVariants as faults
use Rattle.events.specs.Histories.{is_shaped, is_small, call_count}
use Rattle.events.specs.HistoryFaults.{has_open_call, is_call_too_many, is_out_of_turn}
use Rattle.events.specs.Events.{process_of}
use Rattle.history_text.specs.declared.version.TextVersion.{TextVersion}
use Rattle.history_text.specs.Texts.{document, IsEventData, pair_data, start_data}
use Rattle.history_text.specs.TextFaults.{IsTextFault, IsFaultAfter, IsPairFaultAfter, ShowsEventFault, ShowsPairFault}
use Rattle.history_text.proofs.SplitLemmas.{same_length}
use Rattle.cli_judge.specs.Refusals.{item_of, item_in, found_in}
use Rattle.cli_judge.specs.RefusalLaws.{NamesPlace}
use Rattle.cli_judge.proofs.laws.faults_are_found.Goals as goal

-- ---- the item at the place after some

item_there : (before rest : List Data) (next : Data) → get_item (length before) (items_of (before ++ next ∷ rest)) ≡ Some next
item_there [] rest next = refl
item_there (d ∷ before) rest next = item_there before rest next

event_there : (version : TextVersion) (start : Option (List Data)) (before rest : List Data) (next : Data)
    → item_of (codes "events") (length before) (document version start (before ++ next ∷ rest)) ≡ Some next
event_there version None before rest next = item_there before rest next
event_there version (Some start) before rest next = item_there before rest next

pair_there : (version : TextVersion) (before rest events : List Data) (next : Data)
    → item_of (codes "start") (length before) (document version (Some (before ++ next ∷ rest)) events) ≡ Some next
pair_there version before rest events next = item_there before rest next

there : (text name : List ℕ) (place n : ℕ) (d next : Data) → read text ≡ Some d → place ≡ n → item_of name n d ≡ Some next
    → item_in name place text ≡ Some next
there text name place n d next value same is =
    ap (option_and_then (item_of name place)) value ∙ ap (λ (k : ℕ). item_of name k d) same ∙ is

-- ---- the place that a fault names

-- a fault of the event after the first n
abbrev IsEventAt : ℕ → HistoryFault → Type 0
IsEventAt n (faults.Shape event) = event ≡ n
IsEventAt n (faults.NotWellFormed event) = event ≡ n
IsEventAt n faults.TooMany = ⊤
IsEventAt n fault = ⊥

-- a fault of the pair after the first n
abbrev IsPairAt : ℕ → HistoryFault → Type 0
IsPairAt n (faults.Start pair) = pair ≡ n
IsPairAt n faults.TooMany = ⊤
IsPairAt n fault = ⊥

abbrev IsShownAt : ℕ → Option HistoryFault → Type 0
IsShownAt n None = ⊤
IsShownAt n (Some fault) = IsEventAt n fault

shown_at : (n : ℕ) (misshaped large turned : Bool)
    → IsShownAt n (if misshaped then Some (faults.Shape n) else if large then Some faults.TooMany
    else if turned then Some (faults.NotWellFormed n) else None)
shown_at n true large turned = refl
shown_at n false true turned = tt
shown_at n false false true = refl
shown_at n false false false = tt

event_at : (version : TextVersion) (before : List Event) (next : Data) (fault : HistoryFault) → IsFaultAfter version before next fault
    → IsEventAt (length before) fault
event_at version before next fault (inl h) = subst (IsEventAt (length before)) (sym h.0) refl
event_at version before next fault (inr h) =
    subst (IsShownAt (length before)) h.3
    (shown_at (length before) (not (is_shaped h.0)) (not (is_small h.0) || is_call_too_many (call_count before) h.0)
    (is_out_of_turn (has_open_call (process_of h.0) before) h.0))

pair_at : (before : List (ℕ × ℕ)) (next : Data) (fault : HistoryFault) → IsPairFaultAfter before next fault
    → IsPairAt (length before) fault
pair_at before next fault (inl h) = subst (IsPairAt (length before)) (sym h.0) tt
pair_at before next fault (inr h) = subst (IsPairAt (length before)) (sym h.0) refl

-- ---- what is there

event_found : (text : List ℕ) (place : ℕ) (fault : HistoryFault) (d : Data) (h : ShowsEventFault d fault) → read text ≡ Some d
    → place ≡ length h.before
    → item_in (codes "events") place text ≡ Some h.next
event_found text place fault d h value at =
    there text (codes "events") place (length h.first) d h.next value
    (at ∙ sym (same_length (IsEventData h.version) h.first h.before h.spelled))
    (ap (item_of (codes "events") (length h.first)) h.parts.1 ∙ event_there h.version (start_data h.start) h.first h.rest h.next)

pair_found : (text : List ℕ) (place : ℕ) (fault : HistoryFault) (d : Data) (h : ShowsPairFault d fault) → read text ≡ Some d
    → place ≡ length h.before
    → item_in (codes "start") place text ≡ Some h.next
pair_found text place fault d h value at =
    there text (codes "start") place (length (map pair_data h.before)) d h.next value (at ∙ sym (length-map h.before pair_data))
    (ap (item_of (codes "start") (length (map pair_data h.before))) h.parts.1
    ∙ pair_there h.version (map pair_data h.before) h.rest h.events h.next)

found : (text : List ℕ) (fault : HistoryFault) → IsTextFault text fault → NamesPlace fault → (d : Data) × (found_in text fault ≡ Some d)
found text (faults.Shape event) (d, json, inl h) names = absurd (pair_at h.before h.next (faults.Shape event) h.shows)
found text (faults.Shape event) (d, json, inr h) names =
    (h.next, event_found text event (faults.Shape event) d h json.value (event_at _ h.before h.next (faults.Shape event) h.shows))
found text (faults.NotWellFormed event) (d, json, inl h) names = absurd (pair_at h.before h.next (faults.NotWellFormed event) h.shows)
found text (faults.NotWellFormed event) (d, json, inr h) names = (
  h.next,
  event_found text event (faults.NotWellFormed event) d h json.value
      (event_at _ h.before h.next (faults.NotWellFormed event) h.shows),
)
found text (faults.Start pair) (d, json, inl h) names =
    (h.next, pair_found text pair (faults.Start pair) d h json.value (pair_at h.before h.next (faults.Start pair) h.shows))
found text (faults.Start pair) (d, json, inr h) names = absurd (event_at _ h.before h.next (faults.Start pair) h.shows)
found text faults.TooLong h names = absurd names
found text faults.NotJson h names = absurd names
found text faults.Version h names = absurd names
found text faults.TooMany h names = absurd names
found text faults.Memory h names = absurd names

pub returns : goal.returns
returns c = found

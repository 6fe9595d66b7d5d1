-- A text has one fault only, and with one it spells no history.
use Rattle.events.specs.declared.fault.HistoryFault.TheVariants as faults
use Rattle.history_text.proofs.Common.{◌≡◌, ◌≢◌, ℕ, ◌<◌, ◌≤◌, Bool, true, false, not, nat_le, cond, List, ◌∷◌, ◌++◌, length, map, Option, Some, None}
use Rattle.history_text.proofs.Common.{IsUtf8, inl, inr, subst, refl, sym, ap, ◌∙◌, arith, ⊎_elim, leb-false, true≢false, Result, Ok, Err, IfErr, ◌⊎◌}
use Rattle.history_text.proofs.Common.{IsTrue, list_all, and_parts, list_all-append, same_Some, none-some, Data, read, Event, HistoryFault}
use Rattle.history_text.proofs.Common.{HistoryView, start_limit, IsStart, is_shaped, AreHistoryEvents, IsHistory, is_above, fault_after, TextVersion}
use Rattle.history_text.proofs.Common.{pair_data, IsEventData, AreSpelled, SpellEvents, document, IsDocument, start_data, start_pairs, may_stand}
use Rattle.history_text.proofs.Common.{IsJson, SpellsAs, Spells, IsPairFaultAfter, ShowsPairFault, SpellsNoEvent, IsFaultAfter, AreEventsOfText}
use Rattle.history_text.proofs.Common.{ShowsEventFault, IsDocumentFault, IsTextFault, ShowsFaultAmong, IsFaultAmong, HasOneFault}
use Rattle.history_text.proofs.Common.{FaultySpellsNoHistory, text_limit}
use Rattle.events.proofs.HistoryLemmas.{AreHistoryEvents-next}
use Rattle.events.proofs.StartLemmas.{IsStart-next}
use Rattle.history_text.proofs.TextLemmas.{one_event}
use Rattle.history_text.proofs.SplitLemmas.{GoesOnWith, SplitsAlike, item_at, two_splits}
use Rattle.history_text.proofs.DocumentLemmas.{IsPairData, one_pair, pairs_spelled, same_value, same_document, start_values}

-- ---- the fault of a pair after others

two_tests : (b c : Bool) (x y : HistoryFault) → cond b (Some x) (cond (not c) (Some y) None) ≡ None → (b ≡ false) × (c ≡ true)
two_tests true c x y h = cc
two_tests false true x y h = (refl, refl)
two_tests false false x y h = cc

-- no value inside a start is faulty
no_pair_fault_inside : (pairs before : List (ℕ × ℕ)) (d : Data) (fault : HistoryFault) → GoesOnWith IsPairData pairs before d → IsStart pairs
    → IsPairFaultAfter before d fault → ⊥
no_pair_fault_inside pairs before d fault h start shows =
    let none = IsStart-next before h.more h.item (subst IsStart h.parts start) in
    let tests = two_tests (nat_le start_limit (length before)) (is_above before h.item.0) faults.TooMany
    (faults.Start (length before)) none in
    let room = leb-false start_limit (length before) tests.0 in
    ⊎_elim (λ a. absurd (omega (arith, a.1, room))) (λ a. true≢false (sym tests.1 ∙ a.2 h.item h.spelled)) shows

-- a value has one fault only after the same pairs
same_pair_fault : (before : List (ℕ × ℕ)) (d : Data) (f g : HistoryFault) → IsPairFaultAfter before d f
    → IsPairFaultAfter before d g → f ≡ g
same_pair_fault before d f g (inl a) (inl b) = a.0 ∙ sym b.0
same_pair_fault before d f g (inl a) (inr b) = absurd (omega (arith, a.1, b.1))
same_pair_fault before d f g (inr a) (inl b) = absurd (omega (arith, a.1, b.1))
same_pair_fault before d f g (inr a) (inr b) = a.0 ∙ sym b.0

-- two faulty values of a start at two splits are one
pairs_alike : (f g : HistoryFault) (before ahead : List (ℕ × ℕ)) (next after : Data) → IsPairFaultAfter before next f
    → IsPairFaultAfter ahead after g
    → IsStart before → IsStart ahead → SplitsAlike IsPairData before ahead next after → f ≡ g
pairs_alike f g before ahead next after a b first second (inl h) =
    same_pair_fault ahead after f g
    (subst (λ (d : Data). IsPairFaultAfter ahead d f) h.1 (subst (λ (pairs : List (ℕ × ℕ)). IsPairFaultAfter pairs next f) h.0 a)) b
pairs_alike f g before ahead next after a b first second (inr (inl h)) = absurd (no_pair_fault_inside before ahead after g h first b)
pairs_alike f g before ahead next after a b first second (inr (inr h)) = absurd (no_pair_fault_inside ahead before next f h second a)

-- ---- the fault of an event after others

-- the fault of an event without the range that it needs is its shape
fault_of_unshaped : (before : List Event) (e : Event) (shaped : Bool) (fault : HistoryFault) → is_shaped e ≡ shaped → (shaped ≡ true → ⊥)
    → fault_after before e ≡ Some fault → fault ≡ faults.Shape (length before)
fault_of_unshaped before e true fault is not h = absurd (not refl)
fault_of_unshaped before e false fault is not h = let shows : fault_after before e ≡ Some (faults.Shape (length before)) =
    rw is refl in same_Some fault (faults.Shape (length before)) (sym h ∙ shows)

-- an event that shows no fault has a range where it needs one
shaped_by : (shaped : Bool) (x : HistoryFault) (y : Option HistoryFault) → cond (not shaped) (Some x) y ≡ None → shaped ≡ true
shaped_by true x y h = refl
shaped_by false x y h = cc

module _ (version : TextVersion) where
  -- a value that spells no event can show no other fault by one
  fault_of_no_event : (before : List Event) (d : Data) (e : Event) (fault : HistoryFault) → SpellsNoEvent version d → IsEventData version d e
      → IsTrue (may_stand version e) → fault_after before e ≡ Some fault → fault ≡ faults.Shape (length before)
  fault_of_no_event before d e fault none spelled standing h =
      fault_of_unshaped before e (is_shaped e) fault refl (λ shaped. none e spelled shaped standing) h

  -- a value has one fault only after the same events
  same_fault : (before : List Event) (d : Data) (f g : HistoryFault) → IsFaultAfter version before d f
      → IsFaultAfter version before d g → f ≡ g
  same_fault before d f g (inl a) (inl b) = a.0 ∙ sym b.0
  same_fault before d f g (inl a) (inr b) = a.0 ∙ sym (fault_of_no_event before d b.0 g a.1 b.1 b.2 b.3)
  same_fault before d f g (inr a) (inl b) = fault_of_no_event before d a.0 f b.1 a.1 a.2 a.3 ∙ sym b.0
  same_fault before d f g (inr a) (inr b) =
      let same : a.0 ≡ b.0 = one_event version d a.0 b.0 a.1 b.1 in
      same_Some f g (sym a.3 ∙ (ap (fault_after before) same ∙ b.3))

  -- each event may be there if all may
  stands_at : (before more : List Event) (e : Event) → list_all (may_stand version) (before ++ e ∷ more) ≡ true
      → may_stand version e ≡ true
  stands_at before more e h =
      let back = (and_parts (list_all (may_stand version) before) (list_all (may_stand version) (e ∷ more))
      (sym (list_all-append (may_stand version) before (e ∷ more)) ∙ h)).1 in
      (and_parts (may_stand version e) (list_all (may_stand version) more) back).0

  -- no value inside the events of a history is faulty
  no_fault_inside : (events before : List Event) (d : Data) (fault : HistoryFault) → GoesOnWith (IsEventData version) events before d
      → AreEventsOfText version events
      → IsFaultAfter version before d fault → ⊥
  no_fault_inside events before d fault h are shows =
      let history = subst AreHistoryEvents h.parts are.history in
      let standing = stands_at before h.more h.item (subst (λ (es : List Event). list_all (may_stand version) es ≡ true)
      h.parts are.standing) in
      let none = AreHistoryEvents-next before h.more h.item history in
      ⊎_elim (λ a. a.1 h.item h.spelled (shaped_by (is_shaped h.item) (faults.Shape (length before)) _ none) standing)
      (λ a.
      let same : a.0 ≡ h.item = one_event version d a.0 h.item a.1 h.spelled in
      none-some fault (sym none ∙ (ap (fault_after before) (sym same) ∙ a.3))) shows

  -- two faulty values at two splits are one
  events_alike : (f g : HistoryFault) (before ahead : List Event) (next after : Data) → IsFaultAfter version before next f
      → IsFaultAfter version ahead after g
      → AreEventsOfText version before → AreEventsOfText version ahead → SplitsAlike (IsEventData version) before ahead next after → f ≡ g
  events_alike f g before ahead next after a b first second (inl h) =
      same_fault ahead after f g
      (subst (λ (d : Data). IsFaultAfter version ahead d f) h.1
      (subst (λ (events : List Event). IsFaultAfter version events next f) h.0 a)) b
  events_alike f g before ahead next after a b first second (inr (inl h)) = absurd (no_fault_inside before ahead after g h first b)
  events_alike f g before ahead next after a b first second (inr (inr h)) = absurd (no_fault_inside ahead before next f h second a)

-- ---- the fault of a value

-- a value with a faulty start has no start that a history may have
not_start : (d : Data) (fault : HistoryFault) (version : TextVersion) (start : Option (List (ℕ × ℕ))) (items : List Data)
    → ShowsPairFault d fault → IsDocument version (start_data start) items d → IsStart (start_pairs start) → ⊥
not_start d fault version start items h is sound =
    let docs = same_document h.version version (Some (map pair_data h.before ++ h.next ∷ h.rest)) (start_data start) h.events items d
    h.parts is in
    let values = start_values start (map pair_data h.before ++ h.next ∷ h.rest) docs.1 in
    no_pair_fault_inside (start_pairs start) h.before h.next fault
    (item_at IsPairData one_pair (map pair_data h.before) h.before (start_pairs start) h.next h.rest (pairs_spelled h.before)
    (subst (λ (ds : List Data). AreSpelled IsPairData ds (start_pairs start)) (sym values) (pairs_spelled (start_pairs start))))
    sound
    h.shows

one_pair_fault : (d : Data) (f g : HistoryFault) → ShowsPairFault d f → ShowsPairFault d g → f ≡ g
one_pair_fault d f g a b =
    let docs = same_document a.version b.version (Some (map pair_data a.before ++ a.next ∷ a.rest))
    (Some (map pair_data b.before ++ b.next ∷ b.rest)) a.events b.events d a.parts b.parts in
    pairs_alike f g a.before b.before a.next b.next a.shows b.shows a.start b.start
    (two_splits IsPairData one_pair (map pair_data a.before) a.before (map pair_data b.before) b.before a.next b.next a.rest b.rest
    (pairs_spelled a.before) (pairs_spelled b.before) (same_Some _ _ docs.1))

one_event_fault : (d : Data) (f g : HistoryFault) → ShowsEventFault d f → ShowsEventFault d g → f ≡ g
one_event_fault d f g a b =
    let docs = same_document a.version b.version (start_data a.start) (start_data b.start) (a.first ++ a.next ∷ a.rest)
    (b.first ++ b.next ∷ b.rest) d a.parts b.parts in
    events_alike b.version f g a.before b.before a.next b.next
    (subst (λ (v : TextVersion). IsFaultAfter v a.before a.next f) docs.0 a.shows) b.shows
    (subst (λ (v : TextVersion). AreEventsOfText v a.before) docs.0 a.events) b.events
    (two_splits (IsEventData b.version) (one_event b.version) a.first a.before b.first b.before a.next b.next a.rest b.rest
    (subst (λ (v : TextVersion). SpellEvents v a.first a.before) docs.0 a.spelled) b.spelled docs.2)

-- what a fault says of a value: its top level, a pair, or an event
data IsFaultyDocument (d : Data) : HistoryFault → Type 0 where
  top_level : ((version : TextVersion) (start : Option (List Data)) (events : List Data) → IsDocument version start events d → ⊥)
      → IsFaultyDocument d faults.Version
  pair : (fault : HistoryFault) → ShowsPairFault d fault → IsFaultyDocument d fault
  event : (fault : HistoryFault) → ShowsEventFault d fault → IsFaultyDocument d fault

one_document_fault : (d : Data) {f g : HistoryFault} → IsFaultyDocument d f → IsFaultyDocument d g → f ≡ g
one_document_fault d (top_level none) (top_level none2) = refl
one_document_fault d (top_level none) (pair g b) = absurd (none b.version (Some (map pair_data b.before ++ b.next ∷ b.rest)) b.events b.parts)
one_document_fault d (top_level none) (event g b) = absurd (none b.version (start_data b.start) (b.first ++ b.next ∷ b.rest) b.parts)
one_document_fault d (pair f a) (top_level none) = absurd (none a.version (Some (map pair_data a.before ++ a.next ∷ a.rest)) a.events a.parts)
one_document_fault d (pair f a) (pair g b) = one_pair_fault d f g a b
one_document_fault d (pair f a) (event g b) = absurd (not_start d f b.version b.start _ a b.parts b.is_start)
one_document_fault d (event f a) (top_level none) = absurd (none a.version (start_data a.start) (a.first ++ a.next ∷ a.rest) a.parts)
one_document_fault d (event f a) (pair g b) = absurd (not_start d g a.version a.start _ b a.parts a.is_start)
one_document_fault d (event f a) (event g b) = one_event_fault d f g a b

shown_fault : (d : Data) (fault : HistoryFault) → ShowsPairFault d fault ⊎ ShowsEventFault d fault → IsFaultyDocument d fault
shown_fault d fault (inl h) = pair fault h
shown_fault d fault (inr h) = event fault h

-- ---- the fault of a text

-- what a fault says of a text: its length, that it is no JSON, or a fault of its value
data IsFaulty (text : List ℕ) : HistoryFault → Type 0 where
  too_long : text_limit < length text → IsFaulty text faults.TooLong
  not_json : length text ≤ text_limit → ((d : Data) → IsUtf8 text → read text ≡ Some d → ⊥) → IsFaulty text faults.NotJson
  faulty : (fault : HistoryFault) (d : Data) → IsJson text d → IsFaultyDocument d fault → IsFaulty text fault

-- each fault but `Memory` says one of these
IsFaulty-from_fault : (text : List ℕ) (fault : HistoryFault) → IsTextFault text fault → fault ≢ faults.Memory → IsFaulty text fault
IsFaulty-from_fault text faults.TooLong h other = too_long h
IsFaulty-from_fault text faults.NotJson h other = not_json h.0 h.1
IsFaulty-from_fault text faults.Version h other = faulty faults.Version h.0 h.1 (top_level h.2)
IsFaulty-from_fault text (faults.Shape at) h other = faulty (faults.Shape at) h.0 h.1 (shown_fault h.0 (faults.Shape at) h.2)
IsFaulty-from_fault text faults.TooMany h other = faulty faults.TooMany h.0 h.1 (shown_fault h.0 faults.TooMany h.2)
IsFaulty-from_fault text (faults.NotWellFormed at) h other =
    faulty (faults.NotWellFormed at) h.0 h.1 (shown_fault h.0 (faults.NotWellFormed at) h.2)
IsFaulty-from_fault text faults.Memory h other = absurd (other refl)
IsFaulty-from_fault text (faults.Start at) h other = faulty (faults.Start at) h.0 h.1 (shown_fault h.0 (faults.Start at) h.2)

-- what two faults say of one text agrees only where they are the same
one_faulty : (text : List ℕ) {f g : HistoryFault} → IsFaulty text f → IsFaulty text g → f ≡ g
one_faulty text (too_long a) (too_long b) = refl
one_faulty text (too_long a) (not_json short none) = absurd (omega arith)
one_faulty text (too_long a) (faulty g d is b) = absurd (omega (arith, is.fits))
one_faulty text (not_json short none) (too_long b) = absurd (omega arith)
one_faulty text (not_json short none) (not_json short2 none2) = refl
one_faulty text (not_json short none) (faulty g d is b) = absurd (none d is.utf8 is.value)
one_faulty text (faulty f d is a) (too_long b) = absurd (omega (arith, is.fits))
one_faulty text (faulty f d is a) (not_json short none) = absurd (none d is.utf8 is.value)
one_faulty text (faulty f d is a) (faulty g e is2 b) =
    one_document_fault e (subst (λ (x : Data). IsFaultyDocument x f) (same_value text d e is is2) a) b

-- a text has one fault only
pub one_fault : HasOneFault
one_fault text f g a b other_f other_g = one_faulty text (IsFaulty-from_fault text f a other_f) (IsFaulty-from_fault text g b other_g)

-- a value that spells a history has no fault
faulty_spells_none : (d : Data) (history : HistoryView) {fault : HistoryFault} → IsFaultyDocument d fault → SpellsAs d history
    → IsHistory history → ⊥
faulty_spells_none d history (top_level none) s sound = none s.version (start_data s.start) s.items s.value
faulty_spells_none d history (pair f a) s sound = not_start d f s.version s.start s.items a s.value (subst IsStart s.starts sound.start)
faulty_spells_none d history (event f a) s sound =
    let docs = same_document a.version s.version (start_data a.start) (start_data s.start) (a.first ++ a.next ∷ a.rest) s.items d
    a.parts s.value in
    no_fault_inside s.version history.events a.before a.next f
    (item_at (IsEventData s.version) (one_event s.version) a.first a.before history.events a.next a.rest
    (subst (λ (v : TextVersion). SpellEvents v a.first a.before) docs.0 a.spelled)
    (subst (λ (items : List Data). SpellEvents s.version items history.events) (sym docs.2) s.spelled))
    (record { history = sound.events; standing = s.standing })
    (subst (λ (v : TextVersion). IsFaultAfter v a.before a.next f) docs.0 a.shows)

-- a text with a fault spells no history
not_spelled : (text : List ℕ) {f : HistoryFault} (history : HistoryView) → IsFaulty text f → Spells text history → IsHistory history → ⊥
not_spelled text history (too_long a) spelled sound = omega (arith, spelled.json.fits)
not_spelled text history (not_json short none) spelled sound = none spelled.value spelled.json.utf8 spelled.json.value
not_spelled text history (faulty f d is a) spelled sound =
    faulty_spells_none d history a
    (subst (λ (e : Data). SpellsAs e history) (same_value text spelled.value d spelled.json is) spelled.spelled) sound

pub no_history : FaultySpellsNoHistory
no_history text f history h other spelled sound = not_spelled text history (IsFaulty-from_fault text f h other) spelled sound

-- if a text spells a history, it is refused only if memory runs out
pub memory_alone : (text : List ℕ) (history : HistoryView) (fault : HistoryFault) → Spells text history → IsHistory history
    → IsTextFault text fault
    → fault ≡ faults.Memory
memory_alone text history faults.TooLong spelled sound h = absurd (no_history text faults.TooLong history h (λ e. cc) spelled sound)
memory_alone text history faults.NotJson spelled sound h = absurd (no_history text faults.NotJson history h (λ e. cc) spelled sound)
memory_alone text history faults.Version spelled sound h = absurd (no_history text faults.Version history h (λ e. cc) spelled sound)
memory_alone text history (faults.Shape at) spelled sound h = absurd (no_history text (faults.Shape at) history h (λ e. cc) spelled sound)
memory_alone text history faults.TooMany spelled sound h = absurd (no_history text faults.TooMany history h (λ e. cc) spelled sound)
memory_alone text history (faults.NotWellFormed at) spelled sound h =
    absurd (no_history text (faults.NotWellFormed at) history h (λ e. cc) spelled sound)
memory_alone text history faults.Memory spelled sound h = refl
memory_alone text history (faults.Start at) spelled sound h = absurd (no_history text (faults.Start at) history h (λ e. cc) spelled sound)

-- ---- from the values that were read

-- a fault of its value is one of the text
pub fault_of_document : (text : List ℕ) (d : Data) (fault : HistoryFault) → IsJson text d → IsDocumentFault d fault → IsTextFault text fault
fault_of_document text d faults.TooLong json h = absurd h
fault_of_document text d faults.NotJson json h = absurd h
fault_of_document text d faults.Version json h = (d, json, h)
fault_of_document text d (faults.Shape at) json h = (d, json, h)
fault_of_document text d faults.TooMany json h = (d, json, h)
fault_of_document text d (faults.NotWellFormed at) json h = (d, json, h)
fault_of_document text d faults.Memory json h = tt
fault_of_document text d (faults.Start at) json h = (d, json, h)

-- a fault among the values of the events is one of the document, where nothing is wrong with the start
pub fault_of_events : (d : Data) (version : TextVersion) (start : Option (List (ℕ × ℕ))) (items : List Data) (fault : HistoryFault)
    → IsDocument version (start_data start) items d
    → IsStart (start_pairs start) → IsFaultAmong version items fault → IsDocumentFault d fault
fault_of_events d version start items fault is sound h = by_fault fault h
  where
    shown : (g : HistoryFault) → ShowsFaultAmong version items g → ShowsEventFault d g
    shown g k = record {
      version = version;
      start = start;
      first = k.first;
      before = k.before;
      next = k.next;
      rest = k.rest;
      parts = (is.0, is.1 ∙ ap (λ (xs : List Data). document version (start_data start) xs) k.parts);
      is_start = sound;
      spelled = k.spelled;
      events = k.events;
      shows = k.shows;
    }

    by_fault : (g : HistoryFault) → IsFaultAmong version items g → IsDocumentFault d g
    by_fault faults.TooLong k = k
    by_fault faults.NotJson k = k
    by_fault faults.Version k = absurd k
    by_fault (faults.Shape at) k = inr (shown (faults.Shape at) k)
    by_fault faults.TooMany k = inr (shown faults.TooMany k)
    by_fault (faults.NotWellFormed at) k = inr (shown (faults.NotWellFormed at) k)
    by_fault faults.Memory k = tt
    by_fault (faults.Start at) k = absurd k

pub refused_with : (d : Data) (version : TextVersion) (start : Option (List (ℕ × ℕ))) (items : List Data)
    (r : Result HistoryView HistoryFault)
    → IsDocument version (start_data start) items d → IsStart (start_pairs start) → IfErr r (IsFaultAmong version items)
    → IfErr r (IsDocumentFault d)
refused_with d version start items (Ok h) is sound refused = tt
refused_with d version start items (Err fault) is sound refused = fault_of_events d version start items fault is sound refused

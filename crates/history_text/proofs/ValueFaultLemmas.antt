-- The first faulty value of a list: it spells no pair or event, or one that may not follow those before it.
use Rattle.events.specs.declared.fault.HistoryFault.TheVariants as faults
use Rattle.history_text.proofs.Common.{◌≡◌, ℕ, ◌+◌, ◌<◌, Bool, true, false, not, ◌||◌, nat_le, cond, List, [], ◌∷◌, ◌++◌, length, map, take, drop}
use Rattle.history_text.proofs.Common.{get_or, Some, None, subst, refl, sym, ap, ◌∙◌, arith, inl, inr, leb-false, IsTrue, leb-true, map-append}
use Rattle.history_text.proofs.Common.{map_more, length-map, length-take-le, list_all-append, same_Some, Data, view, Value, Event, HistoryFault}
use Rattle.history_text.proofs.Common.{start_limit, IsStart, is_shaped, is_small, call_count, AreHistoryEvents, is_out_of_turn, is_call_too_many}
use Rattle.history_text.proofs.Common.{has_open_call, fault_after, IsRefusedAfter, is_above, pair_fault_after, IsPairRefusedAfter, TextVersion}
use Rattle.history_text.proofs.Common.{pair_data, IsEventData, SpellEvents, may_stand, IsPairFaultAfter, AreEventsOfText, IsValueFault}
use Rattle.history_text.proofs.Common.{IsPairValueFault, ShowsPairFaultAmong, IsPairFaultAmong, ShowsFaultAmong, IsFaultAmong}
use Rattle.events.specs.Events.{process_of}
use Rattle.events.proofs.Places.{parts_at}
use Rattle.history_text.proofs.SplitLemmas.{same_length, spelled_more}
use Rattle.history_text.proofs.TextLemmas.{pair_data_injective}

-- the values are those before a place, the one there, and the rest
pub split_at : (vs : List Value) (i : ℕ) (v : Value) → i < length vs → v ≡ get_or vs i v
    → map view vs ≡ map view (take i vs) ++ view v ∷ map view (drop (i + 1) vs)
split_at vs i v within here = ap (map view) (parts_at vs i v within here) ∙ map-append view (take i vs) (v ∷ drop (i + 1) vs)

-- as many values come before a place as it says
length_before : (vs : List Value) (i : ℕ) → i < length vs → length (map view (take i vs)) ≡ i
length_before vs i within = length-map (take i vs) view ∙ length-take-le i vs (omega arith)

-- ---- pairs

-- if the values before a place spell pairs, there are as many pairs
pub pairs_before : (vs : List Value) (before : List (ℕ × ℕ)) (i : ℕ) → i < length vs → map view (take i vs) ≡ map pair_data before
    → length before ≡ i
pairs_before vs before i within spelled = sym (length-map before pair_data) ∙ (ap length (sym spelled) ∙ length_before vs i within)

-- the values are those of the pairs, the value at the place, and the rest
pub pairs_and_value : (vs : List Value) (before : List (ℕ × ℕ)) (i : ℕ) (v : Value) → i < length vs → v ≡ get_or vs i v
    → map view (take i vs) ≡ map pair_data before
    → map view vs ≡ map pair_data before ++ view v ∷ map view (drop (i + 1) vs)
pairs_and_value vs before i v within here spelled =
    split_at vs i v within here ∙ ap (λ xs. xs ++ view v ∷ map view (drop (i + 1) vs)) spelled

-- a value that is refused on its own is faulty wherever it is
pub pair_fault_alone : (before : List (ℕ × ℕ)) (d : Data) (fault : HistoryFault) → IsPairValueFault (length before) d fault
    → (rest items : List Data)
    → items ≡ map pair_data before ++ d ∷ rest → IsStart before → IsPairFaultAmong items fault
pair_fault_alone before d faults.TooLong h rest items parts start = absurd h
pair_fault_alone before d faults.NotJson h rest items parts start = absurd h
pair_fault_alone before d faults.Version h rest items parts start = absurd h
pair_fault_alone before d (faults.Shape at) h rest items parts start = absurd h
pair_fault_alone before d faults.TooMany h rest items parts start =
    record { before = before; next = d; rest = rest; parts = parts; start = start; shows = inl (refl, h) }
pair_fault_alone before d (faults.NotWellFormed at) h rest items parts start = absurd h
pair_fault_alone before d faults.Memory h rest items parts start = tt
pair_fault_alone before d (faults.Start at) h rest items parts start = record {
  before = before;
  next = d;
  rest = rest;
  parts = parts;
  start = start;
  shows = inr (ap faults.Start h.0, h.1, λ pair spelled. absurd (h.2 pair spelled));
}

-- a value whose pair may not follow those before it is faulty there
pair_fault_shown : (before : List (ℕ × ℕ)) (pair : ℕ × ℕ) (d : Data) (fault : HistoryFault) → pair_fault_after before pair ≡ Some fault
    → d ≡ pair_data pair
    → IsPairFaultAfter before d fault
pair_fault_shown before pair d fault h is = by_tests (nat_le start_limit (length before)) refl (is_above before pair.0) refl h
  where
    by_tests : (b : Bool) → nat_le start_limit (length before) ≡ b → (c : Bool) → is_above before pair.0 ≡ c
        → cond b (Some faults.TooMany) (cond (not c) (Some (faults.Start (length before))) None) ≡ Some fault
        → IsPairFaultAfter before d fault
    by_tests true full c above shown = inl (sym (same_Some faults.TooMany fault shown), leb-true start_limit (length before) full)
    by_tests false room false not_above shown = inr (
      sym (same_Some (faults.Start (length before)) fault shown),
      leb-false start_limit (length before) room,
      λ other spelled. subst (λ (p : ℕ × ℕ). is_above before p.0 ≡ false) (pair_data_injective pair other (sym is ∙ spelled)) not_above,
    )
    by_tests false room true above shown = cc

-- a value whose pair was refused after those before it is faulty there, unless memory ran out
pub pair_fault_on_taking : (before : List (ℕ × ℕ)) (pair : ℕ × ℕ) (d : Data) (fault : HistoryFault) (rest items : List Data)
    → IsPairRefusedAfter before pair fault → d ≡ pair_data pair → items ≡ map pair_data before ++ d ∷ rest → IsStart before
    → IsPairFaultAmong items fault
pair_fault_on_taking before pair d fault rest items h is parts start = by_fault fault h
  where
    shown : (g : HistoryFault) → pair_fault_after before pair ≡ Some g → ShowsPairFaultAmong items g
    shown g k = record {
      before = before;
      next = d;
      rest = rest;
      parts = parts;
      start = start;
      shows = pair_fault_shown
          before pair d g k is;
    }

    by_fault : (g : HistoryFault) → IsPairRefusedAfter before pair g → IsPairFaultAmong items g
    by_fault faults.TooLong k = shown faults.TooLong k
    by_fault faults.NotJson k = shown faults.NotJson k
    by_fault faults.Version k = shown faults.Version k
    by_fault (faults.Shape at) k = shown (faults.Shape at) k
    by_fault faults.TooMany k = shown faults.TooMany k
    by_fault (faults.NotWellFormed at) k = shown (faults.NotWellFormed at) k
    by_fault faults.Memory k = tt
    by_fault (faults.Start at) k = shown (faults.Start at) k

-- ---- events

-- if the values before a place spell events, there are as many events
pub events_before : (version : TextVersion) (vs : List Value) (before : List Event) (i : ℕ) → i < length vs
    → SpellEvents version (map view (take i vs)) before → length before ≡ i
events_before version vs before i within spelled =
    sym (same_length (IsEventData version) (map view (take i vs)) before spelled) ∙ length_before vs i within

-- the values up to a place spell an event more, where the value there spells it
pub events_more : (version : TextVersion) (vs : List Value) (before : List Event) (i : ℕ) (v : Value) (e : Event) → i < length vs
    → v ≡ get_or vs i v → SpellEvents version (map view (take i vs)) before → IsEventData version (view v) e
    → SpellEvents version (map view (take (i + 1) vs)) (before ++ e ∷ [])
events_more version vs before i v e within here spelled is =
    subst (λ (ds : List Data). SpellEvents version ds (before ++ e ∷ []))
    (sym (map_more view vs i v within ∙ ap (λ x. map view (take i vs) ++ view x ∷ []) (sym here)))
    (spelled_more (IsEventData version) (map view (take i vs)) before (view v) e spelled is)

-- events of a text with one more that may be there
pub stands_more : (version : TextVersion) (before : List Event) (e : Event) → AreEventsOfText version before
    → AreHistoryEvents (before ++ e ∷ []) → IsTrue (may_stand version e) → AreEventsOfText version (before ++ e ∷ [])
stands_more version before e events history standing = record {
  history = history;
  standing = list_all-append (may_stand version) before (e ∷ []) ∙ rw (events.standing, standing) refl;
}

-- a value that is refused on its own is faulty wherever it is
pub fault_alone : (version : TextVersion) (first : List Data) (before : List Event) (d : Data) (fault : HistoryFault)
    → IsValueFault version (length before) d fault
    → (rest items : List Data) → items ≡ first ++ d ∷ rest → SpellEvents version first before → AreEventsOfText version before
    → IsFaultAmong version items fault
fault_alone version first before d faults.TooLong h rest items parts spelled events = h
fault_alone version first before d faults.NotJson h rest items parts spelled events = h
fault_alone version first before d faults.Version h rest items parts spelled events = h
fault_alone version first before d (faults.Shape at) h rest items parts spelled events = record {
  first = first;
  before = before;
  next = d;
  rest = rest;
  parts = parts;
  spelled = spelled;
  events = events;
  shows = inl (ap faults.Shape h.0, h.1);
}
fault_alone version first before d faults.TooMany h rest items parts spelled events = record {
  first = first;
  before = before;
  next = d;
  rest = rest;
  parts = parts;
  spelled = spelled;
  events = events;
  shows = inr (h.0, h.1, h.4, rw (h.2, h.3) refl);
}
fault_alone version first before d (faults.NotWellFormed at) h rest items parts spelled events = absurd h
fault_alone version first before d faults.Memory h rest items parts spelled events = tt
fault_alone version first before d (faults.Start at) h rest items parts spelled events = h

-- which fault an event shows at a place, by whether it has a range where it needs one
abbrev IsFaultBy : ℕ → Bool → HistoryFault → Type 0
IsFaultBy place shaped (faults.Shape at) = (at ≡ place) × (shaped ≡ false)
IsFaultBy place shaped faults.TooMany = shaped ≡ true
IsFaultBy place shaped (faults.NotWellFormed at) = (at ≡ place) × (shaped ≡ true)
IsFaultBy place shaped fault = ⊥

-- the first test that fails decides the fault
three_faults : (s m c t : Bool) (place : ℕ) (fault : HistoryFault)
    → cond (not s) (Some (faults.Shape place))
    (cond (not m || c) (Some faults.TooMany) (cond t (Some (faults.NotWellFormed place)) None)) ≡ Some fault
    → IsFaultBy place s fault
three_faults false m c t place fault h = subst (IsFaultBy place false) (same_Some (faults.Shape place) fault h) (refl, refl)
three_faults true false c t place fault h = subst (IsFaultBy place true) (same_Some faults.TooMany fault h) refl
three_faults true true true t place fault h = subst (IsFaultBy place true) (same_Some faults.TooMany fault h) refl
three_faults true true false true place fault h = subst (IsFaultBy place true) (same_Some (faults.NotWellFormed place) fault h) (refl, refl)
three_faults true true false false place fault h = cc

-- the fault that an event shows after others
IsFaultBy-fault_after : (before : List Event) (e : Event) (fault : HistoryFault) → fault_after before e ≡ Some fault
    → IsFaultBy (length before) (is_shaped e) fault
IsFaultBy-fault_after before e fault h =
    three_faults (is_shaped e) (is_small e) (is_call_too_many (call_count before) e)
    (is_out_of_turn (has_open_call (process_of e) before) e)
    (length before) fault h

-- a value whose event was refused after those before it is faulty there, unless memory ran out
pub fault_on_taking : (version : TextVersion) (first : List Data) (before : List Event) (e : Event) (d : Data) (fault : HistoryFault)
    (rest items : List Data)
    → IsRefusedAfter before e fault → IsEventData version d e → IsTrue (may_stand version e) → items ≡ first ++ d ∷ rest
    → SpellEvents version first before → AreEventsOfText version before → IsFaultAmong version items fault
fault_on_taking version first before e d fault rest items h is standing parts spelled events = by_fault fault h
  where
    shown : (g : HistoryFault) → fault_after before e ≡ Some g → ShowsFaultAmong version items g
    shown g k = record {
      first = first;
      before = before;
      next = d;
      rest = rest;
      parts = parts;
      spelled = spelled;
      events = events;
      shows = inr (e, is, standing, k);
    }

    by_fault : (g : HistoryFault) → IsRefusedAfter before e g → IsFaultAmong version items g
    by_fault faults.TooLong k = IsFaultBy-fault_after before e faults.TooLong k
    by_fault faults.NotJson k = IsFaultBy-fault_after before e faults.NotJson k
    by_fault faults.Version k = IsFaultBy-fault_after before e faults.Version k
    by_fault (faults.Shape at) k = shown (faults.Shape at) k
    by_fault faults.TooMany k = shown faults.TooMany k
    by_fault (faults.NotWellFormed at) k = shown (faults.NotWellFormed at) k
    by_fault faults.Memory k = tt
    by_fault (faults.Start at) k = IsFaultBy-fault_after before e (faults.Start at) k

-- The lanes of a picture.
use Rattle.draw_picture.proofs.Common.{◌≡◌, ℕ, suc, ◌+◌, ◌-◌, ◌<◌, true, false, cond, List, [], ◌∷◌, ◌++◌, Some, get_or, refl, sym, ap, ◌∙◌, arith, ◌==◌}
use Rattle.draw_picture.proofs.Common.{Contains, slice_get, range_with_len, eq-eqb, ltb-true, and_parts, true_from_ne_false, false≢true, Contains-filter}
use Rattle.draw_picture.proofs.Common.{Contains-range, append_assoc, slice_get_within, get_or_from_slice_get, Event, Invoke, Answer, process_of, is_small}
use Rattle.draw_picture.proofs.Common.{AreHistoryEvents, has_events, lanes}
use Rattle.std.proofs.Common.{filter}
use Rattle.std.proofs.lemmas.List.Folds.{list_any_at, list_all_at}
use Rattle.events.specs.Limits.{process_limit}

-- the lanes from a process on
unfoldable pub lanes_from : List Event → ℕ → List ℕ
lanes_from events process = filter (has_events events) (range_with_len process (process_limit - process))

-- all lanes are those from the first process on
pub lanes-all : (events : List Event) → lanes events ≡ lanes_from events 0
unfolding lanes lanes_from
lanes-all events = refl

range-first : (n process : ℕ) → process < n → range_with_len process (n - process) ≡ process ∷ range_with_len (process + 1)
    (n - (process + 1))
range-first n process below =
    let left : n - process ≡ suc (n - (process + 1)) = omega arith in
    ap (range_with_len process) left

-- the lane of a process, where it has one, and those from the next process on
pub lanes-next : (events : List Event) (process : ℕ) → process < 64
    → lanes_from events process ≡ cond (has_events events process) (process ∷ lanes_from events (process + 1))
    (lanes_from events (process + 1))
unfolding lanes_from
lanes-next events process below = ap (filter (has_events events)) (range-first process_limit process below)

-- no lane is left after the last process
pub lanes-end : (events : List Event) (process : ℕ) → process ≡ 64 → lanes_from events process ≡ []
unfolding lanes_from
lanes-end events process is = rw is refl

-- a process that has a lane, and one that has none
pub lanes-yes : (events : List Event) (process : ℕ) (old new : List ℕ) → process < 64 → has_events events process ≡ true
    → new ≡ old ++ process ∷ []
    → lanes events ≡ old ++ lanes_from events process → lanes events ≡ new ++ lanes_from events (process + 1)
lanes-yes events process old new below has push before =
    let next = lanes-next events process below in
    let first : lanes_from events process ≡ process ∷ lanes_from events (process + 1) = rw has at next in
    let joined = append_assoc old (process ∷ []) (lanes_from events (process + 1)) in
    rw push (before ∙ (ap (λ rest. old ++ rest) first ∙ sym joined))

pub lanes-no : (events : List Event) (process : ℕ) (old : List ℕ) → process < 64 → has_events events process ≡ false
    → lanes events ≡ old ++ lanes_from events process → lanes events ≡ old ++ lanes_from events (process + 1)
lanes-no events process old below has before =
    let next = lanes-next events process below in
    let rest : lanes_from events process ≡ lanes_from events (process + 1) = rw has at next in
    before ∙ ap (λ rest. old ++ rest) rest

-- the process of an event is within the limit
process-below : (event : Event) → is_small event ≡ true → process_of event < process_limit
process-below (Invoke process call) h = ltb-true process process_limit h
process-below (Answer process reply) h = ltb-true process process_limit (and_parts _ _ h).0

lane-below : (limit : ℕ) (events : List Event) (place : ℕ) (event : Event) → process_of event < limit → slice_get events place ≡ Some event
    → Contains (filter (has_events events) (range_with_len 0 limit)) (process_of event)
lane-below limit events place event below here =
    let within = slice_get_within events place event here in
    let same : get_or events place event ≡ event = get_or_from_slice_get events place event event here in
    Contains-filter (has_events events) (range_with_len 0 limit) (process_of event) (Contains-range limit (process_of event) below)
    (list_any_at (λ e. process_of e == process_of event) events place event within
    (rw same (eq-eqb (process_of event) (process_of event) refl)))

-- each process with an event has a lane
pub lane-is : (events : List Event) (place : ℕ) (event : Event) → AreHistoryEvents events → slice_get events place ≡ Some event
    → Contains (lanes events) (process_of event)
unfolding lanes
lane-is events place event is here =
    let within = slice_get_within events place event here in
    let same : get_or events place event ≡ event = get_or_from_slice_get events place event event here in
    let small : is_small event ≡ true = true_from_ne_false (is_small event)
    (λ fails. false≢true (sym (list_all_at is_small events place event within (ap is_small same ∙ fails)) ∙ is.small)) in
    lane-below process_limit events place event (process-below event small) here

-- The value of a history has no float, and nests five deep at most.
use Rattle.events.specs.declared.event.Reply.TheVariants as replies
use Rattle.history_text.proofs.Common.{One, Two, Three, ◌≡◌, ℕ, ◌≤◌, List, [], ◌∷◌, map, Option, Some, None, false, refl, arith, Data, depth}
use Rattle.history_text.proofs.Common.{items_depth, items_of, has_float, items_have_float, Call, Get, Insert, Remove, Scan, Replace, Reply, Event}
use Rattle.history_text.proofs.Common.{Invoke, Answer, TextVersion, pair_data, call_data, reply_data, event_data, document, least_version}
use Rattle.history_text.proofs.Common.{written_start, history_data, start_data, HistoryView}

module _ {A : Type 0} (f : A → Data) where
  -- a list has no float where no item has one
  pub items_have_float-map : ((x : A) → has_float (f x) ≡ false) → (xs : List A) → items_have_float (items_of (map f xs)) ≡ false
  items_have_float-map each [] = refl
  items_have_float-map each (x ∷ xs) = rw (each x, items_have_float-map each xs) refl

  -- a list nests as deep as its items
  pub items_depth-map : (n : ℕ) → ((x : A) → depth (f x) ≤ n) → (xs : List A) → items_depth (items_of (map f xs)) ≤ n
  items_depth-map n each [] = omega arith
  items_depth-map n each (x ∷ xs) = omega (arith, each x, items_depth-map n each xs)

-- a call has no float
pub has_float-call : (call : Call) → has_float (call_data call) ≡ false
has_float-call (Get key) = refl
has_float-call (Insert key value) = refl
has_float-call (Remove key) = refl
has_float-call (Scan low high) = refl
has_float-call (Replace key old new) = refl

-- a reply has no float
pub has_float-reply : (reply : Reply) → has_float (reply_data reply) ≡ false
has_float-reply replies.None = refl
has_float-reply (replies.Some value) = refl
has_float-reply (replies.Pairs pairs) = items_have_float-map pair_data (λ pair. refl) pairs
has_float-reply replies.Refused = refl
has_float-reply replies.Done = refl
has_float-reply replies.Found = refl
has_float-reply replies.Other = refl

-- an event has no float
pub has_float-event : (e : Event) → has_float (event_data e) ≡ false
has_float-event (Invoke p call) = rw (has_float-call call) refl
has_float-event (Answer p reply) = rw (has_float-reply reply) refl

-- a history has no float
pub has_float-history : (history : HistoryView) → has_float (history_data history) ≡ false
has_float-history history = by_version (least_version history)
  where
    events : items_have_float (items_of (map event_data history.events)) ≡ false
    events = items_have_float-map event_data has_float-event history.events

    pairs : items_have_float (items_of (map pair_data history.start)) ≡ false
    pairs = items_have_float-map pair_data (λ pair. refl) history.start

    by_version : (version : TextVersion)
        → has_float (document version (written_start version history.start) (map event_data history.events)) ≡ false
    by_version One = rw events refl
    by_version Two = rw (events, pairs) refl
    by_version Three = rw (events, pairs) refl

-- a call nests two deep at most
pub depth-call : (call : Call) → depth (call_data call) ≤ 2
depth-call (Get key) = omega arith
depth-call (Insert key value) = omega arith
depth-call (Remove key) = omega arith
depth-call (Scan low high) = omega arith
depth-call (Replace key old new) = omega arith

-- a reply nests two deep at most
depth-reply : (reply : Reply) → depth (reply_data reply) ≤ 2
depth-reply replies.None = omega arith
depth-reply (replies.Some value) = omega arith
depth-reply (replies.Pairs pairs) = omega (arith, items_depth-map pair_data 1 (λ pair. omega arith) pairs)
depth-reply replies.Refused = omega arith
depth-reply replies.Done = omega arith
depth-reply replies.Found = omega arith
depth-reply replies.Other = omega arith

-- an event nests three deep at most
pub depth-event : (e : Event) → depth (event_data e) ≤ 3
depth-event (Invoke p call) = omega (arith, depth-call call)
depth-event (Answer p reply) = omega (arith, depth-reply reply)

-- a document nests five deep at most
pub depth-document : (version : TextVersion) (start : Option (List (ℕ × ℕ))) (events : List Event)
    → depth (document version (start_data start) (map event_data events)) ≤ 5
depth-document version None events = omega (arith, items_depth-map event_data 3 depth-event events)
depth-document version (Some pairs) events =
    omega (arith, items_depth-map event_data 3 depth-event events, items_depth-map pair_data 1 (λ pair. omega arith) pairs)

-- a history nests five deep at most
pub depth-history : (history : HistoryView) → depth (history_data history) ≤ 5
depth-history history = by_version (least_version history)
  where
    by_version : (version : TextVersion)
        → depth (document version (written_start version history.start) (map event_data history.events)) ≤ 5
    by_version One = depth-document One None history.events
    by_version Two = depth-document Two (Some history.start) history.events
    by_version Three = depth-document Three (Some history.start) history.events

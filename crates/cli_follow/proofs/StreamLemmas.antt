-- Lines of a stream, with one line more.
use Rattle.cli_follow.proofs.Common.{One, Two, Three, ℕ, List, [], ◌∷◌, ◌++◌, ap, Event, HistoryView, with_event, TextVersion, SpellsEvent}
use Rattle.cli_follow.proofs.Common.{SpellEvents, SpellFromStart, SpellStream}

SpellEvents-push : (h : TextVersion) (lines : List (List ℕ)) (events : List Event) (line : List ℕ) (e : Event) → SpellEvents h lines events
    → SpellsEvent h line e
    → SpellEvents h (lines ++ line ∷ []) (events ++ e ∷ [])
SpellEvents-push h [] [] line e spelled this = (this, tt)
SpellEvents-push h [] (x ∷ events) line e spelled this = absurd spelled
SpellEvents-push h (l ∷ lines) [] line e spelled this = absurd spelled
SpellEvents-push h (l ∷ lines) (x ∷ events) line e spelled this = (spelled.0, SpellEvents-push h lines events line e spelled.1 this)

push_event : (h : TextVersion) (lines : List (List ℕ)) (stream : HistoryView) (line : List ℕ) (e : Event) → SpellFromStart h lines stream
    → SpellsEvent h line e
    → SpellFromStart h (lines ++ line ∷ []) (with_event stream e)
push_event h lines stream line e spelled this = record {
  first = spelled.first;
  others = spelled.others ++ line ∷ [];
  parts = ap (λ (xs : List (List ℕ)). xs ++ line ∷ []) spelled.parts;
  start = spelled.start;
  events = SpellEvents-push h spelled.others stream.events line e spelled.events this;
}

-- the stream grows by the event of the line
pub SpellStream-push : (h : TextVersion) (lines : List (List ℕ)) (stream : HistoryView) (line : List ℕ) (e : Event) → SpellStream h lines stream
    → SpellsEvent h line e
    → SpellStream h (lines ++ line ∷ []) (with_event stream e)
SpellStream-push One lines stream line e spelled this = (spelled.0, SpellEvents-push One lines stream.events line e spelled.1 this)
SpellStream-push Two lines stream line e spelled this = push_event Two lines stream line e spelled this
SpellStream-push Three lines stream line e spelled this = push_event Three lines stream line e spelled this

-- A line has one meaning: it spells one event, or has one fault.
use Rattle.stream_text.specs.declared.line_fault.LineFault.TheVariants as faults
use Rattle.stream_text.proofs.Common.{◌≡◌, ◌≢◌, ℕ, ◌<◌, ◌≤◌, List, length, Some, inl, inr, subst, refl, sym, ap, ◌∙◌, arith, ◌⊎◌, IsTrue, IsUtf8}
use Rattle.stream_text.proofs.Common.{Data, Event, is_shaped, TextVersion, IsEventData, may_stand, same_value, line_limit, number_limit, IsLine}
use Rattle.stream_text.proofs.Common.{MayStandIn, IsByteFault, IsEventFault, IsLineFault, SpellsOneEvent, HasOneLineFault, FaultySpellsNoEvent}
use Rattle.stream_text.proofs.Common.{LineFault}
use Rattle.serde_json.specs.Read.{read}
use Rattle.events.specs.Events.{process_of}
use Rattle.history_text.specs.TextFaults.{SpellsNoEvent}
use Rattle.history_text.proofs.TextLemmas.{one_event as same_event}

-- a line has one value only
pub one_line_value : (line : List ℕ) (d e : Data) → IsLine line d → IsLine line e → d ≡ e
one_line_value line d e a b = same_value line d e a.json b.json

-- a line spells one event only
pub one_event : SpellsOneEvent
one_event version line a b first second =
    same_event version second.value a b
    (subst (λ (d : Data). IsEventData version d a) (one_line_value line first.value second.value first.is_line second.is_line)
    first.spelled)
    second.spelled

-- ---- faults of the bytes

-- a line that is no JSON in UTF-8
abbrev IsNoJsonLine : List ℕ → Type 0
IsNoJsonLine line = (d : Data) → IsUtf8 line → read line ≡ Some d → ⊥

-- which fault the bytes have
abbrev ByteKind : List ℕ → LineFault → Type 0
ByteKind line f = ((f ≡ faults.TooLong) × (line_limit < length line)) ⊎ ((f ≡ faults.NotJson) × (length line ≤ line_limit) × IsNoJsonLine
    line)

ByteKind-from_fault : (line : List ℕ) (f : LineFault) → IsByteFault line f → f ≢ faults.Memory → ByteKind line f
ByteKind-from_fault line faults.TooLong h other = inl (refl, h)
ByteKind-from_fault line faults.NotJson h other = inr (refl, h.0, h.1)
ByteKind-from_fault line faults.Version h other = absurd h
ByteKind-from_fault line faults.Shape h other = absurd h
ByteKind-from_fault line faults.TooMany h other = absurd h
ByteKind-from_fault line faults.Memory h other = absurd (other refl)
ByteKind-from_fault line (faults.Start at) h other = absurd h

one_byte_kind : (line : List ℕ) (f g : LineFault) → ByteKind line f → ByteKind line g → f ≡ g
one_byte_kind line f g (inl a) (inl b) = a.0 ∙ sym b.0
one_byte_kind line f g (inl a) (inr b) = absurd (omega (arith, a.1, b.1))
one_byte_kind line f g (inr a) (inl b) = absurd (omega (arith, a.1, b.1))
one_byte_kind line f g (inr a) (inr b) = a.0 ∙ sym b.0

-- bytes with a fault have no value
no_line_value : (line : List ℕ) (f : LineFault) (d : Data) → ByteKind line f → IsLine line d → ⊥
no_line_value line f d (inl a) is = omega (arith, a.1, is.short)
no_line_value line f d (inr a) is = a.2 d is.json.utf8 is.json.value

-- ---- faults of lines, by those of values

module _ (IsValueFault : Data → LineFault → Type 0) where
  -- a line has one fault only where its value has
  pub one_fault_of_lines :
      ((d : Data) (f g : LineFault) → IsValueFault d f → IsValueFault d g → f ≢ faults.Memory → g ≢ faults.Memory → f ≡ g)
      → (line : List ℕ) (f g : LineFault) → IsLineFault IsValueFault line f → IsLineFault IsValueFault line g → f ≢ faults.Memory
      → g ≢ faults.Memory → f ≡ g
  one_fault_of_lines one line f g (inl a) (inl b) not_f not_g =
      one_byte_kind line f g (ByteKind-from_fault line f a not_f) (ByteKind-from_fault line g b not_g)
  one_fault_of_lines one line f g (inl a) (inr b) not_f not_g = absurd (no_line_value line f b.0 (ByteKind-from_fault line f a not_f) b.1)
  one_fault_of_lines one line f g (inr a) (inl b) not_f not_g = absurd (no_line_value line g a.0 (ByteKind-from_fault line g b not_g) a.1)
  one_fault_of_lines one line f g (inr a) (inr b) not_f not_g =
      let same = one_line_value line b.0 a.0 b.1 a.1 in
      one a.0 f g a.2 (subst (λ (d : Data). IsValueFault d g) same b.2) not_f not_g

  -- a fault of a line with a value is one of this value
  pub value_fault : (line : List ℕ) (d : Data) (f : LineFault) → IsLineFault IsValueFault line f → f ≢ faults.Memory → IsLine line d
      → IsValueFault d f
  value_fault line d f (inl a) not_f is = absurd (no_line_value line f d (ByteKind-from_fault line f a not_f) is)
  value_fault line d f (inr a) not_f is = subst (λ (e : Data). IsValueFault e f) (one_line_value line a.0 d a.1 is) a.2

-- ---- faults of events

-- an event of this value is past the limit of processes
abbrev SpellsLarge : TextVersion → Data → Type 0
SpellsLarge version d = (e : Event) × IsEventData version d e × IsTrue (is_shaped e) × IsTrue
    (may_stand version e) × (number_limit ≤ process_of e)

-- which fault the value of an event has
abbrev EventKind : TextVersion → Data → LineFault → Type 0
EventKind version d f = ((f ≡ faults.Shape) × SpellsNoEvent version d) ⊎ ((f ≡ faults.TooMany) × SpellsLarge version d)

EventKind-from_fault : (version : TextVersion) (d : Data) (f : LineFault) → IsEventFault version d f → f ≢ faults.Memory
    → EventKind version d f
EventKind-from_fault version d faults.TooLong h other = absurd h
EventKind-from_fault version d faults.NotJson h other = absurd h
EventKind-from_fault version d faults.Version h other = absurd h
EventKind-from_fault version d faults.Shape h other = inl (refl, h)
EventKind-from_fault version d faults.TooMany h other = inr (refl, h)
EventKind-from_fault version d faults.Memory h other = absurd (other refl)
EventKind-from_fault version d (faults.Start at) h other = absurd h

one_event_kind : (version : TextVersion) (d : Data) (f g : LineFault) → EventKind version d f → EventKind version d g → f ≡ g
one_event_kind version d f g (inl a) (inl b) = a.0 ∙ sym b.0
one_event_kind version d f g (inl a) (inr b) = absurd (a.1 b.1.0 b.1.1 b.1.2 b.1.3)
one_event_kind version d f g (inr a) (inl b) = absurd (b.1 a.1.0 a.1.1 a.1.2 a.1.3)
one_event_kind version d f g (inr a) (inr b) = a.0 ∙ sym b.0

pub one_event_fault : (version : TextVersion) (d : Data) (f g : LineFault) → IsEventFault version d f → IsEventFault version d g
    → f ≢ faults.Memory → g ≢ faults.Memory → f ≡ g
one_event_fault version d f g a b not_f not_g =
    one_event_kind version d f g (EventKind-from_fault version d f a not_f) (EventKind-from_fault version d g b not_g)

-- the value of an event that may be there has none
no_event_kind : (version : TextVersion) (d : Data) (e : Event) (f : LineFault) → EventKind version d f → IsEventData version d e
    → MayStandIn version e → ⊥
no_event_kind version d e f (inl a) is stands = a.1 e is stands.shaped stands.standing
no_event_kind version d e f (inr a) is stands =
    let same : process_of e ≡ process_of a.1.0 = ap process_of (same_event version d e a.1.0 is a.1.1) in
    omega (arith, same, stands.few, a.1.4)

pub no_event_fault : (version : TextVersion) (d : Data) (e : Event) (f : LineFault) → IsEventFault version d f → f ≢ faults.Memory
    → IsEventData version d e → MayStandIn version e → ⊥
no_event_fault version d e f h other is stands = no_event_kind version d e f (EventKind-from_fault version d f h other) is stands

-- ---- the laws

pub one_line_fault : HasOneLineFault
one_line_fault version = one_fault_of_lines (IsEventFault version) (one_event_fault version)

pub no_event : FaultySpellsNoEvent
no_event version line f e h other spelled =
    no_event_fault version spelled.value e f (value_fault (IsEventFault version) line spelled.value f h other spelled.is_line) other
    spelled.spelled spelled.stands

-- a fault that cannot be another than `Memory` is that
pub memory_alone : (f : LineFault) → (f ≢ faults.Memory → ⊥) → f ≡ faults.Memory
memory_alone faults.TooLong h = absurd (h (λ e. cc))
memory_alone faults.NotJson h = absurd (h (λ e. cc))
memory_alone faults.Version h = absurd (h (λ e. cc))
memory_alone faults.Shape h = absurd (h (λ e. cc))
memory_alone faults.TooMany h = absurd (h (λ e. cc))
memory_alone faults.Memory h = refl
memory_alone (faults.Start at) h = absurd (h (λ e. cc))

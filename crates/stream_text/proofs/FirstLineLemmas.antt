-- A first line has one meaning: it spells starting pairs or an event, or has one fault.
use Rattle.stream_text.specs.declared.line_fault.LineFault.TheVariants as faults
use Rattle.stream_text.specs.declared.event.FirstLine.TheVariants as first
use Rattle.events.specs.declared.event.Event.TheVariants as events
use Rattle.stream_text.proofs.Common.{◌≡◌, ◌≢◌, ℕ, ◌<◌, true, false, true≢false, List, [], ◌∷◌, ◌++◌, length, map, codes, get_or, inl, inr, subst}
use Rattle.stream_text.proofs.Common.{refl, sym, ap, ◌∙◌, arith, Result, Ok, Err, IfOk, IfErr, ◌⊎◌, All, IsTrue, All-head, All-weaker, Data, Event}
use Rattle.stream_text.proofs.Common.{KeysRise, is_above, TextVersion, number_data, list_data, pair_data, call_data, reply_data, event_data}
use Rattle.stream_text.proofs.Common.{IsEventData, AreSpelled, list_data_injective, first_names, pairs_injective, same_version, IsPairData, one_pair}
use Rattle.stream_text.proofs.Common.{pairs_spelled, as_event, start_object, NamesVersion, start_line_data, IsLine, IsFirstOf, SpellsFirst}
use Rattle.stream_text.proofs.Common.{ShowsPairFault, IsStartFault, IsFirstFault, IsFirstLineFault, SpellsOneFirst, HasOneFirstFault}
use Rattle.stream_text.proofs.Common.{FaultySpellsNoFirst, StreamEvent, LineFault}
use Rattle.std.proofs.lemmas.List.Quantifiers.{all_pairs_push}
use Rattle.events.proofs.Lists.{AllPairs-across}
use Rattle.events.proofs.StartLemmas.{is_above-true, is_above-All}
use Rattle.history_text.specs.declared.version.TextVersion.TheVariants.{One}
use Rattle.history_text.specs.Versions.{version_number, has_start}
use Rattle.history_text.proofs.SplitLemmas.{GoesOnWith, SplitsAlike, item_at, two_splits}
use Rattle.stream_text.specs.declared.event.FirstLine.{FirstLine}
use Rattle.stream_text.specs.declared.event.StreamEvent.TheVariants.{Invoke, Answer}
use Rattle.stream_text.proofs.LineLemmas.{one_line_value, one_event, one_fault_of_lines, value_fault, one_event_fault, no_event_fault, memory_alone}

-- ---- pairs by rising key

-- one pair more, whose key is above all
pub KeysRise-push : (before : List (ℕ × ℕ)) (pair : ℕ × ℕ) → KeysRise before → is_above before pair.0 ≡ true
    → KeysRise (before ++ pair ∷ [])
KeysRise-push before pair rising above =
    all_pairs_push (λ (a : ℕ × ℕ) (b : ℕ × ℕ). a.0 < b.0) before pair rising (is_above-All before pair.0 above)

-- among pairs by rising key, each key is above those before it
KeysRise-here : (before rest : List (ℕ × ℕ)) (pair : ℕ × ℕ) → KeysRise (before ++ pair ∷ rest) → is_above before pair.0 ≡ true
KeysRise-here before rest pair h =
    let across = AllPairs-across (λ (a : ℕ × ℕ) (b : ℕ × ℕ). a.0 < b.0) before (pair ∷ rest) h in
    is_above-true before pair.0
    (All-weaker (λ (a : ℕ × ℕ). All (λ (b : ℕ × ℕ). a.0 < b.0) (pair ∷ rest)) (λ (a : ℕ × ℕ). a.0 < pair.0)
    (λ a later. All-head (λ (b : ℕ × ℕ). a.0 < b.0) pair rest later) before across)

-- a faulty value is none of those of pairs by rising key
no_pair_fault : (pairs before : List (ℕ × ℕ)) (next : Data) → GoesOnWith IsPairData pairs before next → KeysRise pairs
    → ((pair : ℕ × ℕ) → next ≡ pair_data pair → is_above before pair.0 ≡ false) → ⊥
no_pair_fault pairs before next on rising shows =
    true≢false (sym (KeysRise-here before on.more on.item (subst KeysRise on.parts rising)) ∙ shows on.item on.spelled)

-- ---- what the value of a first line is

start_apart : (s t v w : Data) → start_object s v ≡ start_object t w → (s ≡ t) × (v ≡ w)
start_apart s t v w h = ((cc), (cc))

invoke_is_no_start : codes "invoke" ≡ codes "start" → ⊥
invoke_is_no_start h = let first : 105 ≡ 115 = ap (λ name. get_or name 0 0) h in omega (arith, first)

answer_is_no_start : codes "answer" ≡ codes "start" → ⊥
answer_is_no_start h = let first : 97 ≡ 115 = ap (λ name. get_or name 0 0) h in omega (arith, first)

-- an event is spelled by no starting pairs
pub event_is_no_start : (e : Event) (s v : Data) → event_data e ≡ start_object s v → ⊥
event_is_no_start (events.Invoke p call) s v h =
    invoke_is_no_start (first_names (codes "invoke") (codes "process") (codes "start") (codes "version") (call_data call) (number_data p) s
    v h)
event_is_no_start (events.Answer p reply) s v h =
    answer_is_no_start (first_names (codes "answer") (codes "process") (codes "start") (codes "version") (reply_data reply) (number_data p)
    s v h)

-- no value that spells an event in a stream of version 1 is of starting pairs
no_start_of_event : (d : Data) (e : Event) (s v : Data) → IsEventData One d e → d ≡ start_object s v → ⊥
no_start_of_event d e s v (inl h) is = event_is_no_start e s v (sym h ∙ is)
no_start_of_event d e s v (inr h) is = cc

-- an event of a stream is that of one event
as_event_injective : (a b : StreamEvent) → as_event a ≡ as_event b → a ≡ b
as_event_injective (Invoke p call) (Invoke q call2) h = cc
as_event_injective (Invoke p call) (Answer q reply2) h = cc
as_event_injective (Answer p reply) (Invoke q call2) h = cc
as_event_injective (Answer p reply) (Answer q reply2) h = cc

-- a number names one version
same_number : (v w : TextVersion) → number_data (version_number v) ≡ number_data (version_number w) → v ≡ w
same_number v w h = same_version v w (cc)

-- a first line spells one thing only
pub one_first : SpellsOneFirst
one_first line (first.Start v a) (first.Start w b) x y =
    let parts = start_apart (list_data (map pair_data a)) (list_data (map pair_data b)) (number_data (version_number v))
    (number_data (version_number w)) (one_line_value line (start_line_data v a) (start_line_data w b) x.value y.value) in
    let pairs : a ≡ b = pairs_injective a b (list_data_injective (map pair_data a) (map pair_data b) parts.0) in
    let version : v ≡ w = same_number v w parts.1 in
    cc
one_first line (first.Start v a) (first.Event e) x y =
    absurd (no_start_of_event y.value (as_event e) (list_data (map pair_data a)) (number_data (version_number v)) y.spelled
    (one_line_value line y.value (start_line_data v a) y.is_line x.value))
one_first line (first.Event e) (first.Start w b) x y =
    absurd (no_start_of_event x.value (as_event e) (list_data (map pair_data b)) (number_data (version_number w)) x.spelled
    (one_line_value line x.value (start_line_data w b) x.is_line y.value))
one_first line (first.Event e) (first.Event g) x y = ap first.Event
    (as_event_injective e g (one_event One line (as_event e) (as_event g) x y))

-- ---- faults of starting pairs

-- no array of values, or not the number of a version with a start
abbrev SpellsNoStart : Data → Data → Type 0
SpellsNoStart start named = (items : List Data) (version : TextVersion) → start ≡ list_data items → NamesVersion named version → ⊥

-- an array of values, of which the one at this place is faulty
abbrev HasFaultyPair : Data → Data → ℕ → Type 0
HasFaultyPair start named place =
    (items : List Data) × (version : TextVersion) × (start ≡ list_data items) × NamesVersion named version × ShowsPairFault items place

abbrev StartKind : Data → Data → LineFault → Type 0
StartKind start named f =
    ((f ≡ faults.Version) × SpellsNoStart start named) ⊎ ((place : ℕ) × (f ≡ faults.Start place) × HasFaultyPair start named place)

StartKind-from_fault : (start named : Data) (f : LineFault) → IsStartFault start named f → f ≢ faults.Memory → StartKind start named f
StartKind-from_fault start named faults.TooLong h other = absurd h
StartKind-from_fault start named faults.NotJson h other = absurd h
StartKind-from_fault start named faults.Version h other = inl (refl, h)
StartKind-from_fault start named faults.Shape h other = absurd h
StartKind-from_fault start named faults.TooMany h other = absurd h
StartKind-from_fault start named faults.Memory h other = absurd (other refl)
StartKind-from_fault start named (faults.Start at) h other = inr (at, refl, h)

-- values have one faulty pair at most
one_place : (items : List Data) (p q : ℕ) → ShowsPairFault items p → ShowsPairFault items q → p ≡ q
one_place items p q a b = by_splits
    (two_splits IsPairData one_pair (map pair_data a.before) a.before (map pair_data b.before) b.before a.next b.next a.rest b.rest
    (pairs_spelled a.before) (pairs_spelled b.before) (sym a.parts ∙ b.parts))
  where
    by_splits : SplitsAlike IsPairData a.before b.before a.next b.next → p ≡ q
    by_splits (inl same) = sym a.here ∙ (ap (λ (ps : List (ℕ × ℕ)). length ps) same.0 ∙ b.here)
    by_splits (inr (inl on)) = absurd (no_pair_fault a.before b.before b.next on a.rising b.shows)
    by_splits (inr (inr on)) = absurd (no_pair_fault b.before a.before a.next on b.rising a.shows)

one_start_kind : (start named : Data) (f g : LineFault) → StartKind start named f → StartKind start named g → f ≡ g
one_start_kind start named f g (inl a) (inl b) = a.0 ∙ sym b.0
one_start_kind start named f g (inl a) (inr b) = let there = b.2 in absurd (a.1 there.0 there.1 there.2 there.3)
one_start_kind start named f g (inr a) (inl b) = let there = a.2 in absurd (b.1 there.0 there.1 there.2 there.3)
one_start_kind start named f g (inr a) (inr b) =
    let one = a.2 in
    let other = b.2 in
    let items : other.0 ≡ one.0 = list_data_injective other.0 one.0 (sym other.2 ∙ one.2) in
    let place : a.0 ≡ b.0 = one_place one.0 a.0 b.0 one.4 (subst (λ (ds : List Data). ShowsPairFault ds b.0) items other.4) in
    a.1 ∙ (ap faults.Start place ∙ sym b.1)

-- starting pairs have none
no_start_kind : (version : TextVersion) (pairs : List (ℕ × ℕ)) (f : LineFault)
    → StartKind (list_data (map pair_data pairs)) (number_data (version_number version)) f → IsTrue (has_start version) → KeysRise pairs
    → ⊥
no_start_kind version pairs f (inl a) starts rising = a.1 (map pair_data pairs) version refl (starts, refl)
no_start_kind version pairs f (inr a) starts rising =
    let there = a.2 in
    let shown = there.4 in
    let items = list_data_injective (map pair_data pairs) there.0 there.2 in
    no_pair_fault pairs shown.before shown.next
    (item_at IsPairData one_pair (map pair_data shown.before) shown.before pairs shown.next shown.rest (pairs_spelled shown.before)
    (subst (λ (ds : List Data). AreSpelled IsPairData ds pairs) (items ∙ shown.parts) (pairs_spelled pairs))) rising shown.shows

-- ---- faults of first values

first_start : (s v : Data) (f : LineFault) → IsFirstFault (start_object s v) f → IsStartFault s v f
first_start s v f (inl h) =
    let same = start_apart h.0 s h.1 v (sym h.2) in
    subst (λ (x : Data). IsStartFault x v f) same.0 (subst (λ (y : Data). IsStartFault h.0 y f) same.1 h.3)
first_start s v f (inr h) = absurd (h.0 s v refl)

one_first_value : (d : Data) (f g : LineFault) → IsFirstFault d f → IsFirstFault d g → f ≢ faults.Memory → g ≢ faults.Memory → f ≡ g
one_first_value d f g (inl a) b not_f not_g =
    let other = first_start a.0 a.1 g (subst (λ (x : Data). IsFirstFault x g) a.2 b) in
    one_start_kind a.0 a.1 f g (StartKind-from_fault a.0 a.1 f a.3 not_f) (StartKind-from_fault a.0 a.1 g other not_g)
one_first_value d f g (inr a) (inl b) not_f not_g = absurd (a.0 b.0 b.1 b.2)
one_first_value d f g (inr a) (inr b) not_f not_g = one_event_fault One d f g a.1 b.1 not_f not_g

-- ---- the laws

pub one_first_fault : HasOneFirstFault
one_first_fault = one_fault_of_lines IsFirstFault one_first_value

pub no_first : FaultySpellsNoFirst
no_first line f (first.Start version pairs) h other spelled =
    let start = list_data (map pair_data pairs) in
    let named = number_data (version_number version) in
    let shown = first_start start named f (value_fault IsFirstFault line (start_line_data version pairs) f h other spelled.value) in
    no_start_kind version pairs f (StartKind-from_fault start named f shown other) spelled.starts spelled.rising
no_first line f (first.Event e) h other spelled = by_value (value_fault IsFirstFault line spelled.value f h other spelled.is_line)
  where
    by_value : IsFirstFault spelled.value f → ⊥
    by_value (inl a) = no_start_of_event spelled.value (as_event e) a.0 a.1 spelled.spelled a.2
    by_value (inr a) = no_event_fault One spelled.value (as_event e) f a.1 other spelled.spelled spelled.stands

-- ---- what is read of a first line, by what is read of its value

pub first_spelled : (line : List ℕ) (d : Data) (r : Result FirstLine LineFault) → IsLine line d → IfOk r (IsFirstOf d)
    → IfOk r (SpellsFirst line)
first_spelled line d (Ok (first.Start version pairs)) is ok =
    record { starts = ok.0; value = subst (IsLine line) ok.1 is; rising = ok.2 }
first_spelled line d (Ok (first.Event e)) is ok = record { value = d; is_line = is; spelled = ok.0; stands = ok.1 }
first_spelled line d (Err f) is ok = tt

pub first_refused : (line : List ℕ) (d : Data) (r : Result FirstLine LineFault) → IsLine line d → IfErr r (IsFirstFault d)
    → IfErr r (IsFirstLineFault line)
first_refused line d (Ok found) is wrong = tt
first_refused line d (Err f) is wrong = inr (d, is, wrong)

-- what is refused spells nothing, unless memory ran out
pub first_accepted : (line : List ℕ) (found : FirstLine) (r : Result FirstLine LineFault) → IfErr r (IsFirstLineFault line)
    → SpellsFirst line found → IfErr r (λ f. f ≡ faults.Memory)
first_accepted line found (Ok other) wrong spelled = tt
first_accepted line found (Err f) wrong spelled = memory_alone f (λ other. no_first line f found wrong other spelled)

-- What the values of a line are, one by one.
use Rattle.stream_text.specs.declared.line_fault.LineFault.TheVariants as faults
use Rattle.stream_text.proofs.Common.{◌≡◌, ℕ, ◌+◌, ◌<◌, ◌≤◌, false, List, [], ◌∷◌, ◌++◌, length, map, take, drop, get_or, subst, inl, refl, sym, ap}
use Rattle.stream_text.proofs.Common.{ap₂, ◌∙◌, IsTrue, map-append, take_more, Data, view, has_range, is_above, KeysRise, TextVersion, number_data}
use Rattle.stream_text.proofs.Common.{pair_data, call_data, reply_data, may_stand, pair_data_injective, number_limit, IsEventFault, ShowsPairFault}
use Rattle.events.specs.declared.event.Call.{Call}
use Rattle.events.specs.declared.event.Reply.{Reply}
use Rattle.history_text.specs.ValueFaults.{invocation_data, response_data}
use Rattle.serde_json.specs.declared.value.Value.{Value}
use Rattle.events.specs.declared.event.Event.TheVariants.{Invoke, Answer}
use Rattle.history_text.proofs.ValueFaultLemmas.{pairs_before, pairs_and_value}

-- an invocation by a process past the limit is too many
pub too_many-invocation : (version : TextVersion) (p : ℕ) (call : Call) (c d : Data) → c ≡ call_data call → d ≡ number_data p
    → IsTrue (has_range call)
    → number_limit ≤ p → IsTrue (may_stand version (Invoke p call)) → IsEventFault version (invocation_data c d) faults.TooMany
too_many-invocation version p call c d spelled number range h standing =
    (Invoke p call, inl (rw (spelled, number) refl), range, standing, h)

-- a response by a process past the limit is too many
pub too_many-response : (version : TextVersion) (p : ℕ) (reply : Reply) (c d : Data) → c ≡ reply_data reply → d ≡ number_data p
    → number_limit ≤ p → IsTrue (may_stand version (Answer p reply))
    → IsEventFault version (response_data c d) faults.TooMany
too_many-response version p reply c d spelled number h standing = (Answer p reply, inl (rw (spelled, number) refl), refl, standing, h)

-- one pair more is spelled
pub pairs_more : (vs : List Value) (before : List (ℕ × ℕ)) (i : ℕ) (v : Value) (pair : ℕ × ℕ) → i < length vs → v ≡ get_or vs i v
    → map view (take i vs) ≡ map pair_data before → view v ≡ pair_data pair
    → map view (take (i + 1) vs) ≡ map pair_data (before ++ pair ∷ [])
pairs_more vs before i v pair within here spelled next =
    ap (map view) (take_more vs i v within)
    ∙ (map-append view (take i vs) (get_or vs i v ∷ [])
    ∙ (ap₂ (λ (xs : List Data) (x : Data). xs ++ x ∷ []) spelled (ap view (sym here) ∙ next)
    ∙ sym (map-append pair_data before (pair ∷ []))))

-- a value that spells no pair which may be there shows the fault
pub faulty_pair : (vs : List Value) (before : List (ℕ × ℕ)) (i : ℕ) (v : Value) → i < length vs → v ≡ get_or vs i v
    → map view (take i vs) ≡ map pair_data before
    → KeysRise before → ((pair : ℕ × ℕ) → view v ≡ pair_data pair → is_above before pair.0 ≡ false) → ShowsPairFault (map view vs) i
faulty_pair vs before i v within here spelled rising shows = record {
  before = before;
  next = view v;
  rest = map view (drop (i + 1) vs);
  parts = pairs_and_value vs before i v within here spelled;
  rising = rising;
  here = pairs_before vs before i within spelled;
  shows = shows;
}

-- a value that spells a pair spells no other
pub same_pair : (before : List (ℕ × ℕ)) (d : Data) (pair : ℕ × ℕ) → d ≡ pair_data pair → is_above before pair.0 ≡ false
    → (other : ℕ × ℕ) → d ≡ pair_data other → is_above before other.0 ≡ false
same_pair before d pair is not_above other spelled =
    subst (λ (p : ℕ × ℕ). is_above before p.0 ≡ false) (pair_data_injective pair other (sym is ∙ spelled)) not_above

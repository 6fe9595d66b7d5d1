-- A document has one start and one list of events, and a text spells one history only.
use Rattle.history_text.proofs.Common.{One, Two, Three, ◌≡◌, ℕ, List, [], ◌∷◌, map, Option, Some, None, refl, sym, subst, ap, ap₂, ◌∙◌, arith}
use Rattle.history_text.proofs.Common.{same_Some, Data, Event, HistoryView, TextVersion, version_number, pair_data, IsEventData, AreSpelled}
use Rattle.history_text.proofs.Common.{SpellEvents, document, IsDocument, start_data, start_pairs, IsJson, SpellsOneHistory}
use Rattle.history_text.proofs.DataLemmas.{list_data_injective}
use Rattle.history_text.proofs.SplitLemmas.{one_list}
use Rattle.history_text.proofs.TextLemmas.{pair_data_injective, pairs_injective, one_event}

-- a text has one value only
pub same_value : (text : List ℕ) (d e : Data) → IsJson text d → IsJson text e → d ≡ e
same_value text d e a b = same_Some d e (sym a.value ∙ b.value)

-- a number names one version only
pub same_version : (v w : TextVersion) → version_number v ≡ version_number w → v ≡ w
same_version One One h = refl
same_version Two Two h = refl
same_version Three Three h = refl
same_version v w h = absurd (omega (arith, h))

-- a document has one version, one start, or none, and one list of items
document_injective : (v w : TextVersion) (s t : Option (List Data)) (xs ys : List Data) → document v s xs ≡ document w t ys
    → (v ≡ w) × (s ≡ t) × (xs ≡ ys)
document_injective v w None None xs ys h = (same_version v w (cc), refl, list_data_injective xs ys (cc))
document_injective v w None (Some t) xs ys h = cc
document_injective v w (Some s) None xs ys h = cc
document_injective v w (Some s) (Some t) xs ys h =
    (same_version v w (cc), ap Some (list_data_injective s t (cc)), list_data_injective xs ys (cc))

-- a value is that of one document only
pub same_document : (v w : TextVersion) (s t : Option (List Data)) (xs ys : List Data) (d : Data) → IsDocument v s xs d
    → IsDocument w t ys d → (v ≡ w) × (s ≡ t) × (xs ≡ ys)
same_document v w s t xs ys d a b = document_injective v w s t xs ys (sym a.1 ∙ b.1)

-- ---- starting pairs

-- the value spells this pair
abbrev pub IsPairData : Data → ℕ × ℕ → Type 0
IsPairData d pair = d ≡ pair_data pair

-- a value spells one pair only
pub one_pair : (d : Data) (a b : ℕ × ℕ) → IsPairData d a → IsPairData d b → a ≡ b
one_pair d a b h k = pair_data_injective a b (sym h ∙ k)

-- the values of pairs spell them
pub pairs_spelled : (pairs : List (ℕ × ℕ)) → AreSpelled IsPairData (map pair_data pairs) pairs
pairs_spelled [] = tt
pairs_spelled (pair ∷ pairs) = (refl, pairs_spelled pairs)

-- the values of a start are those of one list of pairs
pub start_data_injective : (a b : Option (List (ℕ × ℕ))) → start_data a ≡ start_data b → a ≡ b
start_data_injective None None h = refl
start_data_injective None (Some b) h = cc
start_data_injective (Some a) None h = cc
start_data_injective (Some a) (Some b) h = ap Some (pairs_injective a b (same_Some (map pair_data a) (map pair_data b) h))

-- the values of a start are those of its pairs
pub start_values : (start : Option (List (ℕ × ℕ))) (items : List Data) → Some items ≡ start_data start
    → items ≡ map pair_data (start_pairs start)
start_values None items h = cc
start_values (Some pairs) items h = same_Some items (map pair_data pairs) h

abbrev view_of : List (ℕ × ℕ) → List Event → HistoryView
view_of start events = record { start = start; events = events }

same_view : (a b : HistoryView) → a.start ≡ b.start → a.events ≡ b.events → a ≡ b
same_view a b starts events = ap₂ view_of starts events

-- a text spells one history only
pub one_history : SpellsOneHistory
one_history text a b first second =
    let one = first.spelled in
    let other = second.spelled in
    let same = same_value text first.value second.value first.json second.json in
    let docs = same_document one.version other.version (start_data one.start) (start_data other.start) one.items other.items first.value
    one.value (subst (IsDocument other.version (start_data other.start) other.items) (sym same) other.value) in
    let spelled = subst (λ (items : List Data). SpellEvents other.version items a.events) docs.2
    (subst (λ (v : TextVersion). SpellEvents v one.items a.events) docs.0 one.spelled) in
    same_view a b (one.starts ∙ (ap start_pairs (start_data_injective one.start other.start docs.1) ∙ sym other.starts))
    (one_list (IsEventData other.version) (one_event other.version) other.items a.events b.events spelled other.spelled)

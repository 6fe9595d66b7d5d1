-- The keys of a range, leaf by leaf.
use Rattle.packed_map.proofs.Common.{◌≡◌, ℕ, ◌+◌, ◌<◌, ◌≤◌, ◌==◌, Bool, true, false, List, [], ◌∷◌, ◌++◌, get_or, take, drop, map, filter, Result, Ok}
use Rattle.packed_map.proofs.Common.{Err, IfOk, Some, refl, sym, ap, ◌∙◌, subst, ⊎_elim, arith, append-nil, take-append-drop, ◌-◌, length-take}
use Rattle.packed_map.proofs.Common.{get_or-take, drop-drop, ◌↔◌, All, AllPairs, Contains, if◌then◌else◌, nat_le, IsSome, and_parts, cases_Bool}
use Rattle.packed_map.proofs.Common.{cases_lt, cond_both, eq-eqb, eqb-true, false≢true, leb-true, nat_tests, map-append, flat_map-append, All-drop}
use Rattle.packed_map.proofs.Common.{All-weaker, filter-append, AllPairs-filter, Contains-cases, Contains-filter, Contains-first}
use Rattle.packed_map.proofs.Common.{Contains-from_filter, Contains-later, Contains-nil, filter_none, KeysRise, value_at, AreLeaves, IsFromLeast}
use Rattle.packed_map.proofs.Common.{IsLeafOf, entries_of, is_between, keys_between, Leaf}
use Rattle.events.proofs.FilterLemmas.{AllPairs-map, Contains-from_map, Contains-map}
use Rattle.packed_map.proofs.LeafLemmas.{All-entries}
use Rattle.packed_map.proofs.SearchLemmas.{All-drop_within}

pub keys_between-append : {V : Type 0} (low high : ℕ) (xs ys : List (ℕ × V))
    → keys_between low high (xs ++ ys) ≡ keys_between low high xs ++ keys_between low high ys
keys_between-append {V} low high xs ys =
    let p : ℕ × V → Bool = λ e. is_between low high e.0 in
    ap (map (λ (e : ℕ × V). e.0)) (filter-append p xs ys) ∙ map-append (λ (e : ℕ × V). e.0) (filter p xs) (filter p ys)

below_fails : (low high key : ℕ) → key < low → is_between low high key ≡ false
below_fails low high key less = grind (arith, nat_tests)

above_fails : (low high key : ℕ) → high < key → is_between low high key ≡ false
above_fails low high key less = grind (arith, nat_tests)

-- there are none among lower or higher keys
pub none_below : {V : Type 0} (low high : ℕ) (es : List (ℕ × V)) → All (λ e. e.0 < low) es → keys_between low high es ≡ []
none_below {V} low high es lower =
    ap (map (λ (e : ℕ × V). e.0)) (filter_none (λ e. is_between low high e.0) es
    (All-weaker (λ e. e.0 < low) (λ e. is_between low high e.0 ≡ false) (λ e less. below_fails low high e.0 less) es lower))

pub none_above : {V : Type 0} (low high : ℕ) (es : List (ℕ × V)) → All (λ e. high < e.0) es → keys_between low high es ≡ []
none_above {V} low high es higher =
    ap (map (λ (e : ℕ × V). e.0)) (filter_none (λ e. is_between low high e.0) es
    (All-weaker (λ e. high < e.0) (λ e. is_between low high e.0 ≡ false) (λ e less. above_fails low high e.0 less) es higher))

-- the keys of a range rise
pub between_rise : {V : Type 0} (low high : ℕ) (es : List (ℕ × V)) → KeysRise es → AllPairs (λ k l. k < l) (keys_between low high es)
between_rise {V} low high es rising =
    let p : ℕ × V → Bool = λ e. is_between low high e.0 in
    AllPairs-map (λ k l. k < l) (λ (e : ℕ × V). e.0) (filter p es) (AllPairs-filter (λ d e. d.0 < e.0) p es rising)

-- a key that has a value has an entry
value_at-Contains : {V : Type 0} (es : List (ℕ × V)) (key : ℕ) → IsSome (value_at es key) → (v : V) × Contains es (key, v)
value_at-Contains [] key h = absurd (false≢true h)
value_at-Contains (e ∷ es) key h = ⊎_elim
    (λ here. (e.1, subst (λ k. Contains (e ∷ es) (k, e.1)) (eqb-true e.0 key here) (Contains-first e es)))
    (λ apart. let (v, is) = value_at-Contains es key (subst (λ b. IsSome (if b then Some e.1 else value_at es key)) apart h) in
    (v, Contains-later e es (key, v) is))
    (cases_Bool (e.0 == key))

Contains-value_at : {V : Type 0} (es : List (ℕ × V)) (e : ℕ × V) → Contains es e → IsSome (value_at es e.0)
Contains-value_at [] e h = absurd (Contains-nil e h)
Contains-value_at {V} (x ∷ es) e h = ⊎_elim
    (λ is. let same : (x.0 == e.0) ≡ true = eq-eqb x.0 e.0 (ap (λ (p : ℕ × V). p.0) is) in rw same refl)
    (λ later. cond_both (x.0 == e.0) (Some x.1) (value_at es e.0) (λ o. IsSome o) (λ b. refl) (λ b. Contains-value_at es e later))
    (Contains-cases x es e h)

between-true : (low high key : ℕ) → is_between low high key ≡ true → (low ≤ key) × (key ≤ high)
between-true low high key h =
    let parts = and_parts (nat_le low key) (nat_le key high) h in (leb-true low key parts.0, leb-true key high parts.1)

between-from : (low high key : ℕ) → low ≤ key → key ≤ high → is_between low high key ≡ true
between-from low high key above below = grind (arith, nat_tests)

-- the keys of a range are those of its entries
pub between_each : {V : Type 0} (low high : ℕ) (es : List (ℕ × V)) (key : ℕ) → Contains (keys_between low high es) key
    ↔ ((low ≤ key) × (key ≤ high) × IsSome (value_at es key))
between_each {V} low high es key = (
  λ h.
      let p : ℕ × V → Bool = λ e. is_between low high e.0 in
      let (e, is, at) = Contains-from_map (λ (e : ℕ × V). e.0) (filter p es) key h in
      let (known, inside) = Contains-from_filter p es e is in
      let bounds = between-true low high e.0 inside in
      (subst (λ k. low ≤ k) at bounds.0, subst (λ k. k ≤ high) at bounds.1, subst (λ k. IsSome (value_at es k)) at (Contains-value_at es e known)),
  λ h.
      let p : ℕ × V → Bool = λ e. is_between low high e.0 in
      let (v, known) = value_at-Contains es key h.2 in
      Contains-map (λ (e : ℕ × V). e.0) (filter p es) (key, v) (Contains-filter p es (key, v) known (between-from low high key h.0 h.1)),
)

-- all keys rise, and are those that have a value
pub all_rise : {V : Type 0} (es : List (ℕ × V)) → KeysRise es → AllPairs (λ k l. k < l) (map (λ e. e.0) es)
all_rise {V} es rising = AllPairs-map (λ k l. k < l) (λ (e : ℕ × V). e.0) es rising

pub all_each : {V : Type 0} (es : List (ℕ × V)) (key : ℕ) → Contains (map (λ e. e.0) es) key ↔ IsSome (value_at es key)
all_each {V} es key = (
  λ h. let (e, is, at) = Contains-from_map (λ (e : ℕ × V). e.0) es key h in subst (λ k. IsSome (value_at es k)) at (Contains-value_at es e is),
  λ h. let (v, known) = value_at-Contains es key h in Contains-map (λ (e : ℕ × V). e.0) es (key, v) known,
)

-- the keys of leaves before that of a key are lower, and those of leaves after it higher
lower_leaves : {V : Type 0} (key i : ℕ) (leaves : List (Leaf V)) → AreLeaves leaves → IsLeafOf key leaves i
    → All (λ e. e.0 < key) (entries_of (take i leaves))
lower_leaves {V} key i leaves are place =
    All-entries (λ e. e.0 < key) (take i leaves) (λ k d within.
    let before : k < i = omega (arith, length-take i leaves) in
    let from = place.from d in
    subst (λ (n : Leaf V). All (λ e. e.0 < key) n.entries.items) (sym (get_or-take i leaves k d before))
    (All-weaker (λ e. e.0 < (get_or leaves i d).from) (λ e. e.0 < key) (λ e less. omega (arith, less, from)) (get_or leaves k d).entries.items
    (are.parted k i d before place.there).1))

higher_leaves : {V : Type 0} (key i : ℕ) (leaves : List (Leaf V)) → AreLeaves leaves → IsLeafOf key leaves i
    → All (λ e. key < e.0) (entries_of (drop (i + 1) leaves))
higher_leaves {V} key i leaves are place =
    let above : All (λ n. key < n.from) (drop (i + 1) leaves) = All-drop_within (λ n. key < n.from) leaves (i + 1) place.later in
    let least : All (λ n. IsFromLeast n) (drop (i + 1) leaves) = All-drop (λ n. IsFromLeast n) (i + 1) leaves are.least in
    All-entries (λ e. key < e.0) (drop (i + 1) leaves) (λ k d within.
    let n = get_or (drop (i + 1) leaves) k d in
    let from : key < n.from = above k d within in
    All-weaker (λ e. n.from ≤ e.0) (λ e. key < e.0) (λ e le. omega (arith, le, from)) n.entries.items (least k d within))

-- the leaf of the lower end is not after that of the higher
pub ends_in_order : {V : Type 0} (low high first last : ℕ) (leaves : List (Leaf V)) → low ≤ high → IsLeafOf low leaves first
    → IsLeafOf high leaves last → first ≤ last
ends_in_order low high first last [] le one other = absurd (omega (arith, one.there))
ends_in_order low high first last (l ∷ leaves) le one other = ⊎_elim
    (λ behind.
    let above = other.later first l (omega (arith, behind)) one.there in
    let below = one.from l in
    absurd (omega (arith, le, above, below)))
    (λ fine. fine)
    (cases_lt last first)

-- the keys of the leaves between are those of all
pub keys_of_middle : {V : Type 0} (low high first last : ℕ) (leaves middle : List (Leaf V)) → AreLeaves leaves → low ≤ high
    → IsLeafOf low leaves first → IsLeafOf high leaves last → middle ≡ take (last + 1 - first) (drop first leaves)
    → keys_between low high (entries_of middle) ≡ keys_between low high (entries_of leaves)
keys_of_middle {V} low high first last leaves middle are le one other is =
    let order = ends_in_order low high first last leaves le one other in
    let behind : drop (last + 1 - first) (drop first leaves) ≡ drop (last + 1) leaves =
    drop-drop (last + 1 - first) first leaves ∙ ap (λ (n : ℕ). drop n leaves) (omega (arith, order)) in
    let parts : leaves ≡ take first leaves ++ (middle ++ drop (last + 1) leaves) =
    sym (take-append-drop first leaves) ∙ ap (λ ls. take first leaves ++ ls)
    (sym (take-append-drop (last + 1 - first) (drop first leaves))
    ∙ ap (λ ls. take (last + 1 - first) (drop first leaves) ++ ls) behind ∙ ap (λ ls. ls ++ drop (last + 1) leaves) (sym is)) in
    let f : Leaf V → List (ℕ × V) = λ l. l.entries.items in
    let entries : entries_of leaves ≡ entries_of (take first leaves) ++ (entries_of middle ++ entries_of (drop (last + 1) leaves)) =
    ap (λ ls. entries_of ls) parts ∙ flat_map-append f (take first leaves) (middle ++ drop (last + 1) leaves)
    ∙ ap (λ es. entries_of (take first leaves) ++ es) (flat_map-append f middle (drop (last + 1) leaves)) in
    sym (ap (λ es. keys_between low high es) entries
    ∙ keys_between-append low high (entries_of (take first leaves)) (entries_of middle ++ entries_of (drop (last + 1) leaves))
    ∙ ap (λ ks. ks ++ keys_between low high (entries_of middle ++ entries_of (drop (last + 1) leaves)))
    (none_below low high (entries_of (take first leaves)) (lower_leaves low first leaves are one))
    ∙ keys_between-append low high (entries_of middle) (entries_of (drop (last + 1) leaves))
    ∙ ap (λ ks. keys_between low high (entries_of middle) ++ ks)
    (none_above low high (entries_of (drop (last + 1) leaves)) (higher_leaves high last leaves are other))
    ∙ append-nil (keys_between low high (entries_of middle)))

-- what follows for a result that is there
pub if_ok : {T E : Type 0} (result : Result T E) (P Q : T → Type 0) → ((x : T) → P x → Q x) → IfOk result P → IfOk result Q
if_ok (Ok x) P Q follows h = follows x h
if_ok (Err e) P Q follows h = tt

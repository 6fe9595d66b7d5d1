-- Where entries by rising key part around a key.
use Rattle.packed_map.proofs.Common.{◌≡◌, ℕ, zero, suc, ◌+◌, ◌<◌, ◌≤◌, Bool, true, false, List, [], ◌∷◌, ◌++◌, length, get_or, take, drop, set}
use Rattle.packed_map.proofs.Common.{Option, Some, None, add-one, refl, sym, ap, ◌∙◌, subst, ⊎_elim, arith, take-append-drop, length-take}
use Rattle.packed_map.proofs.Common.{length-drop, get_or-take, get_or-drop, All, AllPairs, if◌then◌else◌, AllWithin, HoldsAt, insert, remove}
use Rattle.packed_map.proofs.Common.{IsNonDecreasingBy, IsPartitionPoint, nat_cmp, ordering_index, Less, Equal, Greater, cases_lt, nat_tests}
use Rattle.packed_map.proofs.Common.{All-head, All-weaker, AllPairs-across, AllPairs-back, AllPairs-head, parts_at, IsEdit, KeysRise, entry_if}
use Rattle.packed_map.proofs.Common.{value_at}
use Rattle.std.proofs.lemmas.Cmp.{ranked}
use Rattle.packed_map.proofs.EditLemmas.{edit_nothing, edit_was}

-- what holds of each place in a part of a list holds of its elements
pub All-take_within : {X : Type 0} (P : X → Type 0) (xs : List X) (i : ℕ) → i ≤ length xs → AllWithin P xs 0 i → All P (take i xs)
All-take_within P xs i fits h k d within =
    let before : k < i = omega (arith, length-take i xs) in
    subst P (sym (get_or-take i xs k d before)) (h k d (omega arith) before)

pub All-drop_within : {X : Type 0} (P : X → Type 0) (xs : List X) (i : ℕ) → AllWithin P xs i (length xs) → All P (drop i xs)
All-drop_within P xs i h k d within =
    subst P (sym (get_or-drop i xs k d)) (h (i + k) d (omega arith) (omega (arith, length-drop i xs)))

set_suc : {X : Type 0} (xs : List X) (i : ℕ) (y : X) → i < length xs → set xs i y ≡ take i xs ++ y ∷ drop (suc i) xs
set_suc [] i y within = absurd (omega arith)
set_suc (x ∷ xs) zero y within = refl
set_suc (x ∷ xs) (suc i) y within = ap (λ ys. x ∷ ys) (set_suc xs i y (omega arith))

-- a list with another element at a place
pub set_at : {X : Type 0} (xs : List X) (i : ℕ) (y : X) → i < length xs → set xs i y ≡ take i xs ++ y ∷ drop (i + 1) xs
set_at xs i y within = rw add-one (set_suc xs i y within)

-- an edit at the place of a key
pub edit_found : {V : Type 0} (key i : ℕ) (e : ℕ × V) (is : Option V) (es new : List (ℕ × V)) → KeysRise es → i < length es → e ≡ get_or es i e
    → e.0 ≡ key → new ≡ take i es ++ (entry_if key is ++ drop (i + 1) es) → IsEdit key (Some e.1) is es new
edit_found {V} key i e is es new rising within here at after =
    let R : ℕ × V → ℕ × V → Type 0 = λ d f. d.0 < f.0 in
    let parts = parts_at es i e within here in
    let split : AllPairs R (take i es ++ e ∷ drop (i + 1) es) = subst (λ zs. AllPairs R zs) parts rising in
    let across : All (λ d. All (R d) (e ∷ drop (i + 1) es)) (take i es) = AllPairs-across R (take i es) (e ∷ drop (i + 1) es) split in
    let behind : All (R e) (drop (i + 1) es) = AllPairs-head R e (drop (i + 1) es) (AllPairs-back R (take i es) (e ∷ drop (i + 1) es) split) in
    record {
      front = take i es;
      back = drop (i + 1) es;
      lower = All-weaker (λ d. All (R d) (e ∷ drop (i + 1) es)) (λ d. d.0 < key)
          (λ d h. let less : d.0 < e.0 = All-head (R d) e (drop (i + 1) es) h in omega (arith, less, at)) (take i es) across;
      higher = All-weaker (R e) (λ d. key < d.0) (λ d less. omega (arith, less, at)) (drop (i + 1) es) behind;
      before = parts ∙ ap (λ (k : ℕ). take i es ++ (k, e.1) ∷ drop (i + 1) es) at;
      after = after;
    }

-- an edit at the place at which a key would be
pub edit_missing : {V : Type 0} (key i : ℕ) (is : Option V) (es new : List (ℕ × V)) → i ≤ length es → AllWithin (λ e. e.0 < key) es 0 i
    → AllWithin (λ e. key < e.0) es i (length es) → new ≡ take i es ++ (entry_if key is ++ drop i es) → IsEdit key None is es new
edit_missing key i is es new fits lower higher after = record {
  front = take i es;
  back = drop i es;
  lower = All-take_within (λ e. e.0 < key) es i fits lower;
  higher = All-drop_within (λ e. key < e.0) es i higher;
  before = sym (take-append-drop i es);
  after = after;
}

-- the comparisons of rising keys with a key do not fall
comparisons_rise : {V : Type 0} (es : List (ℕ × V)) (key : ℕ) → KeysRise es → IsNonDecreasingBy (λ e. ordering_index (nat_cmp e.0 key)) es
comparisons_rise es key rising i j d le within =
    let keys_rise : (get_or es i d).0 ≤ (get_or es j d).0 = ⊎_elim
    (λ less. let h = rising i j d less within in omega (arith, h))
    (λ more. let same : i ≡ j = omega arith in let h = ap (λ (k : ℕ). (get_or es k d).0) same in omega (arith, h))
    (cases_lt i j) in
    grind (arith, nat_tests)

-- the key at the place that a search found
pub key_found : {V : Type 0} (key i : ℕ) (es : List (ℕ × V)) (d : ℕ × V) → HoldsAt (λ e. nat_cmp e.0 key ≡ Equal) es i → (get_or es i d).0 ≡ key
key_found key i es d h = ranked _ key _ (sym (h d))

-- a search by halves that found a key, and what is at its place
pub edit_read : {V : Type 0} (key i : ℕ) (e : ℕ × V) (es : List (ℕ × V)) → KeysRise es → i < length es → e ≡ get_or es i e
    → HoldsAt (λ f. nat_cmp f.0 key ≡ Equal) es i → IsEdit key (Some e.1) (Some e.1) es es
edit_read {V} key i e es rising within here found =
    let at : e.0 ≡ key = ap (λ (f : ℕ × V). f.0) here ∙ key_found key i es e found in
    edit_found key i e (Some e.1) es es rising within here at
    (parts_at es i e within here ∙ ap (λ (k : ℕ). take i es ++ (k, e.1) ∷ drop (i + 1) es) at)

-- the value at the key is written
pub edit_written : {V : Type 0} (key i : ℕ) (e : ℕ × V) (v : V) (es new : List (ℕ × V)) → KeysRise es → i < length es → e ≡ get_or es i e
    → HoldsAt (λ f. nat_cmp f.0 key ≡ Equal) es i → new ≡ set es i (e.0, v) → IsEdit key (Some e.1) (Some v) es new
edit_written {V} key i e v es new rising within here found written =
    let at : e.0 ≡ key = ap (λ (f : ℕ × V). f.0) here ∙ key_found key i es e found in
    edit_found key i e (Some v) es new rising within here at
    (written ∙ set_at es i (e.0, v) within ∙ ap (λ (k : ℕ). take i es ++ (k, v) ∷ drop (i + 1) es) at)

-- the value at the key is replaced
pub edit_put : {V : Type 0} (key i : ℕ) (e : ℕ × V) (v : V) (es new : List (ℕ × V)) → KeysRise es → i < length es → e ≡ get_or es i e
    → HoldsAt (λ f. nat_cmp f.0 key ≡ Equal) es i → new ≡ set es i (e.0, v) → IsEdit key (value_at es key) (Some v) es new
edit_put {V} key i e v es new rising within here found written =
    let e = edit_written key i e v es new rising within here found written in
    subst (λ w. IsEdit key w (Some v) es new) (edit_was key _ (Some v) es new e) e

-- the key is taken out
pub edit_removed : {V : Type 0} (key i : ℕ) (e : ℕ × V) (es new : List (ℕ × V)) → KeysRise es → i < length es → e ≡ get_or es i e
    → HoldsAt (λ f. nat_cmp f.0 key ≡ Equal) es i → new ≡ remove es i → IsEdit key (Some e.1) None es new
edit_removed {V} key i e es new rising within here found removed =
    let at : e.0 ≡ key = ap (λ (f : ℕ × V). f.0) here ∙ key_found key i es e found in
    edit_found key i e None es new rising within here at
    (removed ∙ ap (λ (n : ℕ). take i es ++ drop n es) (sym (add-one i)))

-- the parts around a place at which a key would be
parts_apart : {V : Type 0} (key i : ℕ) (es : List (ℕ × V)) → KeysRise es
    → (IsNonDecreasingBy (λ e. ordering_index (nat_cmp e.0 key)) es → IsPartitionPoint (λ e. nat_cmp e.0 key ≡ Less) (λ e. nat_cmp e.0 key ≡ Greater) es i)
    → AllWithin (λ e. e.0 < key) es 0 i × AllWithin (λ e. key < e.0) es i (length es)
parts_apart key i es rising parted =
    let parts = parted (comparisons_rise es key rising) in
    (λ k d from to. ranked _ key _ (sym (parts.0 k d from to)), λ k d from to. ranked _ key _ (sym (parts.1 k d from to)))

-- a search that found none
pub edit_absent : {V : Type 0} (key i : ℕ) (is : Option V) (es new : List (ℕ × V)) → KeysRise es → i ≤ length es
    → (IsNonDecreasingBy (λ e. ordering_index (nat_cmp e.0 key)) es → IsPartitionPoint (λ e. nat_cmp e.0 key ≡ Less) (λ e. nat_cmp e.0 key ≡ Greater) es i)
    → new ≡ take i es ++ (entry_if key is ++ drop i es) → IsEdit key None is es new
edit_absent key i is es new rising fits parted after =
    let parts = parts_apart key i es rising parted in
    edit_missing key i is es new fits parts.0 parts.1 after

pub edit_none : {V : Type 0} (key i : ℕ) (es new : List (ℕ × V)) → KeysRise es → i ≤ length es
    → (IsNonDecreasingBy (λ e. ordering_index (nat_cmp e.0 key)) es → IsPartitionPoint (λ e. nat_cmp e.0 key ≡ Less) (λ e. nat_cmp e.0 key ≡ Greater) es i)
    → new ≡ es → IsEdit key None None es new
edit_none key i es new rising fits parted same = edit_absent key i None es new rising fits parted (same ∙ sym (take-append-drop i es))

-- the key is put at its place, if memory suffices
pub edit_put_new : {V : Type 0} (key i : ℕ) (v : V) (es new : List (ℕ × V)) (done : Bool) → KeysRise es → i ≤ length es
    → (IsNonDecreasingBy (λ e. ordering_index (nat_cmp e.0 key)) es → IsPartitionPoint (λ e. nat_cmp e.0 key ≡ Less) (λ e. nat_cmp e.0 key ≡ Greater) es i)
    → new ≡ (if done then insert es i (key, v) else es) → IsEdit key (value_at es key) (if done then Some v else value_at es key) es new
edit_put_new key i v es new true rising fits parted put =
    let e = edit_absent key i (Some v) es new rising fits parted put in
    subst (λ w. IsEdit key w (Some v) es new) (edit_was key None (Some v) es new e) e
edit_put_new key i v es new false rising fits parted put =
    subst (λ ns. IsEdit key (value_at es key) (value_at es key) es ns) (sym put) (edit_nothing key es rising)

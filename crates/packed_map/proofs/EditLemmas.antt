-- What an edit makes of the values at all keys, and of their order.
use Rattle.packed_map.proofs.Common.{◌≡◌, ◌≢◌, ℕ, ◌<◌, ◌==◌, Bool, true, false, cond, List, [], ◌∷◌, ◌++◌, get_or, Option, Some, None, Result, Ok}
use Rattle.packed_map.proofs.Common.{Err, OnOk, is_ok, refl, sym, ap, ap₂, ◌∙◌, subst, ⊎_elim, arith, if◌then◌else◌, All, AllPairs, cases_Bool}
use Rattle.packed_map.proofs.Common.{cases_order, eqb-true, eqb-false, ne_eqb, All-append, All-cons, All-head, All-nil, All-tail, All-weaker}
use Rattle.packed_map.proofs.Common.{AllPairs-cons, All-back, All-front, AllPairs-across, AllPairs-append, AllPairs-back, AllPairs-front}
use Rattle.packed_map.proofs.Common.{AllPairs-head, AllPairs-tail, IsEdit, KeysRise, entry_if, value_at}
use Rattle.std.proofs.Common.{eq-eqb}

-- the first of two values that is there
abbrev or_else : {V : Type 0} → Option V → Option V → Option V
or_else None other = other
or_else (Some v) other = Some v

or_none : {V : Type 0} (o : Option V) → or_else o None ≡ o
or_none None = refl
or_none (Some v) = refl

if_or_else : {V : Type 0} (b : Bool) (v : V) (one other : Option V) → cond b (Some v) (or_else one other) ≡ or_else (cond b (Some v) one) other
if_or_else true v one other = refl
if_or_else false v one other = refl

value_at-append : {V : Type 0} (xs ys : List (ℕ × V)) (key : ℕ) → value_at (xs ++ ys) key ≡ or_else (value_at xs key) (value_at ys key)
value_at-append [] ys key = refl
value_at-append (e ∷ xs) ys key =
    ap (λ o. cond (e.0 == key) (Some e.1) o) (value_at-append xs ys key) ∙ if_or_else (e.0 == key) e.1 (value_at xs key) (value_at ys key)

-- entries of other keys have no value at a key
no_value : {V : Type 0} (es : List (ℕ × V)) (key : ℕ) → All (λ e. e.0 ≢ key) es → value_at es key ≡ None
no_value [] key other = refl
no_value (e ∷ es) key other =
    let apart : (e.0 == key) ≡ false = ne_eqb e.0 key (All-head (λ d. d.0 ≢ key) e es other) in
    rw (apart, no_value es key (All-tail (λ d. d.0 ≢ key) e es other))

pub lower_none : {V : Type 0} (es : List (ℕ × V)) (key : ℕ) → All (λ e. e.0 < key) es → value_at es key ≡ None
lower_none es key lower = no_value es key (All-weaker (λ e. e.0 < key) (λ e. e.0 ≢ key) (λ e less same. absurd (omega (arith, less, same))) es lower)

pub higher_none : {V : Type 0} (es : List (ℕ × V)) (key : ℕ) → All (λ e. key < e.0) es → value_at es key ≡ None
higher_none es key higher =
    no_value es key (All-weaker (λ e. key < e.0) (λ e. e.0 ≢ key) (λ e less same. absurd (omega (arith, less, same))) es higher)

one_here : {V : Type 0} (key : ℕ) (w : Option V) → value_at (entry_if key w) key ≡ w
one_here key None = refl
one_here key (Some v) = rw (eq-eqb key key refl) refl

one_elsewhere : {V : Type 0} (key other : ℕ) (w : Option V) → key ≢ other → value_at (entry_if key w) other ≡ None
one_elsewhere key other None apart = refl
one_elsewhere key other (Some v) apart = rw (ne_eqb key other apart) refl

value_here : {V : Type 0} (key : ℕ) (w : Option V) (front back : List (ℕ × V)) → All (λ e. e.0 < key) front → All (λ e. key < e.0) back
    → value_at (front ++ (entry_if key w ++ back)) key ≡ w
value_here key w front back lower higher =
    value_at-append front (entry_if key w ++ back) key
    ∙ ap (λ o. or_else o (value_at (entry_if key w ++ back) key)) (lower_none front key lower)
    ∙ value_at-append (entry_if key w) back key
    ∙ ap₂ (λ one other. or_else one other) (one_here key w) (higher_none back key higher)
    ∙ or_none w

value_elsewhere : {V : Type 0} (key other : ℕ) (w : Option V) (front back : List (ℕ × V)) → key ≢ other
    → value_at (front ++ (entry_if key w ++ back)) other ≡ or_else (value_at front other) (value_at back other)
value_elsewhere key other w front back apart =
    value_at-append front (entry_if key w ++ back) other
    ∙ ap (λ o. or_else (value_at front other) o)
    (value_at-append (entry_if key w) back other ∙ ap (λ o. or_else o (value_at back other)) (one_elsewhere key other w apart))

-- what the key had
pub edit_was : {V : Type 0} (key : ℕ) (was is : Option V) (old new : List (ℕ × V)) → IsEdit key was is old new → was ≡ value_at old key
edit_was key was is old new e = sym (ap (λ es. value_at es key) e.before ∙ value_here key was e.front e.back e.lower e.higher)

-- what each key has
pub edit_values : {V : Type 0} (key : ℕ) (was is : Option V) (old new : List (ℕ × V)) → IsEdit key was is old new → (other : ℕ)
    → value_at new other ≡ (if other == key then is else value_at old other)
edit_values key was is old new e other = ⊎_elim
    (λ here. let same : other ≡ key = eqb-true other key here in
    ap (λ es. value_at es other) e.after ∙ ap (λ k. value_at (e.front ++ (entry_if key is ++ e.back)) k) same
    ∙ value_here key is e.front e.back e.lower e.higher ∙ sym (ap (λ b. cond b is (value_at old other)) here))
    (λ there. let apart : key ≢ other = λ same. eqb-false other key there (sym same) in
    ap (λ es. value_at es other) e.after ∙ value_elsewhere key other is e.front e.back apart
    ∙ sym (ap (λ es. value_at es other) e.before ∙ value_elsewhere key other was e.front e.back apart)
    ∙ sym (ap (λ b. cond b is (value_at old other)) there))
    (cases_Bool (other == key))

-- what holds of the keys of entries, and of the key
pub edit_all : {V : Type 0} (P : ℕ → Type 0) (key : ℕ) (was is : Option V) (old new : List (ℕ × V)) → IsEdit key was is old new → P key
    → All (λ e. P e.0) old → All (λ e. P e.0) new
edit_all {V} P key was is old new e here h =
    let Q : ℕ × V → Type 0 = λ d. P d.0 in
    let before : All Q (e.front ++ (entry_if key was ++ e.back)) = subst (λ es. All Q es) e.before h in
    subst (λ es. All Q es) (sym e.after)
    (All-append Q e.front (entry_if key is ++ e.back) (All-front Q e.front (entry_if key was ++ e.back) before)
    (All-append Q (entry_if key is) e.back (middle Q is (λ v. here))
    (All-back Q (entry_if key was) e.back (All-back Q e.front (entry_if key was ++ e.back) before))))
  where
    middle : (Q : ℕ × V → Type 0) (w : Option V) → ((v : V) → Q (key, v)) → All Q (entry_if key w)
    middle Q None h = All-nil Q
    middle Q (Some v) h = All-cons Q (key, v) [] (h v) (All-nil Q)

-- keys still rise
pub edit_rises : {V : Type 0} (key : ℕ) (was is : Option V) (old new : List (ℕ × V)) → IsEdit key was is old new → KeysRise old → KeysRise new
edit_rises {V} key was is old new e rising =
    let R : ℕ × V → ℕ × V → Type 0 = λ d f. d.0 < f.0 in
    let before : AllPairs R (e.front ++ (entry_if key was ++ e.back)) = subst (λ es. AllPairs R es) e.before rising in
    let across : All (λ d. All (R d) (entry_if key was ++ e.back)) e.front = AllPairs-across R e.front (entry_if key was ++ e.back) before in
    let back : AllPairs R e.back = AllPairs-back R (entry_if key was) e.back (AllPairs-back R e.front (entry_if key was ++ e.back) before) in
    subst (λ es. AllPairs R es) (sym e.after)
    (AllPairs-append R e.front (entry_if key is ++ e.back) (AllPairs-front R e.front (entry_if key was ++ e.back) before)
    (behind key is e.back e.higher back)
    (λ k d within. All-append (R (get_or e.front k d)) (entry_if key is) e.back (above key is (get_or e.front k d) (e.lower k d within))
    (All-back (R (get_or e.front k d)) (entry_if key was) e.back (across k d within))))
  where
    above : (key : ℕ) (w : Option V) (d : ℕ × V) → d.0 < key → All (λ f. d.0 < f.0) (entry_if key w)
    above key None d less = All-nil (λ f. d.0 < f.0)
    above key (Some v) d less = All-cons (λ f. d.0 < f.0) (key, v) [] less (All-nil (λ f. d.0 < f.0))

    behind : (key : ℕ) (w : Option V) (back : List (ℕ × V)) → All (λ f. key < f.0) back → AllPairs (λ d f. d.0 < f.0) back
        → AllPairs (λ d f. d.0 < f.0) (entry_if key w ++ back)
    behind key None back higher rise = rise
    behind key (Some v) back higher rise = AllPairs-cons (λ d f. d.0 < f.0) (key, v) back higher rise

abbrev R : {V : Type 0} → ℕ × V → ℕ × V → Type 0
R d f = d.0 < f.0

-- an edit that changes nothing
pub edit_nothing : {V : Type 0} (key : ℕ) (es : List (ℕ × V)) → KeysRise es → IsEdit key (value_at es key) (value_at es key) es es
edit_nothing key [] rising = record {
  front = [];
  back = [];
  lower = All-nil (λ e. e.0 < key);
  higher = All-nil (λ e. key < e.0);
  before = refl;
  after = refl;
}
edit_nothing {V} key (e ∷ es) rising = ⊎_elim
    (λ same.
    let value : value_at (e ∷ es) key ≡ Some e.1 = rw (eq-eqb e.0 key same) refl in
    let here : e ∷ es ≡ (key, e.1) ∷ es = ap (λ (k : ℕ). (k, e.1) ∷ es) same in
    subst (λ w. IsEdit key w w (e ∷ es) (e ∷ es)) (sym value) (record {
      front = [];
      back = es;
      lower = All-nil (λ f. f.0 < key);
      higher = All-weaker (R e) (λ f. key < f.0) (λ f less. omega (arith, less, same)) es (AllPairs-head R e es rising);
      before = here;
      after = here;
    }))
    (λ differ. ⊎_elim
    (λ less.
    let rest = edit_nothing key es (AllPairs-tail R e es rising) in
    let value : value_at (e ∷ es) key ≡ value_at es key = rw (ne_eqb e.0 key (λ same. absurd (omega (arith, same, less)))) refl in
    subst (λ w. IsEdit key w w (e ∷ es) (e ∷ es)) (sym value) (record {
      front = e ∷ rest.front;
      back = rest.back;
      lower = All-cons (λ f. f.0 < key) e rest.front less rest.lower;
      higher = rest.higher;
      before = ap (λ fs. e ∷ fs) rest.before;
      after = ap (λ fs. e ∷ fs) rest.after;
    }))
    (λ more.
    let higher : All (λ f. key < f.0) (e ∷ es) = All-cons (λ f. key < f.0) e es more
    (All-weaker (R e) (λ f. key < f.0) (λ f less. omega (arith, less, more)) es (AllPairs-head R e es rising)) in
    subst (λ w. IsEdit key w w (e ∷ es) (e ∷ es)) (sym (higher_none (e ∷ es) key higher)) (record {
      front = [];
      back = e ∷ es;
      lower = All-nil (λ f. f.0 < key);
      higher = higher;
      before = refl;
      after = refl;
    }))
    differ)
    (cases_order e.0 key)

-- what has the same at its key is as it was
pub edit_same : {V : Type 0} (key : ℕ) (w : Option V) (old new : List (ℕ × V)) → IsEdit key w w old new → new ≡ old
edit_same key w old new e = e.after ∙ sym e.before

-- what each key has where a value was put, if memory sufficed
pub put_values : {V E : Type 0} (result : Result (Unit {0}) E) (key : ℕ) (v : V) (old new : List (ℕ × V))
    → IsEdit key (value_at old key) (if is_ok result then Some v else value_at old key) old new
    → OnOk result ((other : ℕ) → value_at new other ≡ (if other == key then Some v else value_at old other))
put_values (Ok u) key v old new e = edit_values key (value_at old key) (Some v) old new e
put_values (Err x) key v old new e = tt

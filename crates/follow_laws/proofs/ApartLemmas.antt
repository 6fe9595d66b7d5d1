-- Sets of keys that are judged apart.
use Rattle.follow_laws.proofs.Common.{◌≡◌, ℕ, ◌==◌, Bool, true, false, not, ◌||◌, cond, List, [], ◌∷◌, ◌++◌, map, Option, inl, inr, refl, sym, ap}
use Rattle.follow_laws.proofs.Common.{◌∙◌, subst, ⊎_elim, ◌≢◌, ◌⊎◌, All, Contains, filter, eqb-true, eq-eqb, ne_eqb, All-contains}
use Rattle.follow_laws.proofs.Common.{Contains-append_left, Contains-append_right, AllPairs-filter, Contains-map, Contains-from_map, AllPairs-map}
use Rattle.follow_laws.proofs.Common.{AllPairs-from_map, AllPairs-head, AllPairs-tail, AllPairs-across, AllPairs-back, Contains-nil, Contains-first}
use Rattle.follow_laws.proofs.Common.{Contains-later, Contains-cases, Contains-split, Contains-filter, Contains-from_filter, KeyedCall, no_effect}
use Rattle.follow_laws.proofs.Common.{IsNoEffect, IsFormed, precedes, is_completed, FitInTurn, left_by, AreDistinct, KeepPrecedence, IsKeyedOrder}
use Rattle.follow_laws.proofs.Common.{HasKeyedOrder, AreKeyedCalls, Keys, IsWithin, IsOutside, only, other_keys, IsQuiet, IsRead, IsUndisturbed}
use Rattle.follow_laws.proofs.Common.{Parts, SomeKeysRefute, SetsOfKeysJudge, append_assoc}
use Rattle.events.specs.Lists.{has_number}
use Rattle.follow_laws.proofs.CutLemmas.{fit_only}
use Rattle.follow_laws.proofs.DeadLemmas.{bool_cases}
use Rattle.follow_laws.proofs.MergeLemmas.{AreMerged, merge}
use Rattle.follow_laws.proofs.OrderLemmas.{same_call}
use Rattle.follow_laws.proofs.TurnLemmas.{fit-front, fit-back, left_by-append}

pub some_refute : SomeKeysRefute
some_refute held keys calls (order, is) = (
  map (only keys) order,
  record {
    known = λ y y_in.
        let (x, x_in, x_is) = Contains-from_map (only keys) order y y_in in
        subst (λ (z : KeyedCall). Contains (map (only keys) calls) z) x_is (Contains-map (only keys) calls x (is.known x x_in));
    distinct = AllPairs-map (λ x y. x.inv ≢ y.inv) (only keys) order is.distinct;
    precedence = AllPairs-map (λ x y. precedes y x ≡ false) (only keys) order is.precedence;
    complete = λ y y_in completed.
        let (x, x_in, x_is) = Contains-from_map (only keys) calls y y_in in
        subst (λ (z : KeyedCall). Contains (map (only keys) order) z) x_is
        (Contains-map (only keys) order x (is.complete x x_in (subst (λ (z : KeyedCall). is_completed z ≡ true) (sym x_is) completed)));
    fit = λ key. fit_only keys key order (held key) (is.fit key);
  },
)

-- calls that change nothing at a key if they fit
pub quiet_left : (key : ℕ) (xs : List KeyedCall) (value : Option ℕ) → ((x : KeyedCall) → Contains xs x → IsQuiet x key) → FitInTurn key value xs
    → left_by key value xs ≡ value
quiet_left key [] value quiet fit = refl
quiet_left key (x ∷ xs) value quiet fit =
    quiet_left key xs ((x.effect key).leaves value) (λ y y_in. quiet y (Contains-later x xs y y_in)) fit.1
    ∙ quiet x (Contains-first x xs) value fit.0

-- calls, one after another, without some that change nothing there
pub without_quiet : (key : ℕ) (p : KeyedCall → Bool) (xs : List KeyedCall) (value : Option ℕ)
    → ((x : KeyedCall) → Contains xs x → p x ≡ false → IsQuiet x key) → FitInTurn key value xs
    → FitInTurn key value (filter p xs) × (left_by key value (filter p xs) ≡ left_by key value xs)
without_quiet key p [] value quiet fit = (tt, refl)
without_quiet key p (x ∷ xs) value quiet fit =
    by_test (bool_cases (p x)) (without_quiet key p xs ((x.effect key).leaves value) (λ y y_in. quiet y (Contains-later x xs y y_in)) fit.1)
  where
    by_test : (p x ≡ true) ⊎ (p x ≡ false)
        → FitInTurn key ((x.effect key).leaves value) (filter p xs)
        × (left_by key ((x.effect key).leaves value) (filter p xs) ≡ left_by key ((x.effect key).leaves value) xs)
        → FitInTurn key value (filter p (x ∷ xs)) × (left_by key value (filter p (x ∷ xs)) ≡ left_by key ((x.effect key).leaves value) xs)
    by_test (inl passes) rest = rw passes ((fit.0, rest.0), rest.1)
    by_test (inr fails) rest =
        let same : (x.effect key).leaves value ≡ value = quiet x (Contains-first x xs) fails value fit.0 in
        rw fails (
          subst (λ (v : Option ℕ). FitInTurn key v (filter p xs)) same rest.0,
          subst (λ (v : Option ℕ). left_by key v (filter p xs) ≡ left_by key ((x.effect key).leaves value) xs) same rest.1,
        )

-- one of two fronts of a list goes on to the other
pub fronts : (p q r s : List KeyedCall) → p ++ q ≡ r ++ s
    → ((d : List KeyedCall) × (r ≡ p ++ d) × (q ≡ d ++ s)) ⊎ ((d : List KeyedCall) × (p ≡ r ++ d) × (s ≡ d ++ q))
fronts [] q r s same = inl (r, refl, same)
fronts (a ∷ p) q [] s same = inr (a ∷ p, refl, sym same)
fronts (a ∷ p) q (b ∷ r) s same =
    let first : a ≡ b = cc in
    let others : p ++ q ≡ r ++ s = cc in
    ⊎_elim
    (λ l. inl (l.0, ap (λ (xs : List KeyedCall). b ∷ xs) l.1 ∙ ap (λ (x : KeyedCall). x ∷ (p ++ l.0)) (sym first), l.2))
    (λ l. inr (l.0, ap (λ (xs : List KeyedCall). a ∷ xs) l.1 ∙ ap (λ (x : KeyedCall). x ∷ (r ++ l.0)) first, l.2))
    (fronts p q r s others)

filter_append : (p : KeyedCall → Bool) (xs ys : List KeyedCall) → filter p (xs ++ ys) ≡ filter p xs ++ filter p ys
filter_append p [] ys = refl
filter_append p (x ∷ xs) ys = by_test (bool_cases (p x)) (filter_append p xs ys)
  where
    by_test : (p x ≡ true) ⊎ (p x ≡ false) → filter p (xs ++ ys) ≡ filter p xs ++ filter p ys
        → filter p (x ∷ (xs ++ ys)) ≡ filter p (x ∷ xs) ++ filter p ys
    by_test (inl passes) rest = rw passes (ap (λ (zs : List KeyedCall). x ∷ zs) rest)
    by_test (inr fails) rest = rw fails rest

-- calls, one after another, with others between them, each of which fits at its place and changes
-- nothing
pub with_quiet : (key : ℕ) (p : KeyedCall → Bool) (value : Option ℕ) (rest front : List KeyedCall)
    → ((x : KeyedCall) (before after : List KeyedCall) → front ++ rest ≡ before ++ x ∷ after → p x ≡ false
    → IsQuiet x key × ((x.effect key).fits (left_by key value (filter p before)) ≡ true))
    → FitInTurn key value (filter p (front ++ rest)) → FitInTurn key (left_by key value (filter p front)) rest
with_quiet key p value [] front between fit = tt
with_quiet key p value (x ∷ rest) front between fit =
    by_test (bool_cases (p x))
    (with_quiet key p value rest (front ++ x ∷ []) (λ y before after is. between y before after (sym (append_assoc front (x ∷ []) rest) ∙ is))
    (subst (λ (xs : List KeyedCall). FitInTurn key value (filter p xs)) (sym (append_assoc front (x ∷ []) rest)) fit))
  where
    on : filter p (front ++ x ∷ []) ≡ filter p front ++ filter p (x ∷ [])
    on = filter_append p front (x ∷ [])

    by_test : (p x ≡ true) ⊎ (p x ≡ false) → FitInTurn key (left_by key value (filter p (front ++ x ∷ []))) rest
        → FitInTurn key (left_by key value (filter p front)) (x ∷ rest)
    by_test (inl passes) further =
        let whole : FitInTurn key value (filter p front ++ filter p (x ∷ rest)) =
        subst (λ (xs : List KeyedCall). FitInTurn key value xs) (filter_append p front (x ∷ rest)) fit in
        let back : FitInTurn key (left_by key value (filter p front)) (filter p (x ∷ rest)) =
        fit-back key value (filter p front) (filter p (x ∷ rest)) whole in
        let one : filter p (x ∷ []) ≡ x ∷ [] = rw passes refl in
        let all : filter p (x ∷ rest) ≡ x ∷ filter p rest = rw passes refl in
        let here : FitInTurn key (left_by key value (filter p front)) (x ∷ filter p rest) =
        subst (λ (xs : List KeyedCall). FitInTurn key (left_by key value (filter p front)) xs) all back in (
          here.0,
          subst (λ (v : Option ℕ). FitInTurn key v rest)
              (ap (λ (xs : List KeyedCall). left_by key value xs) (on ∙ ap (λ (xs : List KeyedCall). filter p front ++ xs) one)
              ∙ left_by-append key value (filter p front) (x ∷ [])) further,
        )
    by_test (inr fails) further =
        let none : filter p (x ∷ []) ≡ [] = rw fails refl in
        let (quiet, fits) = between x front rest refl fails in
        let same : filter p (front ++ x ∷ []) ≡ filter p front = on ∙ ap (λ (xs : List KeyedCall). filter p front ++ xs) none ∙ append_nil (filter p front) in (
          fits,
          subst (λ (v : Option ℕ). FitInTurn key v rest)
              (ap (λ (xs : List KeyedCall). left_by key value xs) same ∙ sym (quiet (left_by key value (filter p front)) fits)) further,
        )
      where
        append_nil : (xs : List KeyedCall) → xs ++ [] ≡ xs
        append_nil [] = refl
        append_nil (y ∷ xs) = ap (λ (zs : List KeyedCall). y ∷ zs) (append_nil xs)

-- a read at a key, near whose place in two orders no other call changes the key
pub record IsSettledRead (key : ℕ) (calls order : List KeyedCall) (y : KeyedCall) : Type 0 where
  pub there : Contains order y
  pub quiet : IsQuiet y key
  pub undisturbed : (a : KeyedCall) → Contains calls a → IsQuiet a key ⊎ (precedes a y ≡ true) ⊎ (precedes y a ≡ true)

-- an order at a key, and another that has the calls that may change the key in the same order
pub record AreAlikeAt (key : ℕ) (p : KeyedCall → Bool) (value : Option ℕ) (calls old new : List KeyedCall) : Type 0 where
  pub fit : FitInTurn key value old
  pub keep_old : KeepPrecedence old
  pub keep_new : KeepPrecedence new
  pub known : (a : KeyedCall) → Contains old a → Contains calls a
  pub turn : filter p new ≡ filter p old
  pub quiet : (x : KeyedCall) → Contains old x → p x ≡ false → IsQuiet x key
  pub others : (y : KeyedCall) → Contains new y → p y ≡ false → IsNoEffect (y.effect key) ⊎ IsSettledRead key calls old y

quiet_between : (key : ℕ) (calls : List KeyedCall) (y e : KeyedCall)
    → ((a : KeyedCall) → Contains calls a → IsQuiet a key ⊎ (precedes a y ≡ true) ⊎ (precedes y a ≡ true)) → Contains calls e
    → precedes y e ≡ false → precedes e y ≡ false → IsQuiet e key
quiet_between key calls y e undisturbed e_in not_after not_before =
    ⊎_elim (λ quiet. quiet) (λ order. ⊎_elim (λ before. absurd (differ (precedes e y) before not_before))
    (λ after. absurd (differ (precedes y e) after not_after)) order) (undisturbed e e_in)
  where
    differ : (b : Bool) → b ≡ true → b ≡ false → ⊥
    differ b is not = cc

after_read : (p : KeyedCall → Bool) (y e : KeyedCall) (after : List KeyedCall) → p y ≡ false → Contains (filter p (y ∷ after)) e → Contains after e
after_read p y e after fails e_in =
    let (there, passes) = Contains-from_filter p (y ∷ after) e e_in in
    ⊎_elim (λ same. absurd (differ (p e) passes (subst (λ (x : KeyedCall). p x ≡ false) same fails))) (λ later. later) (Contains-cases y after e there)
  where
    differ : (b : Bool) → b ≡ true → b ≡ false → ⊥
    differ b is not = cc

-- what comes before a call in an order that keeps precedence is not preceded by it, and what comes
-- after it does not precede it
before_keeps : (before after : List KeyedCall) (y e : KeyedCall) → KeepPrecedence (before ++ y ∷ after) → Contains before e → precedes y e ≡ false
before_keeps before after y e keep e_in =
    All-contains (λ b. precedes b e ≡ false) (y ∷ after) y
    (All-contains (λ a. All (λ b. precedes b a ≡ false) (y ∷ after)) before e (AllPairs-across (λ a b. precedes b a ≡ false) before (y ∷ after) keep) e_in)
    (Contains-first y after)

after_keeps : (before after : List KeyedCall) (y e : KeyedCall) → KeepPrecedence (before ++ y ∷ after) → Contains after e → precedes e y ≡ false
after_keeps before after y e keep e_in =
    All-contains (λ b. precedes b y ≡ false) after e
    (AllPairs-head (λ a b. precedes b a ≡ false) y after (AllPairs-back (λ a b. precedes b a ≡ false) before (y ∷ after) keep)) e_in

read_fits : (key : ℕ) (p : KeyedCall → Bool) (value : Option ℕ) (calls old new : List KeyedCall) → AreAlikeAt key p value calls old new
    → (y : KeyedCall) (before after : List KeyedCall) → new ≡ before ++ y ∷ after → p y ≡ false → IsSettledRead key calls old y
    → (y.effect key).fits (left_by key value (filter p before)) ≡ true
read_fits key p value calls old new alike y before after new_is fails read =
    let (f, b, old_is) = Contains-split old y read.there in
    let old_fit : FitInTurn key value (f ++ y ∷ b) = subst (λ (xs : List KeyedCall). FitInTurn key value xs) old_is alike.fit in
    let f_fit : FitInTurn key value f = fit-front key value f (y ∷ b) old_fit in
    let y_fit : FitInTurn key (left_by key value f) (y ∷ b) = fit-back key value f (y ∷ b) old_fit in
    let kept = without_quiet key p f value (λ x x_in x_fails. alike.quiet x
    (subst (λ (xs : List KeyedCall). Contains xs x) (sym old_is) (Contains-append_left f (y ∷ b) x x_in)) x_fails) f_fit in
    let there : (y.effect key).fits (left_by key value (filter p f)) ≡ true =
    subst (λ (v : Option ℕ). (y.effect key).fits v ≡ true) (sym kept.1) y_fit.0 in
    let old_keep : KeepPrecedence (f ++ y ∷ b) = subst (λ (xs : List KeyedCall). KeepPrecedence xs) old_is alike.keep_old in
    let new_keep : KeepPrecedence (before ++ y ∷ after) = subst (λ (xs : List KeyedCall). KeepPrecedence xs) new_is alike.keep_new in
    let turn : filter p before ++ filter p (y ∷ after) ≡ filter p f ++ filter p (y ∷ b) =
    sym (filter_append p before (y ∷ after)) ∙ ap (λ (xs : List KeyedCall). filter p xs) (sym new_is) ∙ alike.turn
    ∙ ap (λ (xs : List KeyedCall). filter p xs) old_is ∙ filter_append p f (y ∷ b) in
    let new_fit : FitInTurn key value (filter p before ++ filter p (y ∷ after)) = subst (λ (xs : List KeyedCall). FitInTurn key value xs)
    (sym alike.turn ∙ ap (λ (xs : List KeyedCall). filter p xs) new_is ∙ filter_append p before (y ∷ after))
    (without_quiet key p old value alike.quiet alike.fit).0 in
    ⊎_elim
    (λ more.
    let quiet : (e : KeyedCall) → Contains more.0 e → IsQuiet e key = λ e e_in.
    let in_front : Contains (filter p f) e = subst (λ (xs : List KeyedCall). Contains xs e) (sym more.1)
    (Contains-append_right (filter p before) more.0 e e_in) in
    let in_f : Contains f e = (Contains-from_filter p f e in_front).0 in
    let in_back : Contains (filter p (y ∷ after)) e = subst (λ (xs : List KeyedCall). Contains xs e) (sym more.2)
    (Contains-append_left more.0 (filter p (y ∷ b)) e e_in) in
    quiet_between key calls y e read.undisturbed
    (alike.known e (subst (λ (xs : List KeyedCall). Contains xs e) (sym old_is) (Contains-append_left f (y ∷ b) e in_f)))
    (before_keeps f b y e old_keep in_f) (after_keeps before after y e new_keep (after_read p y e after fails in_back)) in
    let d_fit : FitInTurn key (left_by key value (filter p before)) more.0 =
    fit-back key value (filter p before) more.0 (subst (λ (xs : List KeyedCall). FitInTurn key value xs) more.1 kept.0) in
    let same : left_by key value (filter p f) ≡ left_by key value (filter p before) =
    ap (λ (xs : List KeyedCall). left_by key value xs) more.1 ∙ left_by-append key value (filter p before) more.0
    ∙ quiet_left key more.0 (left_by key value (filter p before)) quiet d_fit in
    subst (λ (v : Option ℕ). (y.effect key).fits v ≡ true) same there)
    (λ more.
    let quiet : (e : KeyedCall) → Contains more.0 e → IsQuiet e key = λ e e_in.
    let in_front : Contains (filter p before) e = subst (λ (xs : List KeyedCall). Contains xs e) (sym more.1)
    (Contains-append_right (filter p f) more.0 e e_in) in
    let in_before : Contains before e = (Contains-from_filter p before e in_front).0 in
    let in_back : Contains (filter p (y ∷ b)) e = subst (λ (xs : List KeyedCall). Contains xs e) (sym more.2)
    (Contains-append_left more.0 (filter p (y ∷ after)) e e_in) in
    let in_b : Contains b e = after_read p y e b fails in_back in
    quiet_between key calls y e read.undisturbed
    (alike.known e (subst (λ (xs : List KeyedCall). Contains xs e) (sym old_is) (Contains-append_right f (y ∷ b) e (Contains-later y b e in_b))))
    (before_keeps before after y e new_keep in_before) (after_keeps f b y e old_keep in_b) in
    let before_fit : FitInTurn key value (filter p before) = fit-front key value (filter p before) (filter p (y ∷ after)) new_fit in
    let d_fit : FitInTurn key (left_by key value (filter p f)) more.0 =
    fit-back key value (filter p f) more.0 (subst (λ (xs : List KeyedCall). FitInTurn key value xs) more.1 before_fit) in
    let same : left_by key value (filter p before) ≡ left_by key value (filter p f) =
    ap (λ (xs : List KeyedCall). left_by key value xs) more.1 ∙ left_by-append key value (filter p f) more.0
    ∙ quiet_left key more.0 (left_by key value (filter p f)) quiet d_fit in
    subst (λ (v : Option ℕ). (y.effect key).fits v ≡ true) (sym same) there)
    (fronts (filter p before) (filter p (y ∷ after)) (filter p f) (filter p (y ∷ b)) turn)

pub fit_alike : (key : ℕ) (p : KeyedCall → Bool) (value : Option ℕ) (calls old new : List KeyedCall) → AreAlikeAt key p value calls old new
    → FitInTurn key value new
fit_alike key p value calls old new alike =
    with_quiet key p value new []
    (λ y before after new_is fails.
    ⊎_elim
    (λ none. (λ v fits. none.leaves v, none.fits (left_by key value (filter p before))))
    (λ read. (read.quiet, read_fits key p value calls old new alike y before after new_is fails read))
    (alike.others y (subst (λ (xs : List KeyedCall). Contains xs y) (sym new_is)
    (Contains-append_right before (y ∷ after) y (Contains-first y after))) fails))
    (subst (λ (xs : List KeyedCall). FitInTurn key value xs) (sym alike.turn) (without_quiet key p old value alike.quiet alike.fit).0)

-- the calls of either set of keys, by name: each completed call is of one of both
abbrev pub IsOnLeft : Keys → List KeyedCall → KeyedCall → Type 0
IsOnLeft keys calls a = IsWithin keys a ⊎ (IsRead a × (is_completed a ≡ true) × IsUndisturbed (other_keys keys) calls a)

abbrev pub IsOnRight : Keys → List KeyedCall → KeyedCall → Type 0
IsOnRight keys calls a = IsOutside keys a ⊎ (IsRead a × (is_completed a ≡ true) × IsUndisturbed keys calls a)

abbrev pub IsPendingRead : KeyedCall → Type 0
IsPendingRead a = IsRead a × (is_completed a ≡ false)

abbrev pub HasSide : Keys → List KeyedCall → List ℕ → List ℕ → KeyedCall → Type 0
HasSide keys calls left right a =
    ((has_number left a.inv ≡ true) × (has_number right a.inv ≡ false) × IsOnLeft keys calls a)
    ⊎ (((has_number left a.inv ≡ false) × (has_number right a.inv ≡ true) × IsOnRight keys calls a)
    ⊎ ((has_number left a.inv ≡ false) × (has_number right a.inv ≡ false) × IsPendingRead a))

pub record AreSides (keys : Keys) (whole calls : List KeyedCall) (left right : List ℕ) : Type 0 where
  pub each : (a : KeyedCall) → Contains calls a → HasSide keys whole left right a
  pub left_named : (n : ℕ) → has_number left n ≡ true → (a : KeyedCall) × Contains calls a × (a.inv ≡ n)
  pub right_named : (n : ℕ) → has_number right n ≡ true → (a : KeyedCall) × Contains calls a × (a.inv ≡ n)

or_false : (m n : ℕ) (b : Bool) → m ≢ n → ((m == n) || b) ≡ b
or_false m n b apart = rw (ne_eqb m n apart) refl

sides_of : (keys : Keys) (whole : List KeyedCall) (a : KeyedCall) → Parts keys whole a
    → IsOnLeft keys whole a ⊎ (IsOnRight keys whole a ⊎ IsPendingRead a)
sides_of keys whole a parts =
    ⊎_elim (λ within. inl (inl within))
    (λ others. ⊎_elim (λ outside. inr (inl (inl outside)))
    (λ read. ⊎_elim (λ pending. inr (inr (read.0, pending)))
    (λ undisturbed. by_end read.0 undisturbed (bool_cases (is_completed a))) read.1) others) parts
  where
    by_end : IsRead a → IsUndisturbed keys whole a ⊎ IsUndisturbed (other_keys keys) whole a → (is_completed a ≡ true) ⊎ (is_completed a ≡ false)
        → IsOnLeft keys whole a ⊎ (IsOnRight keys whole a ⊎ IsPendingRead a)
    by_end read undisturbed (inr pending) = inr (inr (read, pending))
    by_end read (inl here) (inl completed) = inr (inl (inr (read, completed, here)))
    by_end read (inr there) (inl completed) = inl (inr (read, completed, there))

make_sides : (keys : Keys) (whole calls : List KeyedCall) → AreDistinct calls → ((a : KeyedCall) → Contains calls a → Parts keys whole a)
    → (left : List ℕ) × (right : List ℕ) × AreSides keys whole calls left right
make_sides keys whole [] distinct parts = (
  [],
  [],
  record {
    each = λ a a_in. absurd (Contains-nil a a_in);
    left_named = λ n named. cc;
    right_named = λ n named. cc;
  },
)
make_sides keys whole (a ∷ calls) distinct parts =
    let (left, right, sides) = make_sides keys whole calls (AllPairs-tail (λ x y. x.inv ≢ y.inv) a calls distinct)
    (λ b b_in. parts b (Contains-later a calls b b_in)) in
    add left right sides (sides_of keys whole a (parts a (Contains-first a calls)))
  where
    apart : (b : KeyedCall) → Contains calls b → a.inv ≢ b.inv
    apart b b_in = All-contains (λ y. a.inv ≢ y.inv) calls b (AllPairs-head (λ x y. x.inv ≢ y.inv) a calls distinct) b_in

    unnamed : (names : List ℕ) → ((n : ℕ) → has_number names n ≡ true → (b : KeyedCall) × Contains calls b × (b.inv ≡ n))
        → has_number names a.inv ≡ false
    unnamed names named = by_test (bool_cases (has_number names a.inv))
      where
        by_test : (has_number names a.inv ≡ true) ⊎ (has_number names a.inv ≡ false) → has_number names a.inv ≡ false
        by_test (inr not) = not
        by_test (inl is) = let (b, b_in, b_is) = named a.inv is in absurd (apart b b_in (sym b_is))

    with_name : (names : List ℕ) (b : KeyedCall) (t : Bool) → Contains calls b → has_number names b.inv ≡ t → has_number (a.inv ∷ names) b.inv ≡ t
    with_name names b t b_in is = or_false a.inv b.inv (has_number names b.inv) (apart b b_in) ∙ is

    own_name : (names : List ℕ) → has_number (a.inv ∷ names) a.inv ≡ true
    own_name names = rw (eq-eqb a.inv a.inv refl) refl

    named_with : (names : List ℕ) → ((n : ℕ) → has_number names n ≡ true → (b : KeyedCall) × Contains calls b × (b.inv ≡ n))
        → (n : ℕ) → has_number (a.inv ∷ names) n ≡ true → (b : KeyedCall) × Contains (a ∷ calls) b × (b.inv ≡ n)
    named_with names named n is = by_first (bool_cases (a.inv == n)) is
      where
        by_first : ((a.inv == n) ≡ true) ⊎ ((a.inv == n) ≡ false) → ((a.inv == n) || has_number names n) ≡ true
            → (b : KeyedCall) × Contains (a ∷ calls) b × (b.inv ≡ n)
        by_first (inl same) h = (a, Contains-first a calls, eqb-true a.inv n same)
        by_first (inr other) h = let (b, b_in, b_is) = named n (rw other at h) in (b, Contains-later a calls b b_in, b_is)

    named_on : (names : List ℕ) → ((n : ℕ) → has_number names n ≡ true → (b : KeyedCall) × Contains calls b × (b.inv ≡ n))
        → (n : ℕ) → has_number names n ≡ true → (b : KeyedCall) × Contains (a ∷ calls) b × (b.inv ≡ n)
    named_on names named n is = let (b, b_in, b_is) = named n is in (b, Contains-later a calls b b_in, b_is)

    add : (left right : List ℕ) → AreSides keys whole calls left right
        → IsOnLeft keys whole a ⊎ (IsOnRight keys whole a ⊎ IsPendingRead a)
        → (l : List ℕ) × (r : List ℕ) × AreSides keys whole (a ∷ calls) l r
    add left right sides (inl on_left) = (
      a.inv ∷ left,
      right,
      record {
        each = λ b b_in. ⊎_elim
            (λ same. subst (λ (c : KeyedCall). HasSide keys whole (a.inv ∷ left) right c) same
            (inl (own_name left, unnamed right sides.right_named, on_left)))
            (λ later. ⊎_elim (λ l. inl (with_name left b true later l.0, l.1, l.2))
            (λ others. ⊎_elim (λ r. inr (inl (with_name left b false later r.0, r.1, r.2)))
            (λ none. inr (inr (with_name left b false later none.0, none.1, none.2))) others) (sides.each b later))
            (Contains-cases a calls b b_in);
        left_named = named_with left sides.left_named;
        right_named = named_on right sides.right_named;
      },
    )
    add left right sides (inr (inl on_right)) = (
      left,
      a.inv ∷ right,
      record {
        each = λ b b_in. ⊎_elim
            (λ same. subst (λ (c : KeyedCall). HasSide keys whole left (a.inv ∷ right) c) same
            (inr (inl (unnamed left sides.left_named, own_name right, on_right))))
            (λ later. ⊎_elim (λ l. inl (l.0, with_name right b false later l.1, l.2))
            (λ others. ⊎_elim (λ r. inr (inl (r.0, with_name right b true later r.1, r.2)))
            (λ none. inr (inr (none.0, with_name right b false later none.1, none.2))) others) (sides.each b later))
            (Contains-cases a calls b b_in);
        left_named = named_on left sides.left_named;
        right_named = named_with right sides.right_named;
      },
    )
    add left right sides (inr (inr pending)) = (
      left,
      right,
      record {
        each = λ b b_in. ⊎_elim
            (λ same. subst (λ (c : KeyedCall). HasSide keys whole left right c) same
            (inr (inr (unnamed left sides.left_named, unnamed right sides.right_named, pending))))
            (λ later. sides.each b later) (Contains-cases a calls b b_in);
        left_named = named_on left sides.left_named;
        right_named = named_on right sides.right_named;
      },
    )

-- the calls that an order at some keys has, as they are at all keys
lift : (keys : Keys) (calls order : List KeyedCall) → ((x : KeyedCall) → Contains order x → Contains (map (only keys) calls) x)
    → (whole : List KeyedCall) × (map (only keys) whole ≡ order) × ((a : KeyedCall) → Contains whole a → Contains calls a)
lift keys calls [] known = ([], refl, λ a a_in. absurd (Contains-nil a a_in))
lift keys calls (x ∷ order) known =
    let (a, a_in, a_is) = Contains-from_map (only keys) calls x (known x (Contains-first x order)) in
    let (whole, is, inside) = lift keys calls order (λ y y_in. known y (Contains-later x order y y_in)) in (
      a ∷ whole,
      ap (λ (z : KeyedCall). z ∷ map (only keys) whole) a_is ∙ ap (λ (zs : List KeyedCall). x ∷ zs) is,
      λ b b_in. ⊎_elim (λ same. subst (λ (z : KeyedCall). Contains calls z) same a_in) (λ later. inside b later) (Contains-cases a whole b b_in),
    )

fit_lifted : (keys : Keys) (key : ℕ) → keys key ≡ true → (xs : List KeyedCall) (value : Option ℕ) → FitInTurn key value (map (only keys) xs)
    → FitInTurn key value xs
fit_lifted keys key is [] value fit = tt
fit_lifted keys key is (x ∷ xs) value fit =
    let first : (cond (keys key) (x.effect key) no_effect).fits value ≡ true = fit.0 in
    let rest : FitInTurn key ((cond (keys key) (x.effect key) no_effect).leaves value) (map (only keys) xs) = fit.1 in
    (rw is at first, fit_lifted keys key is xs ((x.effect key).leaves value) (rw is at rest))

differ : (b : Bool) → b ≡ true → b ≡ false → ⊥
differ b is not = cc

-- All that is known of the orders at both sets of keys, and of one that is merged of them
pub record Joined (held : ℕ → Option ℕ) (keys : Keys) (calls first second whole other merged : List KeyedCall) (left right : List ℕ) : Type 0 where
  pub apart : AreKeyedCalls calls
  pub formed : All IsFormed calls
  pub sides : AreSides keys calls calls left right
  pub is_first : IsKeyedOrder held (map (only keys) calls) first
  pub is_second : IsKeyedOrder held (map (only (other_keys keys)) calls) second
  pub first_is : map (only keys) whole ≡ first
  pub second_is : map (only (other_keys keys)) other ≡ second
  pub first_known : (a : KeyedCall) → Contains whole a → Contains calls a
  pub second_known : (a : KeyedCall) → Contains other a → Contains calls a
  pub both : AreMerged (filter (λ a. has_number left a.inv) whole) (filter (λ a. has_number right a.inv) other) merged

-- a completed call is in an order that was lifted
lifted_has : (held : ℕ → Option ℕ) (keys : Keys) (calls order whole : List KeyedCall) → AreDistinct calls
    → IsKeyedOrder held (map (only keys) calls) order → map (only keys) whole ≡ order → ((a : KeyedCall) → Contains whole a → Contains calls a)
    → (a : KeyedCall) → Contains calls a → is_completed a ≡ true → Contains whole a
lifted_has held keys calls order whole distinct is whole_is known a a_in completed =
    let in_order : Contains order (only keys a) = is.complete (only keys a) (Contains-map (only keys) calls a a_in) completed in
    let in_map : Contains (map (only keys) whole) (only keys a) = subst (λ (xs : List KeyedCall). Contains xs (only keys a)) (sym whole_is) in_order in
    let (b, b_in, b_is) = Contains-from_map (only keys) whole (only keys a) in_map in
    let same : b ≡ a = same_call calls b a distinct (known b b_in) a_in (ap (λ (z : KeyedCall). z.inv) b_is) in
    subst (λ (z : KeyedCall). Contains whole z) same b_in

lifted_keeps : (held : ℕ → Option ℕ) (keys : Keys) (calls order whole : List KeyedCall) → IsKeyedOrder held (map (only keys) calls) order
    → map (only keys) whole ≡ order → KeepPrecedence whole
lifted_keeps held keys calls order whole is whole_is =
    AllPairs-from_map (λ x y. precedes y x ≡ false) (only keys) whole
    (subst (λ (xs : List KeyedCall). KeepPrecedence xs) (sym whole_is) is.precedence)

lifted_fits : (held : ℕ → Option ℕ) (keys : Keys) (calls order whole : List KeyedCall) → IsKeyedOrder held (map (only keys) calls) order
    → map (only keys) whole ≡ order → (key : ℕ) → keys key ≡ true → FitInTurn key (held key) whole
lifted_fits held keys calls order whole is whole_is key in_keys =
    fit_lifted keys key in_keys whole (held key) (subst (λ (xs : List KeyedCall). FitInTurn key (held key) xs) (sym whole_is) (is.fit key))

joined_fits : (held : ℕ → Option ℕ) (keys : Keys) (calls first second whole other merged : List KeyedCall) (left right : List ℕ)
    → Joined held keys calls first second whole other merged left right → (key : ℕ) → FitInTurn key (held key) merged
joined_fits held keys calls first second whole other merged left right j key = by_key (bool_cases (keys key))
  where
    none_quiet : (a : KeyedCall) → IsNoEffect (a.effect key) → IsQuiet a key
    none_quiet a none value fits = none.leaves value

    unconcerned : (a : KeyedCall) → Contains calls a → a.concerns key ≡ false → IsNoEffect (a.effect key)
    unconcerned a a_in not = (All-contains IsFormed calls a j.formed a_in).elsewhere key not

    left_kept : (a : KeyedCall) → Contains (filter (λ b. has_number left b.inv) whole) a → Contains whole a × (has_number left a.inv ≡ true)
    left_kept a a_in = Contains-from_filter (λ b. has_number left b.inv) whole a a_in

    right_kept : (a : KeyedCall) → Contains (filter (λ b. has_number right b.inv) other) a → Contains other a × (has_number right a.inv ≡ true)
    right_kept a a_in = Contains-from_filter (λ b. has_number right b.inv) other a a_in

    not_right : (a : KeyedCall) → Contains calls a → has_number left a.inv ≡ true → has_number right a.inv ≡ false
    not_right a a_in is = ⊎_elim (λ l. l.1) (λ others. ⊎_elim (λ r. absurd (differ (has_number left a.inv) is r.0))
        (λ n. absurd (differ (has_number left a.inv) is n.0)) others) (j.sides.each a a_in)

    not_left : (a : KeyedCall) → Contains calls a → has_number right a.inv ≡ true → has_number left a.inv ≡ false
    not_left a a_in is = ⊎_elim (λ l. absurd (differ (has_number right a.inv) is l.1)) (λ others. ⊎_elim (λ r. r.0) (λ n. n.0) others)
        (j.sides.each a a_in)

    here : keys key ≡ true → FitInTurn key (held key) merged
    here is = fit_alike key (λ a. has_number left a.inv) (held key) calls whole merged (record {
      fit = lifted_fits held keys calls first whole j.is_first j.first_is key is;
      keep_old = lifted_keeps held keys calls first whole j.is_first j.first_is;
      keep_new = j.both.precedence;
      known = j.first_known;
      turn = j.both.left_in_turn (λ a. has_number left a.inv) (λ x x_in. (left_kept x x_in).1)
          (λ y y_in. not_left y (j.second_known y (right_kept y y_in).0) (right_kept y y_in).1);
      quiet = λ x x_in fails. ⊎_elim (λ l. absurd (differ (has_number left x.inv) l.0 fails))
          (λ others. ⊎_elim (λ r. right_quiet x (j.first_known x x_in) r.2) (λ n. n.2.0 key) others) (j.sides.each x (j.first_known x x_in));
      others = λ y y_in fails. ⊎_elim (λ l. absurd (differ (has_number left y.inv) (left_kept y l).1 fails))
          (λ r. right_settled y (j.second_known y (right_kept y r).0) (j.sides.each y (j.second_known y (right_kept y r).0)) (right_kept y r).1)
          (j.both.from y y_in);
    })
      where
        right_quiet : (x : KeyedCall) → Contains calls x → IsOnRight keys calls x → IsQuiet x key
        right_quiet x x_in (inl outside) = none_quiet x (unconcerned x x_in (outside key is))
        right_quiet x x_in (inr read) = read.0 key

        by_concern : (y : KeyedCall) → Contains calls y → IsRead y → is_completed y ≡ true → IsUndisturbed keys calls y
            → (y.concerns key ≡ true) ⊎ (y.concerns key ≡ false) → IsNoEffect (y.effect key) ⊎ IsSettledRead key calls whole y
        by_concern y y_in read completed undisturbed (inr not) = inl (unconcerned y y_in not)
        by_concern y y_in read completed undisturbed (inl concerned) = inr (record {
          there = lifted_has held keys calls first whole j.apart.distinct j.is_first j.first_is j.first_known y y_in completed;
          quiet = read key;
          undisturbed = λ a a_in. undisturbed a key a_in is concerned;
        })

        right_settled : (y : KeyedCall) → Contains calls y → HasSide keys calls left right y → has_number right y.inv ≡ true
            → IsNoEffect (y.effect key) ⊎ IsSettledRead key calls whole y
        right_settled y y_in (inl l) named = absurd (differ (has_number right y.inv) named l.1)
        right_settled y y_in (inr (inr n)) named = absurd (differ (has_number right y.inv) named n.1)
        right_settled y y_in (inr (inl r)) named =
            ⊎_elim (λ outside. inl (unconcerned y y_in (outside key is)))
            (λ read. by_concern y y_in read.0 read.1 read.2 (bool_cases (y.concerns key))) r.2

    there : keys key ≡ false → FitInTurn key (held key) merged
    there is = fit_alike key (λ a. has_number right a.inv) (held key) calls other merged (record {
      fit = lifted_fits held (other_keys keys) calls second other j.is_second j.second_is key (rw is refl);
      keep_old = lifted_keeps held (other_keys keys) calls second other j.is_second j.second_is;
      keep_new = j.both.precedence;
      known = j.second_known;
      turn = j.both.right_in_turn (λ a. has_number right a.inv)
          (λ x x_in. not_right x (j.first_known x (left_kept x x_in).0) (left_kept x x_in).1) (λ y y_in. (right_kept y y_in).1);
      quiet = λ x x_in fails. ⊎_elim (λ l. left_quiet x (j.second_known x x_in) l.2)
          (λ others. ⊎_elim (λ r. absurd (differ (has_number right x.inv) r.1 fails)) (λ n. n.2.0 key) others)
          (j.sides.each x (j.second_known x x_in));
      others = λ y y_in fails. ⊎_elim
          (λ l. left_settled y (j.first_known y (left_kept y l).0) (j.sides.each y (j.first_known y (left_kept y l).0)) (left_kept y l).1)
          (λ r. absurd (differ (has_number right y.inv) (right_kept y r).1 fails))
          (j.both.from y y_in);
    })
      where
        left_quiet : (x : KeyedCall) → Contains calls x → IsOnLeft keys calls x → IsQuiet x key
        left_quiet x x_in (inl within) = none_quiet x (unconcerned x x_in (within key is))
        left_quiet x x_in (inr read) = read.0 key

        by_concern : (y : KeyedCall) → Contains calls y → IsRead y → is_completed y ≡ true → IsUndisturbed (other_keys keys) calls y
            → (y.concerns key ≡ true) ⊎ (y.concerns key ≡ false) → IsNoEffect (y.effect key) ⊎ IsSettledRead key calls other y
        by_concern y y_in read completed undisturbed (inr not) = inl (unconcerned y y_in not)
        by_concern y y_in read completed undisturbed (inl concerned) = inr (record {
          there = lifted_has held (other_keys keys) calls second other j.apart.distinct j.is_second j.second_is j.second_known y y_in completed;
          quiet = read key;
          undisturbed = λ a a_in. undisturbed a key a_in (rw is refl) concerned;
        })

        left_settled : (y : KeyedCall) → Contains calls y → HasSide keys calls left right y → has_number left y.inv ≡ true
            → IsNoEffect (y.effect key) ⊎ IsSettledRead key calls other y
        left_settled y y_in (inr (inl r)) named = absurd (differ (has_number left y.inv) named r.0)
        left_settled y y_in (inr (inr n)) named = absurd (differ (has_number left y.inv) named n.0)
        left_settled y y_in (inl l) named =
            ⊎_elim (λ within. inl (unconcerned y y_in (within key is)))
            (λ read. by_concern y y_in read.0 read.1 read.2 (bool_cases (y.concerns key))) l.2

    by_key : (keys key ≡ true) ⊎ (keys key ≡ false) → FitInTurn key (held key) merged
    by_key (inl is) = here is
    by_key (inr is) = there is

joined_order : (held : ℕ → Option ℕ) (keys : Keys) (calls first second whole other merged : List KeyedCall) (left right : List ℕ)
    → Joined held keys calls first second whole other merged left right → IsKeyedOrder held calls merged
joined_order held keys calls first second whole other merged left right j = record {
  known = λ a a_in. ⊎_elim (λ l. j.first_known a (Contains-from_filter (λ b. has_number left b.inv) whole a l).0)
      (λ r. j.second_known a (Contains-from_filter (λ b. has_number right b.inv) other a r).0) (j.both.from a a_in);
  distinct = j.both.distinct;
  precedence = j.both.precedence;
  complete = λ a a_in completed.
      ⊎_elim
      (λ l. j.both.left a (Contains-filter (λ b. has_number left b.inv) whole a
      (lifted_has held keys calls first whole j.apart.distinct j.is_first j.first_is j.first_known a a_in completed) l.0))
      (λ others. ⊎_elim
      (λ r. j.both.right a (Contains-filter (λ b. has_number right b.inv) other a
      (lifted_has held (other_keys keys) calls second other j.apart.distinct j.is_second j.second_is j.second_known a a_in completed) r.1))
      (λ n. absurd (differ (is_completed a) completed n.2.1)) others)
      (j.sides.each a a_in);
  fit = λ key. joined_fits held keys calls first second whole other merged left right j key;
}

join : (held : ℕ → Option ℕ) (keys : Keys) (calls : List KeyedCall) → AreKeyedCalls calls → All IsFormed calls → All (Parts keys calls) calls
    → HasKeyedOrder held (map (only keys) calls) → HasKeyedOrder held (map (only (other_keys keys)) calls) → HasKeyedOrder held calls
join held keys calls apart formed parts (first, is_first) (second, is_second) =
    let (left, right, sides) = make_sides keys calls calls apart.distinct (λ a a_in. All-contains (Parts keys calls) calls a parts a_in) in
    let (whole, whole_is, whole_known) = lift keys calls first is_first.known in
    let (other, other_is, other_known) = lift (other_keys keys) calls second is_second.known in
    let (merged, both) = merge (filter (λ a. has_number left a.inv) whole) (filter (λ a. has_number right a.inv) other) (record {
      distinct_left = AllPairs-filter (λ x y. x.inv ≢ y.inv) (λ a. has_number left a.inv) whole
          (AllPairs-from_map (λ x y. x.inv ≢ y.inv) (only keys) whole
          (subst (λ (xs : List KeyedCall). AreDistinct xs) (sym whole_is) is_first.distinct));
      distinct_right = AllPairs-filter (λ x y. x.inv ≢ y.inv) (λ a. has_number right a.inv) other
          (AllPairs-from_map (λ x y. x.inv ≢ y.inv) (only (other_keys keys)) other
          (subst (λ (xs : List KeyedCall). AreDistinct xs) (sym other_is) is_second.distinct));
      apart = λ x y x_in y_in same.
          let (x_whole, x_named) = Contains-from_filter (λ a. has_number left a.inv) whole x x_in in
          let (y_other, y_named) = Contains-from_filter (λ a. has_number right a.inv) other y y_in in
          let x_right : has_number right x.inv ≡ true = subst (λ (n : ℕ). has_number right n ≡ true) (sym same) y_named in
          ⊎_elim (λ l. differ (has_number right x.inv) x_right l.1)
          (λ others. ⊎_elim (λ r. differ (has_number left x.inv) x_named r.0) (λ n. differ (has_number left x.inv) x_named n.0) others)
          (sides.each x (whole_known x x_whole));
      keep_left = AllPairs-filter (λ x y. precedes y x ≡ false) (λ a. has_number left a.inv) whole
          (lifted_keeps held keys calls first whole is_first whole_is);
      keep_right = AllPairs-filter (λ x y. precedes y x ≡ false) (λ a. has_number right a.inv) other
          (lifted_keeps held (other_keys keys) calls second other is_second other_is);
      last_left = λ x x_in. All-contains (λ a. precedes a a ≡ false) calls x apart.last
          (whole_known x (Contains-from_filter (λ a. has_number left a.inv) whole x x_in).0);
      last_right = λ y y_in. All-contains (λ a. precedes a a ≡ false) calls y apart.last
          (other_known y (Contains-from_filter (λ a. has_number right a.inv) other y y_in).0);
    }) in (
      merged,
      joined_order held keys calls first second whole other merged left right (record {
        apart = apart;
        formed = formed;
        sides = sides;
        is_first = is_first;
        is_second = is_second;
        first_is = whole_is;
        second_is = other_is;
        first_known = whole_known;
        second_known = other_known;
        both = both;
      }),
    )

pub sets_judge : SetsOfKeysJudge
sets_judge held keys calls apart formed parts = (
  λ order. (some_refute held keys calls order, some_refute held (other_keys keys) calls order),
  λ orders. join held keys calls apart formed parts orders.0 orders.1,
)

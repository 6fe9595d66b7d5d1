-- A scan that only a pending call disturbs. Two keys hold 0. An insert of 1 at key 1 is pending,
-- and was read while the scan ran; then key 2 was given 1. The scan reported 0 at key 1, as before
-- both, and 1 at key 2, as after both.
use Rattle.follow_laws.proofs.Common.{◌≡◌, ℕ, ◌==◌, ◌||◌, Bool, true, false, cond, List, [], ◌∷◌, ◌++◌, map, Option, Some, None, inl, inr, refl, sym}
use Rattle.follow_laws.proofs.Common.{ap, ◌∙◌, subst, ⊎_elim, arith, ◌≢◌, ◌⊎◌, All, AllPairs, Contains, eqb-true, All-nil, All-cons, All-contains}
use Rattle.follow_laws.proofs.Common.{Contains-append_left, Contains-append_right, Contains-append_cases, AllPairs-cons, Contains-map}
use Rattle.follow_laws.proofs.Common.{Contains-from_map, AllPairs-nil, AllPairs-across, All-from_contains, Contains-nil, Contains-first}
use Rattle.follow_laws.proofs.Common.{Contains-later, Contains-cases, Contains-split, KeyedCall, Effect, no_effect, IsNoEffect, IsFormed}
use Rattle.follow_laws.proofs.Common.{is_completed, precedes, is_same_value, read_of, FitInTurn, left_by, AreDistinct, KeepPrecedence, AreKeyedCalls}
use Rattle.follow_laws.proofs.Common.{HasKeyedOrder, Keys, IsOutside, has_call, only, other_keys, IsQuiet, IsRead, PendingCallsDisturb}
use Rattle.follow_laws.specs.WiderRules.{PartsByCompleted, IsUndisturbedByCompleted}
use Rattle.follow_laws.proofs.AfterLemmas.{from_named}
use Rattle.follow_laws.proofs.DeadLemmas.{bool_cases}
use Rattle.follow_laws.proofs.EffectLemmas.{same_values}
use Rattle.follow_laws.proofs.EffectRestLemmas.{none_none}
use Rattle.follow_laws.proofs.TurnLemmas.{fit-front, fit-back, left_by-append}

-- an effect at one key
abbrev at : ℕ → Effect → ℕ → Effect
at own e key = cond (own == key) e no_effect

abbrev puts_one : Effect
puts_one = record { fits = λ value. true; leaves = λ value. Some 1 }

-- the pending insert at key 1, the get that saw it, the insert at key 2, and the scan
abbrev first : KeyedCall
first = record { inv = 0; res = None; refused = false; concerns = λ key. 1 == key; effect = at 1 puts_one }

abbrev seen : KeyedCall
seen = record { inv = 2; res = Some 3; refused = false; concerns = λ key. 1 == key; effect = at 1 (read_of (Some 1)) }

abbrev second : KeyedCall
second = record {
  inv = 4;
  res = Some 5;
  refused = false;
  concerns = λ key. 2 == key;
  effect = at 2 (record { fits = is_same_value (Some 0); leaves = λ value. Some 1 });
}

abbrev scan : KeyedCall
scan = record {
  inv = 1;
  res = Some 6;
  refused = false;
  concerns = λ key. (1 == key) || (2 == key);
  effect = λ key. cond (1 == key) (read_of (Some 0)) (cond (2 == key) (read_of (Some 1)) no_effect);
}

abbrev all_calls : List KeyedCall
all_calls = first ∷ scan ∷ seen ∷ second ∷ []

abbrev zeros : ℕ → Option ℕ
zeros key = Some 0

-- what holds of each of the four holds of all
each : (P : KeyedCall → Type 0) → P first → P scan → P seen → P second → (a : KeyedCall) → Contains all_calls a → P a
each P p q r s a a_in =
    ⊎_elim (λ e. subst P e p) (λ l. ⊎_elim (λ e. subst P e q) (λ m. ⊎_elim (λ e. subst P e r)
    (λ n. ⊎_elim (λ e. subst P e s) (λ none. absurd (Contains-nil a none)) (Contains-cases second [] a n))
    (Contains-cases seen (second ∷ []) a m))
    (Contains-cases scan (seen ∷ second ∷ []) a l))
    (Contains-cases first (scan ∷ seen ∷ second ∷ []) a a_in)

-- 1, once at key 1, stays; and only one call changes key 2
stays_one : (xs : List KeyedCall) → ((x : KeyedCall) → Contains xs x → Contains all_calls x) → left_by 1 (Some 1) xs ≡ Some 1
stays_one [] known = refl
stays_one (x ∷ xs) known =
    ap (λ (v : Option ℕ). left_by 1 v xs)
    (each (λ a. (a.effect 1).leaves (Some 1) ≡ Some 1) refl refl refl refl x (known x (Contains-first x xs)))
    ∙ stays_one xs (λ y y_in. known y (Contains-later x xs y y_in))

stays_zero : (xs : List KeyedCall) → ((x : KeyedCall) → Contains xs x → Contains all_calls x) → has_call xs 4 ≡ false → left_by 2 (Some 0) xs ≡ Some 0
stays_zero [] known unnamed = refl
stays_zero (x ∷ xs) known unnamed =
    let here : (x.inv == 4) ≡ false = or_left (x.inv == 4) (has_call xs 4) unnamed in
    let rest : has_call xs 4 ≡ false = or_right (x.inv == 4) (has_call xs 4) unnamed in
    ap (λ (v : Option ℕ). left_by 2 v xs)
    (each (λ a. (a.inv == 4) ≡ false → (a.effect 2).leaves (Some 0) ≡ Some 0) (λ e. refl) (λ e. refl) (λ e. refl) (λ e. cc) x
    (known x (Contains-first x xs)) here)
    ∙ stays_zero xs (λ y y_in. known y (Contains-later x xs y y_in)) rest
  where
    or_left : (b c : Bool) → (b || c) ≡ false → b ≡ false
    or_left true c h = cc
    or_left false c h = refl

    or_right : (b c : Bool) → (b || c) ≡ false → c ≡ false
    or_right true c h = cc
    or_right false c h = h

zero_or_one : (a : Option ℕ) → a ≡ Some 0 → a ≡ Some 1 → ⊥
zero_or_one a zero one = let told : is_same_value a (Some 1) ≡ true = (same_values a (Some 1)).1 one in
    let not_so : is_same_value a (Some 1) ≡ false = rw zero refl in cc

-- the calls have no order
no_order : HasKeyedOrder zeros all_calls → ⊥
no_order (order, is) =
    let scan_in : Contains order scan = is.complete scan (Contains-later first (scan ∷ seen ∷ second ∷ []) scan (Contains-first scan (seen ∷ second ∷ []))) refl in
    let (before, after, parts) = Contains-split order scan scan_in in
    by_parts before after parts
  where
    by_parts : (before after : List KeyedCall) → order ≡ before ++ scan ∷ after → ⊥
    by_parts before after parts = by_second (bool_cases (has_call before 4))
      where
        known : (x : KeyedCall) → Contains before x → Contains all_calls x
        known x x_in = is.known x (subst (λ (xs : List KeyedCall). Contains xs x) (sym parts) (Contains-append_left before (scan ∷ after) x x_in))

        fit_at : (key : ℕ) → FitInTurn key (Some 0) (before ++ scan ∷ after)
        fit_at key = subst (λ (xs : List KeyedCall). FitInTurn key (Some 0) xs) parts (is.fit key)

        keeps : KeepPrecedence (before ++ scan ∷ after)
        keeps = subst (λ (xs : List KeyedCall). KeepPrecedence xs) parts is.precedence

        one_is_zero : left_by 1 (Some 0) before ≡ Some 0
        one_is_zero =
            let there = fit-back 1 (Some 0) before (scan ∷ after) (fit_at 1) in
            let told : is_same_value (Some 0) (left_by 1 (Some 0) before) ≡ true = there.0 in
            sym ((same_values (Some 0) (left_by 1 (Some 0) before)).0 told)

        two_is_one : left_by 2 (Some 0) before ≡ Some 1
        two_is_one =
            let there = fit-back 2 (Some 0) before (scan ∷ after) (fit_at 2) in
            let told : is_same_value (Some 1) (left_by 2 (Some 0) before) ≡ true = there.0 in
            sym ((same_values (Some 1) (left_by 2 (Some 0) before)).0 told)

        seen_in : Contains order seen
        seen_in = is.complete seen (Contains-later first (scan ∷ seen ∷ second ∷ []) seen (Contains-later scan (seen ∷ second ∷ []) seen
            (Contains-first seen (second ∷ [])))) refl

        seen_first : Contains before seen → ⊥
        seen_first there =
            let (early, late, early_is) = Contains-split before seen there in
            let fit : FitInTurn 1 (Some 0) (early ++ seen ∷ late) = subst (λ (xs : List KeyedCall). FitInTurn 1 (Some 0) xs) early_is
            (fit-front 1 (Some 0) before (scan ∷ after) (fit_at 1)) in
            let back = fit-back 1 (Some 0) early (seen ∷ late) fit in
            let told : is_same_value (Some 1) (left_by 1 (Some 0) early) ≡ true = back.0 in
            let saw : left_by 1 (Some 0) early ≡ Some 1 = sym ((same_values (Some 1) (left_by 1 (Some 0) early)).0 told) in
            let one : left_by 1 (Some 0) before ≡ Some 1 =
            ap (λ (xs : List KeyedCall). left_by 1 (Some 0) xs) early_is ∙ left_by-append 1 (Some 0) early (seen ∷ late)
            ∙ ap (λ (v : Option ℕ). left_by 1 v (seen ∷ late)) saw
            ∙ stays_one (seen ∷ late) (λ x x_in. known x (subst (λ (xs : List KeyedCall). Contains xs x) (sym early_is)
            (Contains-append_right early (seen ∷ late) x x_in))) in
            zero_or_one (left_by 1 (Some 0) before) one_is_zero one

        by_second : (has_call before 4 ≡ true) ⊎ (has_call before 4 ≡ false) → ⊥
        by_second (inr unnamed) =
            zero_or_one (left_by 2 (Some 0) before) (stays_zero before known unnamed) two_is_one
        by_second (inl named) =
            let (b, b_in, b_is) = from_named before 4 named in
            let second_is : b ≡ second = each (λ a. a.inv ≡ 4 → a ≡ second) (λ e. absurd (omega arith)) (λ e. absurd (omega arith))
            (λ e. absurd (omega arith)) (λ e. refl) b (known b b_in) b_is in
            let second_in : Contains before second = subst (λ (x : KeyedCall). Contains before x) second_is b_in in
            ⊎_elim (λ there. seen_first there)
            (λ behind.
            let kept : precedes seen second ≡ false = All-contains (λ y. precedes y second ≡ false) (scan ∷ after) seen
            (All-contains (λ x. All (λ y. precedes y x ≡ false) (scan ∷ after)) before second
            (AllPairs-across (λ x y. precedes y x ≡ false) before (scan ∷ after) keeps) second_in) behind in cc)
            (Contains-append_cases before (scan ∷ after) seen (subst (λ (xs : List KeyedCall). Contains xs seen) parts seen_in))

-- ---- but each key has

parts : All (PartsByCompleted (λ key. 1 == key) all_calls) all_calls
parts = All-from_contains (PartsByCompleted (λ key. 1 == key) all_calls) all_calls (λ a a_in.
    each (PartsByCompleted (λ key. 1 == key) all_calls) (inl (λ key out. out)) (inr (inr (read, undisturbed))) (inl (λ key out. out))
    (inr (inl outside)) a a_in)
  where
    outside : IsOutside (λ key. 1 == key) second
    outside key is = let own : 1 ≡ key = eqb-true 1 key is in subst (λ (k : ℕ). (2 == k) ≡ false) own refl

    read : IsRead scan
    read key value fits = by_tests (1 == key) (2 == key)
      where
        by_tests : (b c : Bool) → (cond b (read_of (Some 0)) (cond c (read_of (Some 1)) no_effect)).leaves value ≡ value
        by_tests true c = refl
        by_tests false true = refl
        by_tests false false = refl

    undisturbed : IsUndisturbedByCompleted (λ key. 1 == key) all_calls scan
    undisturbed a key a_in completed is concerned =
        each (λ b. is_completed b ≡ true → IsQuiet b key ⊎ (precedes b scan ≡ true) ⊎ (precedes scan b ≡ true))
        (λ e. cc) (λ e. inl (read key)) (λ e. inl quiet_seen) (λ e. inl quiet_second) a a_in completed
      where
        quiet_seen : IsQuiet seen key
        quiet_seen value fits = by_test (1 == key)
          where
            by_test : (b : Bool) → (cond b (read_of (Some 1)) no_effect).leaves value ≡ value
            by_test true = refl
            by_test false = refl

        quiet_second : IsQuiet second key
        quiet_second value fits =
            let own : 1 ≡ key = eqb-true 1 key is in
            let other : (2 == key) ≡ false = subst (λ (k : ℕ). (2 == k) ≡ false) own refl in rw other refl

formed : All IsFormed all_calls
formed = All-from_contains IsFormed all_calls (λ a a_in. each IsFormed (point 1 puts_one 0 None) scan_formed (point 1 (read_of (Some 1)) 2 (Some 3))
    (point 2 (record { fits = is_same_value (Some 0); leaves = λ value. Some 1 }) 4 (Some 5)) a a_in)
  where
    point : (own : ℕ) (e : Effect) (inv : ℕ) (res : Option ℕ)
        → IsFormed (record { inv = inv; res = res; refused = false; concerns = λ key. own == key; effect = at own e })
    point own e inv res = record { elsewhere = λ key out. rw out none_none; refusal = λ never. cc }

    scan_formed : IsFormed scan
    scan_formed = record { elsewhere = λ key out. by_tests (1 == key) (2 == key) out; refusal = λ never. cc }
      where
        by_tests : (b c : Bool) → (b || c) ≡ false → IsNoEffect (cond b (read_of (Some 0)) (cond c (read_of (Some 1)) no_effect))
        by_tests true c h = cc
        by_tests false true h = cc
        by_tests false false h = none_none

-- lists of four and three calls
four : (R : KeyedCall → KeyedCall → Type 0) (a b c d : KeyedCall) → R a b → R a c → R a d → R b c → R b d → R c d
    → AllPairs R (a ∷ b ∷ c ∷ d ∷ [])
four R a b c d ab ac ad bc bd cd =
    AllPairs-cons R a (b ∷ c ∷ d ∷ []) (All-cons (R a) b (c ∷ d ∷ []) ab (All-cons (R a) c (d ∷ []) ac (All-cons (R a) d [] ad (All-nil (R a)))))
    (AllPairs-cons R b (c ∷ d ∷ []) (All-cons (R b) c (d ∷ []) bc (All-cons (R b) d [] bd (All-nil (R b))))
    (AllPairs-cons R c (d ∷ []) (All-cons (R c) d [] cd (All-nil (R c))) (AllPairs-cons R d [] (All-nil (R d)) (AllPairs-nil R))))

distinct : AreDistinct all_calls
distinct = four (λ a b. a.inv ≢ b.inv) first scan seen second (λ e. omega (arith, e)) (λ e. omega (arith, e)) (λ e. omega (arith, e))
    (λ e. omega (arith, e)) (λ e. omega (arith, e)) (λ e. omega (arith, e))

keyed_calls : AreKeyedCalls all_calls
keyed_calls = record {
  distinct = distinct;
  last = All-from_contains (λ a. precedes a a ≡ false) all_calls (λ a a_in. each (λ b. precedes b b ≡ false) refl refl refl refl a a_in);
}

-- at key 1 the scan comes first, and at the other keys last
order_at_one : HasKeyedOrder zeros (map (only (λ key. 1 == key)) all_calls)
order_at_one = (
  map (only (λ key. 1 == key)) (scan ∷ first ∷ seen ∷ second ∷ []),
  record {
    known = λ y y_in.
        let (x, x_in, x_is) = Contains-from_map (only (λ key. 1 == key)) (scan ∷ first ∷ seen ∷ second ∷ []) y y_in in
        subst (λ (z : KeyedCall). Contains (map (only (λ key. 1 == key)) all_calls) z) x_is
        (Contains-map (only (λ key. 1 == key)) all_calls x (turned x x_in));
    distinct = four (λ a b. a.inv ≢ b.inv) (only (λ key. 1 == key) scan) (only (λ key. 1 == key) first) (only (λ key. 1 == key) seen)
        (only (λ key. 1 == key) second) (λ e. omega (arith, e)) (λ e. omega (arith, e)) (λ e. omega (arith, e)) (λ e. omega (arith, e))
        (λ e. omega (arith, e)) (λ e. omega (arith, e));
    precedence = four (λ a b. precedes b a ≡ false) (only (λ key. 1 == key) scan) (only (λ key. 1 == key) first) (only (λ key. 1 == key) seen)
        (only (λ key. 1 == key) second) refl refl refl refl refl refl;
    complete = λ y y_in completed.
        let (x, x_in, x_is) = Contains-from_map (only (λ key. 1 == key)) all_calls y y_in in
        subst (λ (z : KeyedCall). Contains (map (only (λ key. 1 == key)) (scan ∷ first ∷ seen ∷ second ∷ [])) z) x_is
        (Contains-map (only (λ key. 1 == key)) (scan ∷ first ∷ seen ∷ second ∷ []) x (back x x_in));
    fit = λ key. by_test key (1 == key) refl;
  },
)
  where
    turned : (x : KeyedCall) → Contains (scan ∷ first ∷ seen ∷ second ∷ []) x → Contains all_calls x
    turned x x_in = ⊎_elim
        (λ e. subst (λ (z : KeyedCall). Contains all_calls z) e (Contains-later first (scan ∷ seen ∷ second ∷ []) scan (Contains-first scan (seen ∷ second ∷ []))))
        (λ l. ⊎_elim (λ e. subst (λ (z : KeyedCall). Contains all_calls z) e (Contains-first first (scan ∷ seen ∷ second ∷ [])))
        (λ m. Contains-later first (scan ∷ seen ∷ second ∷ []) x (Contains-later scan (seen ∷ second ∷ []) x m))
        (Contains-cases first (seen ∷ second ∷ []) x l))
        (Contains-cases scan (first ∷ seen ∷ second ∷ []) x x_in)

    back : (x : KeyedCall) → Contains all_calls x → Contains (scan ∷ first ∷ seen ∷ second ∷ []) x
    back x x_in = each (λ a. Contains (scan ∷ first ∷ seen ∷ second ∷ []) a)
        (Contains-later scan (first ∷ seen ∷ second ∷ []) first (Contains-first first (seen ∷ second ∷ [])))
        (Contains-first scan (first ∷ seen ∷ second ∷ []))
        (Contains-later scan (first ∷ seen ∷ second ∷ []) seen (Contains-later first (seen ∷ second ∷ []) seen (Contains-first seen (second ∷ []))))
        (Contains-later scan (first ∷ seen ∷ second ∷ []) second (Contains-later first (seen ∷ second ∷ []) second
        (Contains-later seen (second ∷ []) second (Contains-first second []))))
        x x_in

    by_test : (key : ℕ) (b : Bool) → (1 == key) ≡ b
        → FitInTurn key (Some 0) (map (only (λ key. 1 == key)) (scan ∷ first ∷ seen ∷ second ∷ []))
    by_test key true is =
        let own : 1 ≡ key = eqb-true 1 key is in
        subst (λ (k : ℕ). FitInTurn k (Some 0) (map (only (λ key. 1 == key)) (scan ∷ first ∷ seen ∷ second ∷ []))) own (refl, (refl, (refl, (refl, tt))))
    by_test key false is = rw is (refl, (refl, (refl, (refl, tt))))

abbrev not_one : Keys
not_one = other_keys (λ key. 1 == key)

order_elsewhere : HasKeyedOrder zeros (map (only not_one) all_calls)
order_elsewhere = (
  map (only not_one) (seen ∷ second ∷ scan ∷ first ∷ []),
  record {
    known = λ y y_in.
        let (x, x_in, x_is) = Contains-from_map (only not_one) (seen ∷ second ∷ scan ∷ first ∷ []) y y_in in
        subst (λ (z : KeyedCall). Contains (map (only not_one) all_calls) z) x_is (Contains-map (only not_one) all_calls x (turned x x_in));
    distinct = four (λ a b. a.inv ≢ b.inv) (only not_one seen) (only not_one second) (only not_one scan) (only not_one first)
        (λ e. omega (arith, e)) (λ e. omega (arith, e)) (λ e. omega (arith, e)) (λ e. omega (arith, e)) (λ e. omega (arith, e)) (λ e. omega (arith, e));
    precedence = four (λ a b. precedes b a ≡ false) (only not_one seen) (only not_one second) (only not_one scan) (only not_one first)
        refl refl refl refl refl refl;
    complete = λ y y_in completed.
        let (x, x_in, x_is) = Contains-from_map (only not_one) all_calls y y_in in
        subst (λ (z : KeyedCall). Contains (map (only not_one) (seen ∷ second ∷ scan ∷ first ∷ [])) z) x_is
        (Contains-map (only not_one) (seen ∷ second ∷ scan ∷ first ∷ []) x (back x x_in));
    fit = λ key. by_tests key (1 == key) refl (2 == key) refl;
  },
)
  where
    turned : (x : KeyedCall) → Contains (seen ∷ second ∷ scan ∷ first ∷ []) x → Contains all_calls x
    turned x x_in = ⊎_elim
        (λ e. subst (λ (z : KeyedCall). Contains all_calls z) e (Contains-later first (scan ∷ seen ∷ second ∷ []) seen
        (Contains-later scan (seen ∷ second ∷ []) seen (Contains-first seen (second ∷ [])))))
        (λ l. ⊎_elim
        (λ e. subst (λ (z : KeyedCall). Contains all_calls z) e (Contains-later first (scan ∷ seen ∷ second ∷ []) second
        (Contains-later scan (seen ∷ second ∷ []) second (Contains-later seen (second ∷ []) second (Contains-first second [])))))
        (λ m. ⊎_elim
        (λ e. subst (λ (z : KeyedCall). Contains all_calls z) e (Contains-later first (scan ∷ seen ∷ second ∷ []) scan
        (Contains-first scan (seen ∷ second ∷ []))))
        (λ n. ⊎_elim (λ e. subst (λ (z : KeyedCall). Contains all_calls z) e (Contains-first first (scan ∷ seen ∷ second ∷ [])))
        (λ none. absurd (Contains-nil x none)) (Contains-cases first [] x n))
        (Contains-cases scan (first ∷ []) x m))
        (Contains-cases second (scan ∷ first ∷ []) x l))
        (Contains-cases seen (second ∷ scan ∷ first ∷ []) x x_in)

    back : (x : KeyedCall) → Contains all_calls x → Contains (seen ∷ second ∷ scan ∷ first ∷ []) x
    back x x_in = each (λ a. Contains (seen ∷ second ∷ scan ∷ first ∷ []) a)
        (Contains-later seen (second ∷ scan ∷ first ∷ []) first (Contains-later second (scan ∷ first ∷ []) first
        (Contains-later scan (first ∷ []) first (Contains-first first []))))
        (Contains-later seen (second ∷ scan ∷ first ∷ []) scan (Contains-later second (scan ∷ first ∷ []) scan (Contains-first scan (first ∷ []))))
        (Contains-first seen (second ∷ scan ∷ first ∷ []))
        (Contains-later seen (second ∷ scan ∷ first ∷ []) second (Contains-first second (scan ∷ first ∷ [])))
        x x_in

    by_tests : (key : ℕ) (b : Bool) → (1 == key) ≡ b → (c : Bool) → (2 == key) ≡ c
        → FitInTurn key (Some 0) (map (only not_one) (seen ∷ second ∷ scan ∷ first ∷ []))
    by_tests key true is c c_is = rw is (refl, (refl, (refl, (refl, tt))))
    by_tests key false is true c_is =
        let own : 2 ≡ key = eqb-true 2 key c_is in
        subst (λ (k : ℕ). FitInTurn k (Some 0) (map (only not_one) (seen ∷ second ∷ scan ∷ first ∷ []))) own (refl, (refl, (refl, (refl, tt))))
    by_tests key false is false c_is = rw is (rw c_is (refl, (refl, (refl, (refl, tt)))))

pub pending_disturb : PendingCallsDisturb
pending_disturb rule = no_order (rule zeros (λ key. 1 == key) all_calls keyed_calls formed parts order_at_one order_elsewhere)

-- Small calls that refute what goes further than the laws. Calls of keys 0 and 1, which hold nothing at first.
use Rattle.follow_laws.proofs.Common.{◌≡◌, ℕ, ◌<◌, ◌≤◌, ◌==◌, ◌&&◌, ◌||◌, Bool, true, false, not, cond, List, [], ◌∷◌, ◌++◌, map, Option, Some, None}
use Rattle.follow_laws.proofs.Common.{inl, inr, refl, sym, ap, ◌∙◌, subst, ⊎_elim, arith, ◌≢◌, ◌⊎◌, All, AllPairs, Contains, eqb-true, All-nil}
use Rattle.follow_laws.proofs.Common.{All-cons, All-head, All-contains, Contains-append_cases, Contains-append_left, AllPairs-cons, Contains-map}
use Rattle.follow_laws.proofs.Common.{Contains-from_map, AllPairs-nil, AllPairs-head, AllPairs-back, AllPairs-across, All-from_contains, Contains-nil}
use Rattle.follow_laws.proofs.Common.{Contains-first, Contains-later, Contains-cases, Contains-split, KeyedCall, Effect, no_effect, IsNoEffect}
use Rattle.follow_laws.proofs.Common.{IsFormed, precedes, is_completed, is_same_value, read_of, FitInTurn, left_by, KeepPrecedence, HasKeyedOrder}
use Rattle.follow_laws.proofs.Common.{AreKeyedCalls, IsLater, HaveGrown, Choice, at_first, rest_of, Agrees, GoesOn, Keys, Part, IsAt, IsOneOf}
use Rattle.follow_laws.proofs.Common.{choices_of, Represent, left_at, AgreesAt, SomePastGoesOn, IsLeftAt, NoneIsLeftAt, MayComeNext, IsAfterCall}
use Rattle.follow_laws.proofs.Common.{PartsMayBeTied, PastsMayStay, TiedCallsMayWait, EarlyReadsGain, none-some, same_Some}
use Rattle.follow_laws.proofs.DeadLemmas.{bool_cases}
use Rattle.follow_laws.proofs.EffectLemmas.{same_values}
use Rattle.follow_laws.proofs.EffectRestLemmas.{none_none}
use Rattle.follow_laws.proofs.TurnLemmas.{fit-back}
use Rattle.follow_laws.proofs.PartLemmas.{all_keys, at_self, at_back, same_goes_on, fit_none, none_left_out, stand_below}
use Rattle.follow_laws.proofs.StepLemmas.{parts_begin, parts_stay, parts_unite}

abbrev nothing : ℕ → Option ℕ
nothing key = None

-- a part of one past: before any call
abbrev first_part : Keys → Part
first_part keys = record { keys = keys; pasts = at_first nothing ∷ [] }

-- what is left of a call there: all of it at these keys
abbrev left : Keys → KeyedCall → KeyedCall
left keys a = left_at keys (at_first nothing) a

-- an effect at one key
abbrev at : ℕ → Effect → ℕ → Effect
at own e key = cond (own == key) e no_effect

abbrev puts_five : Effect
puts_five = record { fits = λ value. true; leaves = λ value. Some 5 }

at_cases : (P : Effect → Type 0) (own key : ℕ) (e : Effect) → P e → P no_effect → P (at own e key)
at_cases P own key e here there = by_key (bool_cases (own == key))
  where
    by_key : ((own == key) ≡ true) ⊎ ((own == key) ≡ false) → P (at own e key)
    by_key (inl is) = rw is here
    by_key (inr is) = rw is there

-- calls that are formed, and have names of their own, may come after no events
grown_first : (calls : List KeyedCall) → All IsFormed calls → AreKeyedCalls calls → HaveGrown 0 [] calls
grown_first calls formed apart = record {
  begun = All-nil (λ a. a.inv < 0);
  ended = λ a res a_in is. absurd (Contains-nil a a_in);
  stay = λ a a_in. absurd (Contains-nil a a_in);
  come = λ b b_in. inr (omega arith);
  alone = AllPairs-nil (λ x y. x.inv ≢ y.inv);
  formed = formed;
  apart = apart;
}

-- the part of all keys, with one past, represents them
stands_first : (place : ℕ) (calls : List KeyedCall) → All IsFormed calls → AreKeyedCalls calls
    → Represent nothing place calls (first_part all_keys ∷ [])
stands_first place calls formed apart =
    parts_stay nothing 0 place [] calls (first_part all_keys ∷ []) (omega arith)
    (grown_first calls formed apart) (parts_begin nothing)

grown_same : (place : ℕ) (calls : List KeyedCall) → All (λ a. a.inv < place) calls
    → ((a : KeyedCall) (res : ℕ) → Contains calls a → a.res ≡ Some res → res < place) → All IsFormed calls → AreKeyedCalls calls
    → HaveGrown place calls calls
grown_same place calls begun ended formed apart = record {
  begun = begun;
  ended = ended;
  stay = λ a a_in. (a, a_in, record { inv = refl; concerns = λ key. refl; response = inl refl });
  come = λ b b_in. inl (b, b_in, record { inv = refl; concerns = λ key. refl; response = inl refl });
  alone = apart.distinct;
  formed = formed;
  apart = apart;
}

-- the choice of one part of all keys, with one past, is that past
only_past : (past w : Choice) → choices_of (record { keys = all_keys; pasts = past ∷ [] } ∷ []) w → IsAt all_keys past w
only_past past w is =
    let (one, one_in, same) = All-head (λ part. IsOneOf part.keys part.pasts w) (record { keys = all_keys; pasts = past ∷ [] }) [] is in
    ⊎_elim (λ e. subst (λ (v : Choice). IsAt all_keys v w) (sym e) same) (λ later. absurd (Contains-nil one later))
    (Contains-cases past [] one one_in)

is_only_past : (past : Choice) → choices_of (record { keys = all_keys; pasts = past ∷ [] } ∷ []) past
is_only_past past =
    All-cons (λ part. IsOneOf part.keys part.pasts past) (record { keys = all_keys; pasts = past ∷ [] }) []
    (past, Contains-first past [], at_self all_keys past) (All-nil (λ part. IsOneOf part.keys part.pasts past))

-- ---- an insert that is pending, and after it perhaps a get that finds nothing

abbrev pending : KeyedCall
pending = record { inv = 0; res = None; refused = false; concerns = λ key. 0 == key; effect = at 0 puts_five }

abbrev get : KeyedCall
get = record { inv = 2; res = Some 3; refused = false; concerns = λ key. 0 == key; effect = at 0 (read_of None) }

formed_at : (a : KeyedCall) (own : ℕ) (e : Effect) → ((key : ℕ) → a.concerns key ≡ (own == key)) → ((key : ℕ) → a.effect key ≡ at own e key)
    → a.refused ≡ false → IsFormed a
formed_at a own e concerns effect accepted = record {
  elsewhere = λ key is. out key (sym (concerns key) ∙ is);
  refusal = λ refused. let never : a.refused ≡ true = refused in cc;
}
  where
    out : (key : ℕ) → (own == key) ≡ false → IsNoEffect (a.effect key)
    out key is = rw (effect key) (rw is none_none)

-- two calls, and the later does not precede the earlier
keyed_two : (a b : KeyedCall) → a.inv < b.inv → precedes a a ≡ false → precedes b b ≡ false → AreKeyedCalls (a ∷ b ∷ [])
keyed_two a b less first second = record {
  distinct = AllPairs-cons (λ x y. x.inv ≢ y.inv) a (b ∷ [])
      (All-cons (λ y. a.inv ≢ y.inv) b [] (λ same. absurd (omega (arith, same, less))) (All-nil (λ y. a.inv ≢ y.inv)))
      (AllPairs-cons (λ x y. x.inv ≢ y.inv) b [] (All-nil (λ y. b.inv ≢ y.inv)) (AllPairs-nil (λ x y. x.inv ≢ y.inv)));
  last = All-cons (λ c. precedes c c ≡ false) a (b ∷ []) first
      (All-cons (λ c. precedes c c ≡ false) b [] second (All-nil (λ c. precedes c c ≡ false)));
}

keyed_one : (a : KeyedCall) → precedes a a ≡ false → AreKeyedCalls (a ∷ [])
keyed_one a first = record {
  distinct = AllPairs-cons (λ x y. x.inv ≢ y.inv) a [] (All-nil (λ y. a.inv ≢ y.inv)) (AllPairs-nil (λ x y. x.inv ≢ y.inv));
  last = All-cons (λ c. precedes c c ≡ false) a [] first (All-nil (λ c. precedes c c ≡ false));
}

each_of_one : (P : KeyedCall → Type 0) (a : KeyedCall) → P a → (x : KeyedCall) → Contains (a ∷ []) x → P x
each_of_one P a p x x_in = ⊎_elim (λ e. subst P e p) (λ none. absurd (Contains-nil x none)) (Contains-cases a [] x x_in)

each_of_two : (P : KeyedCall → Type 0) (a b : KeyedCall) → P a → P b → (x : KeyedCall) → Contains (a ∷ b ∷ []) x → P x
each_of_two P a b p q x x_in = ⊎_elim (λ e. subst P e p) (λ later. each_of_one P b q x later) (Contains-cases a (b ∷ []) x x_in)

formed_one : All IsFormed (pending ∷ [])
formed_one = All-cons IsFormed pending [] (formed_at pending 0 puts_five (λ key. refl) (λ key. refl) refl) (All-nil IsFormed)

formed_get : IsFormed get
formed_get = formed_at get 0 (read_of None) (λ key. refl) (λ key. refl) refl

formed_both : All IsFormed (pending ∷ get ∷ [])
formed_both = All-cons IsFormed pending (get ∷ []) (formed_at pending 0 puts_five (λ key. refl) (λ key. refl) refl)
    (All-cons IsFormed get [] formed_get (All-nil IsFormed))

-- what comes of taking the insert
abbrev with_five : Choice
with_five = record {
  taken = λ inv key. (inv == 0) && (0 == key);
  found = λ inv key. None;
  holds = λ key. (pending.effect key).leaves None;
}

after_five : IsAfterCall all_keys (at_first nothing) pending with_five
after_five = record {
  taken = λ inv key is. refl;
  holds = λ key is. refl;
  found_before = λ inv key is taken. cc;
  found = λ key is taken concerned. refl;
}

comes_next : MayComeNext all_keys (at_first nothing) (pending ∷ []) pending
comes_next = record {
  is_left = (0, refl, refl);
  accepted = refl;
  fits = λ key is. at_cases (λ e. e.fits None ≡ true) 0 key puts_five refl refl;
  first = λ b b_in before. ⊎_elim
      (λ same. let never : precedes pending pending ≡ true = subst (λ (z : KeyedCall). precedes z pending ≡ true) (sym same) before in cc)
      (λ later. absurd (Contains-nil b later)) (Contains-cases pending [] b b_in);
}

grown_pending : HaveGrown 1 (pending ∷ []) (pending ∷ [])
grown_pending = grown_same 1 (pending ∷ []) (All-cons (λ a. a.inv < 1) pending [] (omega arith) (All-nil (λ a. a.inv < 1)))
    (λ a res a_in is. ⊎_elim
    (λ same. absurd (none-some res (subst (λ (z : KeyedCall). z.res ≡ Some res) (sym same) is)))
    (λ later. absurd (Contains-nil a later)) (Contains-cases pending [] a a_in))
    formed_one (keyed_one pending refl)

-- the get may come, before which the insert was not taken
grown_get : HaveGrown 1 (pending ∷ []) (pending ∷ get ∷ [])
grown_get = record {
  begun = grown_pending.begun;
  ended = grown_pending.ended;
  stay = λ a a_in. each_of_one (λ x. (b : KeyedCall) × Contains (pending ∷ get ∷ []) b × IsLater 1 x b) pending
      (pending, Contains-first pending (get ∷ []), record { inv = refl; concerns = λ key. refl; response = inl refl }) a a_in;
  come = λ b b_in. each_of_two (λ x. ((a : KeyedCall) × Contains (pending ∷ []) a × IsLater 1 a x) ⊎ (1 ≤ x.inv)) pending get
      (inl (pending, Contains-first pending [], record { inv = refl; concerns = λ key. refl; response = inl refl })) (inr (omega arith)) b b_in;
  alone = grown_pending.alone;
  formed = formed_both;
  apart = keyed_two pending get (omega arith) refl refl;
}

order_of_get : HasKeyedOrder nothing (pending ∷ get ∷ [])
order_of_get = (
  get ∷ [],
  record {
    known = λ a a_in. each_of_one (λ x. Contains (pending ∷ get ∷ []) x) get (Contains-later pending (get ∷ []) get (Contains-first get [])) a a_in;
    distinct = (keyed_one get refl).distinct;
    precedence = AllPairs-cons (λ x y. precedes y x ≡ false) get [] (All-nil (λ y. precedes y get ≡ false))
        (AllPairs-nil (λ x y. precedes y x ≡ false));
    complete = λ a a_in completed. each_of_two (λ x. is_completed x ≡ true → Contains (get ∷ []) x) pending get
        (λ never. cc) (λ is. Contains-first get []) a a_in completed;
    fit = λ key. (at_cases (λ e. e.fits None ≡ true) 0 key (read_of None) refl refl, tt);
  },
)

-- if 5 is there, what is left has no order
never_after : HasKeyedOrder with_five.holds (map (rest_of with_five) (pending ∷ get ∷ [])) → ⊥
never_after (order, is) =
    by_order order (is.complete found (Contains-later (rest_of with_five pending) (found ∷ []) found (Contains-first found [])) refl)
    (is.fit 0) is.known
  where
    found : KeyedCall
    found = rest_of with_five get

    by_order : (xs : List KeyedCall) → Contains xs found → FitInTurn 0 (Some 5) xs
        → ((a : KeyedCall) → Contains xs a → Contains (map (rest_of with_five) (pending ∷ get ∷ [])) a) → ⊥
    by_order [] x_in fit known = Contains-nil found x_in
    by_order (x ∷ xs) x_in fit known =
        ⊎_elim
        (λ same. absurd (unfit x same fit.0))
        (λ later. by_order xs later (subst (λ (v : Option ℕ). FitInTurn 0 v xs)
        (each_of_two (λ a. (a.effect 0).leaves (Some 5) ≡ Some 5) (rest_of with_five pending) found refl refl x
        (known x (Contains-first x xs))) fit.1) (λ a a_in. known a (Contains-later x xs a a_in)))
        (Contains-cases x xs found x_in)
      where
        unfit : (y : KeyedCall) → y ≡ found → (y.effect 0).fits (Some 5) ≡ true → ⊥
        unfit y same fits =
            let there : (found.effect 0).fits (Some 5) ≡ true = subst (λ (z : KeyedCall). (z.effect 0).fits (Some 5) ≡ true) same fits in cc

pub pasts_may_stay : PastsMayStay
pasts_may_stay rule =
    let stand = rule nothing 1 1 (pending ∷ []) all_keys (at_first nothing) [] (with_five ∷ []) [] pending
    (Contains-first pending []) (omega arith) refl (0, refl, refl)
    (λ a a_in begun accepted. inl (each_of_one (λ x. IsLeftAt all_keys (at_first nothing) x) pending (0, refl, refl) a a_in))
    (λ w b w_is b_in begun accepted. inl (λ key out. cc))
    (λ a a_in next. (
      with_five,
      Contains-first with_five [],
      each_of_one (λ x. IsAfterCall all_keys (at_first nothing) x with_five) pending after_five a a_in,
    ))
    (λ next next_in. (
      pending,
      Contains-first pending [],
      comes_next,
      ⊎_elim (λ e. subst (λ (v : Choice). IsAfterCall all_keys (at_first nothing) pending v) e after_five)
          (λ later. absurd (Contains-nil next later)) (Contains-cases with_five [] next next_in),
    ))
    (stands_first 1 (pending ∷ []) formed_one (keyed_one pending refl)) in
    let (w, w_is, goes_on) = stand.above (pending ∷ get ∷ []) grown_get order_of_get in
    never_after (same_goes_on with_five w (pending ∷ get ∷ []) (only_past with_five w w_is) goes_on).1

-- ---- an insert that was answered, and then a get that finds nothing: they have no order

abbrev put : KeyedCall
put = record { inv = 0; res = Some 1; refused = false; concerns = λ key. 0 == key; effect = at 0 puts_five }

formed_put : All IsFormed (put ∷ get ∷ [])
formed_put = All-cons IsFormed put (get ∷ []) (formed_at put 0 puts_five (λ key. refl) (λ key. refl) refl)
    (All-cons IsFormed get [] formed_get (All-nil IsFormed))

keyed_put : AreKeyedCalls (put ∷ get ∷ [])
keyed_put = keyed_two put get (omega arith) refl refl

grown_put : HaveGrown 4 (put ∷ get ∷ []) (put ∷ get ∷ [])
grown_put = grown_same 4 (put ∷ get ∷ [])
    (All-cons (λ a. a.inv < 4) put (get ∷ []) (omega arith) (All-cons (λ a. a.inv < 4) get [] (omega arith) (All-nil (λ a. a.inv < 4))))
    (λ a res a_in is. each_of_two (λ x. x.res ≡ Some res → res < 4) put get
    (λ e. let one : 1 ≡ res = same_Some 1 res e in omega arith) (λ e. let three : 3 ≡ res = same_Some 3 res e in omega arith) a a_in is)
    formed_put keyed_put

-- 5, once there, stays
stays_five : (P : KeyedCall → Type 0) (key : ℕ) (xs : List KeyedCall) → ((x : KeyedCall) → P x → (x.effect key).leaves (Some 5) ≡ Some 5)
    → ((x : KeyedCall) → Contains xs x → P x) → left_by key (Some 5) xs ≡ Some 5
stays_five P key [] stays known = refl
stays_five P key (x ∷ xs) stays known =
    ap (λ (v : Option ℕ). left_by key v xs) (stays x (known x (Contains-first x xs)))
    ∙ stays_five P key xs stays (λ y y_in. known y (Contains-later x xs y y_in))

-- the value is there after a call that puts it there
five_after : (P : KeyedCall → Type 0) (key : ℕ) (xs : List KeyedCall) (x : KeyedCall)
    → ((y : KeyedCall) → P y → (y.effect key).leaves (Some 5) ≡ Some 5) → ((y : KeyedCall) → Contains xs y → P y) → Contains xs x
    → ((value : Option ℕ) → (x.effect key).leaves value ≡ Some 5) → (value : Option ℕ) → left_by key value xs ≡ Some 5
five_after P key [] x stays known x_in puts value = absurd (Contains-nil x x_in)
five_after P key (y ∷ xs) x stays known x_in puts value =
    ⊎_elim
    (λ same. ap (λ (v : Option ℕ). left_by key v xs) (subst (λ (z : KeyedCall). (z.effect key).leaves value ≡ Some 5) (sym same) (puts value))
    ∙ stays_five P key xs stays (λ z z_in. known z (Contains-later y xs z z_in)))
    (λ later. five_after P key xs x stays (λ z z_in. known z (Contains-later y xs z z_in)) later puts ((y.effect key).leaves value))
    (Contains-cases y xs x x_in)

-- what a call finds is what the calls before it left
told_before : (key : ℕ) (told : Option ℕ) (before after : List KeyedCall) (x : KeyedCall)
    → ((value : Option ℕ) → (x.effect key).fits value ≡ is_same_value told value) → FitInTurn key None (before ++ x ∷ after)
    → left_by key None before ≡ told
told_before key told before after x fits fit =
    sym ((same_values told (left_by key None before)).0 (sym (fits (left_by key None before)) ∙ (fit-back key None before (x ∷ after) fit).0))

never_put : HasKeyedOrder nothing (put ∷ get ∷ []) → ⊥
never_put (order, is) =
    let (before, after, parts) = Contains-split order get (is.complete get (Contains-later put (get ∷ []) get (Contains-first get [])) refl) in
    by_parts before after parts
  where
    by_parts : (before after : List KeyedCall) → order ≡ before ++ get ∷ after → ⊥
    by_parts before after parts =
        ⊎_elim
        (λ first. none-some 5 (sym none ∙ five_after (λ x. Contains (put ∷ get ∷ []) x) 0 before put
        (λ x x_in. each_of_two (λ y. (y.effect 0).leaves (Some 5) ≡ Some 5) put get refl refl x x_in)
        (λ x x_in. is.known x (subst (λ (xs : List KeyedCall). Contains xs x) (sym parts) (Contains-append_left before (get ∷ after) x x_in)))
        first (λ value. refl) None))
        (λ others.
        let keeps : All (λ y. precedes y get ≡ false) after = AllPairs-head (λ x y. precedes y x ≡ false) get after
        (AllPairs-back (λ x y. precedes y x ≡ false) before (get ∷ after) (subst (λ (xs : List KeyedCall). KeepPrecedence xs) parts is.precedence)) in
        ⊎_elim
        (λ same. let never : 2 ≡ 0 = ap (λ (z : KeyedCall). z.inv) same in omega (arith, never))
        (λ later. let never : precedes put get ≡ false = All-contains (λ y. precedes y get ≡ false) after put keeps later in cc)
        (Contains-cases get after put others))
        (Contains-append_cases before (get ∷ after) put
        (subst (λ (xs : List KeyedCall). Contains xs put) parts (is.complete put (Contains-first put (get ∷ [])) refl)))
      where
        none : left_by 0 None before ≡ None
        none = told_before 0 None before after get (λ value. refl) (subst (λ (xs : List KeyedCall). FitInTurn 0 None xs) parts (is.fit 0))

-- what comes of taking the get
abbrev with_none : Choice
with_none = record {
  taken = λ inv key. (inv == 2) && (0 == key);
  found = λ inv key. None;
  holds = λ key. (get.effect key).leaves None;
}

after_none : IsAfterCall all_keys (at_first nothing) get with_none
after_none = record {
  taken = λ inv key is. refl;
  holds = λ key is. refl;
  found_before = λ inv key is taken. cc;
  found = λ key is taken concerned. refl;
}

-- the choice goes on to an order; in it the get was taken before the insert
goes_on_early : GoesOn with_none (put ∷ get ∷ [])
goes_on_early = (
  All-cons (Agrees with_none) put (get ∷ []) (record { accepted = λ key taken. refl; fits = λ key taken. cc })
      (All-cons (Agrees with_none) get []
      (record { accepted = λ key taken. refl; fits = λ key taken. at_cases (λ e. e.fits None ≡ true) 0 key (read_of None) refl refl })
      (All-nil (Agrees with_none))),
  (
    rest_of with_none put ∷ rest_of with_none get ∷ [],
    record {
      known = λ a a_in. a_in;
      distinct = (keyed_two (rest_of with_none put) (rest_of with_none get) (omega arith) refl refl).distinct;
      precedence = AllPairs-cons (λ x y. precedes y x ≡ false) (rest_of with_none put) (rest_of with_none get ∷ [])
          (All-cons (λ y. precedes y (rest_of with_none put) ≡ false) (rest_of with_none get) [] refl
          (All-nil (λ y. precedes y (rest_of with_none put) ≡ false)))
          (AllPairs-cons (λ x y. precedes y x ≡ false) (rest_of with_none get) [] (All-nil (λ y. precedes y (rest_of with_none get) ≡ false))
          (AllPairs-nil (λ x y. precedes y x ≡ false)));
      complete = λ a a_in completed. a_in;
      fit = λ key. (
        at_cases (λ e. e.fits ((get.effect key).leaves None) ≡ true) 0 key puts_five refl refl,
        (nothing_left key (((rest_of with_none put).effect key).leaves (with_none.holds key)) (bool_cases (0 == key)), tt),
      );
    },
  ),
)
  where
    nothing_left : (key : ℕ) (value : Option ℕ) → ((0 == key) ≡ true) ⊎ ((0 == key) ≡ false) → ((rest_of with_none get).effect key).fits value ≡ true
    nothing_left key value (inl is) = rw is refl
    nothing_left key value (inr is) = rw is refl

pub early_reads_gain : EarlyReadsGain
early_reads_gain rule =
    let stand = rule nothing 4 (put ∷ get ∷ []) all_keys (at_first nothing) with_none [] [] get
    (Contains-later put (get ∷ []) get (Contains-first get [])) refl refl
    (λ key is value fits. at_cases (λ e. e.leaves value ≡ value) 0 key (read_of None) refl refl)
    (λ key is. at_cases (λ e. e.fits None ≡ true) 0 key (read_of None) refl refl) after_none
    (stands_first 4 (put ∷ get ∷ []) formed_put keyed_put) in
    never_put (stand_below nothing 4 (put ∷ get ∷ []) (record { keys = all_keys; pasts = with_none ∷ [] } ∷ []) stand (put ∷ get ∷ []) grown_put (with_none, is_only_past with_none, goes_on_early))

-- ---- inserts at two keys, one before the other, and a scan that finds what the later put, and not what the earlier did

abbrev first : KeyedCall
first = record { inv = 1; res = Some 2; refused = false; concerns = λ key. 0 == key; effect = at 0 puts_five }

abbrev second : KeyedCall
second = record { inv = 3; res = Some 4; refused = false; concerns = λ key. 1 == key; effect = at 1 puts_five }

abbrev scan : KeyedCall
scan = record {
  inv = 0;
  res = Some 5;
  refused = false;
  concerns = λ key. (0 == key) || (1 == key);
  effect = λ key. cond (0 == key) (read_of None) (at 1 (read_of (Some 5)) key);
}

abbrev tied : List KeyedCall
tied = scan ∷ first ∷ second ∷ []

each_tied : (P : KeyedCall → Type 0) → P scan → P first → P second → (a : KeyedCall) → Contains tied a → P a
each_tied P p q r a a_in =
    ⊎_elim (λ e. subst P e p) (λ later. each_of_two P first second q r a later) (Contains-cases scan (first ∷ second ∷ []) a a_in)

scan_in : Contains tied scan
scan_in = Contains-first scan (first ∷ second ∷ [])

first_in : Contains tied first
first_in = Contains-later scan (first ∷ second ∷ []) first (Contains-first first (second ∷ []))

second_in : Contains tied second
second_in = Contains-later scan (first ∷ second ∷ []) second (Contains-later first (second ∷ []) second (Contains-first second []))

-- what holds of each of three calls, and of each two, holds of all
all_three : (P : KeyedCall → Type 0) (a b c : KeyedCall) → P a → P b → P c → All P (a ∷ b ∷ c ∷ [])
all_three P a b c p q r = All-cons P a (b ∷ c ∷ []) p (All-cons P b (c ∷ []) q (All-cons P c [] r (All-nil P)))

each_two : (R : KeyedCall → KeyedCall → Type 0) (a b c : KeyedCall) → R a b → R a c → R b c → AllPairs R (a ∷ b ∷ c ∷ [])
each_two R a b c p q r =
    AllPairs-cons R a (b ∷ c ∷ []) (All-cons (R a) b (c ∷ []) p (All-cons (R a) c [] q (All-nil (R a))))
    (AllPairs-cons R b (c ∷ []) (All-cons (R b) c [] r (All-nil (R b))) (AllPairs-cons R c [] (All-nil (R c)) (AllPairs-nil R)))

formed_tied : All IsFormed tied
formed_tied = all_three IsFormed scan first second (record { elsewhere = λ key is. out key is (bool_cases (0 == key)); refusal = λ refused. cc })
    (formed_at first 0 puts_five (λ key. refl) (λ key. refl) refl) (formed_at second 1 puts_five (λ key. refl) (λ key. refl) refl)
  where
    out : (key : ℕ) → ((0 == key) || (1 == key)) ≡ false → ((0 == key) ≡ true) ⊎ ((0 == key) ≡ false) → IsNoEffect (scan.effect key)
    out key is (inl here) = let never : (true || (1 == key)) ≡ false = rw here at is in cc
    out key is (inr there) =
        let one : (1 == key) ≡ false = rw there at is in
        rw there (rw one none_none)

keyed_tied : AreKeyedCalls tied
keyed_tied = record {
  distinct = each_two (λ x y. x.inv ≢ y.inv) scan first second (λ same. omega (arith, same)) (λ same. omega (arith, same))
      (λ same. omega (arith, same));
  last = all_three (λ c. precedes c c ≡ false) scan first second refl refl refl;
}

grown_tied : HaveGrown 6 tied tied
grown_tied = grown_same 6 tied (all_three (λ a. a.inv < 6) scan first second (omega arith) (omega arith) (omega arith))
    (λ a res a_in is. each_tied (λ x. x.res ≡ Some res → res < 6) (λ e. let r : 5 ≡ res = same_Some 5 res e in omega arith)
    (λ e. let r : 2 ≡ res = same_Some 2 res e in omega arith) (λ e. let r : 4 ≡ res = same_Some 4 res e in omega arith) a a_in is)
    formed_tied keyed_tied

-- the three calls have no order: the second must come before the scan, and the first after it
never_tied : HasKeyedOrder nothing tied → ⊥
never_tied (order, is) =
    let (before, after, parts) = Contains-split order scan (is.complete scan scan_in refl) in
    by_parts before after parts
  where
    none_or_second : (xs : List KeyedCall) → ((x : KeyedCall) → Contains xs x → Contains tied x) → (left_by 1 None xs ≡ None) ⊎ Contains xs second
    none_or_second [] known = inl refl
    none_or_second (x ∷ xs) known =
        ⊎_elim
        (λ same. ⊎_elim
        (λ none. inl (ap (λ (v : Option ℕ). left_by 1 v xs) same ∙ none))
        (λ later. inr (Contains-later x xs second later))
        (none_or_second xs (λ y y_in. known y (Contains-later x xs y y_in))))
        (λ here. inr (subst (λ (y : KeyedCall). Contains (y ∷ xs) second) here (Contains-first second xs)))
        (each_tied (λ y. ((y.effect 1).leaves None ≡ None) ⊎ (second ≡ y)) (inl refl) (inl refl) (inr refl) x (known x (Contains-first x xs)))

    by_parts : (before after : List KeyedCall) → order ≡ before ++ scan ∷ after → ⊥
    by_parts before after parts =
        ⊎_elim
        (λ none. none-some 5 (sym none ∙ five))
        (λ second_before. ⊎_elim
        (λ first_before. none-some 5 (sym zero ∙ five_after (λ x. Contains tied x) 0 before first
        (λ x x_in. each_tied (λ y. (y.effect 0).leaves (Some 5) ≡ Some 5) refl refl refl x x_in) known first_before (λ value. refl) None))
        (λ others.
        let keeps : All (λ y. precedes y second ≡ false) (scan ∷ after) =
        All-contains (λ x. All (λ y. precedes y x ≡ false) (scan ∷ after)) before second
        (AllPairs-across (λ x y. precedes y x ≡ false) before (scan ∷ after) (subst (λ (xs : List KeyedCall). KeepPrecedence xs) parts is.precedence))
        second_before in
        let never : precedes first second ≡ false = All-contains (λ y. precedes y second ≡ false) (scan ∷ after) first keeps others in cc)
        (Contains-append_cases before (scan ∷ after) first
        (subst (λ (xs : List KeyedCall). Contains xs first) parts (is.complete first first_in refl))))
        (none_or_second before known)
      where
        known : (x : KeyedCall) → Contains before x → Contains tied x
        known x x_in = is.known x (subst (λ (xs : List KeyedCall). Contains xs x) (sym parts) (Contains-append_left before (scan ∷ after) x x_in))

        zero : left_by 0 None before ≡ None
        zero = told_before 0 None before after scan (λ value. refl) (subst (λ (xs : List KeyedCall). FitInTurn 0 None xs) parts (is.fit 0))

        five : left_by 1 None before ≡ Some 5
        five = told_before 1 (Some 5) before after scan (λ value. refl) (subst (λ (xs : List KeyedCall). FitInTurn 1 None xs) parts (is.fit 1))

-- each of two parts has an order: key 0, and the other keys
abbrev zero_keys : Keys
zero_keys key = 0 == key

abbrev rest_keys : Keys
rest_keys key = not (0 == key)

order_of_zero : HasKeyedOrder nothing (map (left zero_keys) tied)
order_of_zero = (
  map (left zero_keys) tied,
  record {
    known = λ a a_in. a_in;
    distinct = each_two (λ x y. x.inv ≢ y.inv) (left zero_keys scan) (left zero_keys first)
        (left zero_keys second) (λ same. omega (arith, same)) (λ same. omega (arith, same)) (λ same. omega (arith, same));
    precedence = each_two (λ x y. precedes y x ≡ false) (left zero_keys scan) (left zero_keys first)
        (left zero_keys second) refl refl refl;
    complete = λ a a_in completed. a_in;
    fit = λ key. by_key key (bool_cases (0 == key));
  },
)
  where
    by_key : (key : ℕ) → ((0 == key) ≡ true) ⊎ ((0 == key) ≡ false) → FitInTurn key None (map (left zero_keys) tied)
    by_key key (inl is) =
        subst (λ (k : ℕ). FitInTurn k None (map (left zero_keys) tied)) (eqb-true 0 key is) (refl, (refl, (refl, tt)))
    by_key key (inr is) = fit_none key (map (left zero_keys) tied) (λ b b_in.
        let (a, a_in, a_is) = Contains-from_map (left zero_keys) tied b b_in in
        subst (λ (z : KeyedCall). IsNoEffect (z.effect key)) a_is (none_left_out zero_keys (at_first nothing) a key is)) None

order_of_rest : HasKeyedOrder nothing (map (left rest_keys) tied)
order_of_rest = (
  turned,
  record {
    known = λ a a_in.
        let (b, b_in, b_is) = Contains-from_map (left rest_keys) (first ∷ second ∷ scan ∷ []) a a_in in
        subst (λ (z : KeyedCall). Contains (map (left rest_keys) tied) z) b_is
        (Contains-map (left rest_keys) tied b (back b b_in));
    distinct = each_two (λ x y. x.inv ≢ y.inv) (left rest_keys first) (left rest_keys second)
        (left rest_keys scan) (λ same. omega (arith, same)) (λ same. omega (arith, same)) (λ same. omega (arith, same));
    precedence = each_two (λ x y. precedes y x ≡ false) (left rest_keys first) (left rest_keys second)
        (left rest_keys scan) refl refl refl;
    complete = λ a a_in completed.
        let (b, b_in, b_is) = Contains-from_map (left rest_keys) tied a a_in in
        subst (λ (z : KeyedCall). Contains turned z) b_is
        (Contains-map (left rest_keys) (first ∷ second ∷ scan ∷ []) b (forth b b_in));
    fit = λ key. by_key key (bool_cases (0 == key)) (bool_cases (1 == key));
  },
)
  where
    turned : List KeyedCall
    turned = map (left rest_keys) (first ∷ second ∷ scan ∷ [])

    forth : (a : KeyedCall) → Contains tied a → Contains (first ∷ second ∷ scan ∷ []) a
    forth = each_tied (λ a. Contains (first ∷ second ∷ scan ∷ []) a)
        (Contains-later first (second ∷ scan ∷ []) scan (Contains-later second (scan ∷ []) scan (Contains-first scan [])))
        (Contains-first first (second ∷ scan ∷ [])) (Contains-later first (second ∷ scan ∷ []) second (Contains-first second (scan ∷ [])))

    back : (a : KeyedCall) → Contains (first ∷ second ∷ scan ∷ []) a → Contains tied a
    back a a_in = ⊎_elim (λ e. subst (λ (z : KeyedCall). Contains tied z) e first_in)
        (λ later. each_of_two (λ z. Contains tied z) second scan second_in scan_in a later) (Contains-cases first (second ∷ scan ∷ []) a a_in)

    by_key : (key : ℕ) → ((0 == key) ≡ true) ⊎ ((0 == key) ≡ false) → ((1 == key) ≡ true) ⊎ ((1 == key) ≡ false) → FitInTurn key None turned
    by_key key (inl is) one = (rw is refl, (rw is refl, (rw is refl, tt)))
    by_key key (inr is) (inl one) = subst (λ (k : ℕ). FitInTurn k None turned) (eqb-true 1 key one) (refl, (refl, (refl, tt)))
    by_key key (inr is) (inr not_one) = (rw is refl, (rw (is, not_one) refl, (rw (is, not_one) refl, tt)))

-- these parts represent the calls, as one part of all keys does
two_parts : Represent nothing 6 tied (first_part zero_keys ∷ first_part rest_keys ∷ [])
two_parts =
    (parts_unite nothing 6 tied (first_part zero_keys) (first_part rest_keys)
    (first_part all_keys) [] (λ key is. rw is refl) (record {
      keys = λ key. either (0 == key);
      pairs = λ a b a_in b_in. (at_first nothing, Contains-first (at_first nothing) [], is_first zero_keys a a_in, is_first rest_keys b b_in);
      each = λ c c_in. (
        at_first nothing,
        at_first nothing,
        Contains-first (at_first nothing) [],
        Contains-first (at_first nothing) [],
        at_back zero_keys c (at_first nothing) (is_first zero_keys c c_in),
        at_back rest_keys c (at_first nothing) (is_first rest_keys c c_in),
      );
    })).1 (stands_first 6 tied formed_tied keyed_tied)
  where
    either : (b : Bool) → true ≡ (b || not b)
    either true = refl
    either false = refl

    is_first : (keys : Keys) (a : Choice) → Contains (at_first nothing ∷ []) a → IsAt keys a (at_first nothing)
    is_first keys a a_in = ⊎_elim (λ e. subst (λ (v : Choice). IsAt keys v (at_first nothing)) e (at_self keys (at_first nothing)))
        (λ none. absurd (Contains-nil a none)) (Contains-cases (at_first nothing) [] a a_in)

goes_on_first : (keys : Keys) → HasKeyedOrder nothing (map (left keys) tied)
    → SomePastGoesOn tied (first_part keys)
goes_on_first keys order = (
  at_first nothing,
  Contains-first (at_first nothing) [],
  (All-from_contains (AgreesAt keys (at_first nothing)) tied (λ a a_in. record { accepted = λ key is taken. cc; fits = λ key is taken. cc }), order),
)

pub parts_may_be_tied : PartsMayBeTied
parts_may_be_tied rule =
    never_tied (rule nothing 6 tied
    (first_part zero_keys ∷ first_part rest_keys ∷ []) grown_tied
    (each_two (λ a b. a.inv < b.inv) scan first second (omega arith) (omega arith) (omega arith)) two_parts
    (All-cons (SomePastGoesOn tied) (first_part zero_keys) (first_part rest_keys ∷ [])
    (goes_on_first zero_keys order_of_zero)
    (All-cons (SomePastGoesOn tied) (first_part rest_keys) [] (goes_on_first rest_keys order_of_rest)
    (All-nil (SomePastGoesOn tied)))))

-- ---- the later of these inserts and the scan: the insert must come first, though only the scan may come next at key 0

abbrev seen : List KeyedCall
seen = scan ∷ second ∷ []

formed_seen : All IsFormed seen
formed_seen = All-cons IsFormed scan (second ∷ []) (All-contains IsFormed tied scan formed_tied scan_in)
    (All-cons IsFormed second [] (All-contains IsFormed tied second formed_tied second_in) (All-nil IsFormed))

keyed_seen : AreKeyedCalls seen
keyed_seen = keyed_two scan second (omega arith) refl refl

grown_seen : HaveGrown 6 seen seen
grown_seen = grown_same 6 seen
    (All-cons (λ a. a.inv < 6) scan (second ∷ []) (omega arith) (All-cons (λ a. a.inv < 6) second [] (omega arith) (All-nil (λ a. a.inv < 6))))
    (λ a res a_in is. each_of_two (λ x. x.res ≡ Some res → res < 6) scan second
    (λ e. let r : 5 ≡ res = same_Some 5 res e in omega arith) (λ e. let r : 4 ≡ res = same_Some 4 res e in omega arith) a a_in is)
    formed_seen keyed_seen

order_of_seen : HasKeyedOrder nothing seen
order_of_seen = (
  second ∷ scan ∷ [],
  record {
    known = λ a a_in. each_of_two (λ x. Contains seen x) second scan
        (Contains-later scan (second ∷ []) second (Contains-first second [])) (Contains-first scan (second ∷ [])) a a_in;
    distinct = AllPairs-cons (λ x y. x.inv ≢ y.inv) second (scan ∷ [])
        (All-cons (λ y. second.inv ≢ y.inv) scan [] (λ same. omega (arith, same)) (All-nil (λ y. second.inv ≢ y.inv)))
        (keyed_one scan refl).distinct;
    precedence = AllPairs-cons (λ x y. precedes y x ≡ false) second (scan ∷ [])
        (All-cons (λ y. precedes y second ≡ false) scan [] refl (All-nil (λ y. precedes y second ≡ false)))
        (AllPairs-cons (λ x y. precedes y x ≡ false) scan [] (All-nil (λ y. precedes y scan ≡ false))
        (AllPairs-nil (λ x y. precedes y x ≡ false)));
    complete = λ a a_in completed. each_of_two (λ x. Contains (second ∷ scan ∷ []) x) scan second
        (Contains-later second (scan ∷ []) scan (Contains-first scan [])) (Contains-first second (scan ∷ [])) a a_in;
    fit = λ key. by_key key (bool_cases (0 == key)) (bool_cases (1 == key));
  },
)
  where
    by_key : (key : ℕ) → ((0 == key) ≡ true) ⊎ ((0 == key) ≡ false) → ((1 == key) ≡ true) ⊎ ((1 == key) ≡ false)
        → FitInTurn key None (second ∷ scan ∷ [])
    by_key key (inl is) one = subst (λ (k : ℕ). FitInTurn k None (second ∷ scan ∷ [])) (eqb-true 0 key is) (refl, (refl, tt))
    by_key key (inr is) (inl one) = subst (λ (k : ℕ). FitInTurn k None (second ∷ scan ∷ [])) (eqb-true 1 key one) (refl, (refl, tt))
    by_key key (inr is) (inr not_one) = (rw not_one refl, (rw (is, not_one) refl, tt))

-- what comes of taking the scan, which finds nothing at key 1
abbrev with_scan : Choice
with_scan = record {
  taken = λ inv key. (inv == 0) && scan.concerns key;
  found = λ inv key. None;
  holds = λ key. (scan.effect key).leaves None;
}

after_scan : IsAfterCall all_keys (at_first nothing) scan with_scan
after_scan = record {
  taken = λ inv key is. refl;
  holds = λ key is. refl;
  found_before = λ inv key is taken. cc;
  found = λ key is taken concerned. refl;
}

scan_comes : MayComeNext zero_keys (at_first nothing) seen scan
scan_comes = record {
  is_left = (0, refl, refl);
  accepted = refl;
  fits = λ key is. let here : (0 == key) ≡ true = is in rw here refl;
  first = λ b b_in before. absurd (each_of_two (λ z. precedes z scan ≡ true → ⊥) scan second (λ never. cc) (λ never. cc) b b_in before);
}

second_elsewhere : NoneIsLeftAt zero_keys (at_first nothing) second
second_elsewhere key is = subst (λ (k : ℕ). (1 == k) ≡ false) (eqb-true 0 key is) refl

pub tied_calls_may_wait : TiedCallsMayWait
tied_calls_may_wait rule =
    let stand = rule nothing 6 6 seen all_keys zero_keys (at_first nothing) [] (with_scan ∷ []) [] scan (λ key is. refl)
    (Contains-first scan (second ∷ [])) refl refl (0, refl, refl)
    (λ a a_in begun accepted. each_of_two (λ x. IsLeftAt zero_keys (at_first nothing) x ⊎ NoneIsLeftAt zero_keys (at_first nothing) x) scan second
    (inl (0, refl, refl)) (inr second_elsewhere) a a_in)
    (λ a a_in may. (
      with_scan,
      Contains-first with_scan [],
      each_of_two (λ x. IsLeftAt zero_keys (at_first nothing) x → IsAfterCall all_keys (at_first nothing) x with_scan) scan second
          (λ is. after_scan) (λ is. absurd (not_left is)) a a_in may.is_left,
    ))
    (λ next next_in. (
      scan,
      Contains-first scan (second ∷ []),
      scan_comes,
      ⊎_elim (λ e. subst (λ (v : Choice). IsAfterCall all_keys (at_first nothing) scan v) e after_scan)
          (λ later. absurd (Contains-nil next later)) (Contains-cases with_scan [] next next_in),
    ))
    (stands_first 6 seen formed_seen keyed_seen) in
    let (w, w_is, goes_on) = stand.above seen grown_seen order_of_seen in
    let same : IsAt all_keys with_scan w = only_past with_scan w w_is in
    let fits : (scan.effect 1).fits (w.found 0 1) ≡ true = (All-head (Agrees w) scan (second ∷ []) goes_on.0).fits 1 (same.taken 0 1 refl) in
    let never : is_same_value (Some 5) None ≡ true =
    subst (λ (v : Option ℕ). (scan.effect 1).fits v ≡ true) (same.found 0 1 refl refl) fits in cc
  where
    not_left : IsLeftAt zero_keys (at_first nothing) second → ⊥
    not_left (key, is, there) =
        let out : (1 == key) ≡ false = second_elsewhere key is in let here : (1 == key) ≡ true = there in cc

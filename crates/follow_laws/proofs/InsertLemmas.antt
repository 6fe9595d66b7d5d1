-- The order that is made: what began before the call and has no effect at the keys, the call, what else began before it, and the others.
use Rattle.follow_laws.proofs.Common.{◌≡◌, ℕ, ◌<◌, ◌≤◌, Bool, true, false, not, ◌==◌, List, ◌∷◌, ◌++◌, map, Option, inl, inr, refl, sym, ap, ◌∙◌}
use Rattle.follow_laws.proofs.Common.{subst, ⊎_elim, arith, ◌≢◌, ◌⊎◌, All, Contains, filter, not-true, not-false, not_from_true, not_from_false}
use Rattle.follow_laws.proofs.Common.{false_from_ne_true, eqb-true, eq-eqb, All-contains, Contains-append_left, Contains-append_right}
use Rattle.follow_laws.proofs.Common.{Contains-append_cases, AllPairs-filter, Contains-map, Contains-from_map, All-from_contains, AllPairs-front}
use Rattle.follow_laws.proofs.Common.{AllPairs-back, AllPairs-across, Contains-first, Contains-later, Contains-cases, Contains-filter}
use Rattle.follow_laws.proofs.Common.{Contains-from_filter, KeyedCall, IsNoEffect, ends_before, precedes, is_completed, FitInTurn, left_by}
use Rattle.follow_laws.proofs.Common.{AreDistinct, KeepPrecedence, IsKeyedOrder, Choice, rest_of, Agrees, GoesOn, Keys}
use Rattle.follow_laws.proofs.AfterLemmas.{none_left}
use Rattle.follow_laws.proofs.DeadLemmas.{bool_cases}
use Rattle.follow_laws.proofs.OrderLemmas.{same_call, ends_sooner, IsSplitAt, split_at, ended_early}
use Rattle.follow_laws.proofs.TurnLemmas.{fit-front, fit-back, fit-append}
use Rattle.follow_laws.proofs.BackLemmas.{AtBack, IsApartFrom, IsOpenWithin, none_elsewhere, fits_here, holds_here, none_back, rest_other}
use Rattle.follow_laws.proofs.BackLemmas.{agrees_back, early_cases}
use Rattle.follow_laws.proofs.PartLemmas.{fit_none}
use Rattle.follow_laws.proofs.SiftLemmas.{choose, filter_turn, inserted}

-- a call of the early ones is of one kind, or of the other
abbrev pub IsSifted : Keys → ℕ → (ℕ → Bool) → KeyedCall → Type 0
IsSifted keys inv p x = ((p x.inv ≡ true) × IsApartFrom keys x) ⊎ ((p x.inv ≡ false) × IsOpenWithin keys inv x)

-- All that is known of the order from which it is made.
pub record AtOrder (keys : Keys) (more order early late : List KeyedCall) (v : Choice) (inv : ℕ) (p : ℕ → Bool) : Type 0 where
  pub is : IsKeyedOrder v.holds (map (rest_of v) more) order
  pub split : IsSplitAt inv order early late
  pub sifted : (x : KeyedCall) → Contains early x → IsSifted keys inv p x

module _ (keys : Keys) (place limit : ℕ) (calls more : List KeyedCall) (past next w v : Choice) (a d : KeyedCall)
    (at : AtBack keys place limit calls more past next w v a d) (order early late : List KeyedCall) (p : ℕ → Bool)
    (made : AtOrder keys more order early late v a.inv p) where
  abbrev firsts : List KeyedCall
  firsts = filter (λ x. p x.inv) early

  abbrev seconds : List KeyedCall
  seconds = filter (λ x. not (p x.inv)) early

  abbrev thirds : List KeyedCall
  thirds = filter (λ x. not (x.inv == a.inv)) late

  names : AreDistinct (early ++ late)
  names = subst (λ (xs : List KeyedCall). AreDistinct xs) made.split.parts made.is.distinct

  keeps : KeepPrecedence (early ++ late)
  keeps = subst (λ (xs : List KeyedCall). KeepPrecedence xs) made.split.parts made.is.precedence

  across_names : (x y : KeyedCall) → Contains early x → Contains late y → x.inv ≢ y.inv
  across_names x y x_in y_in = All-contains (λ b. x.inv ≢ b.inv) late y
      (All-contains (λ c. All (λ b. c.inv ≢ b.inv) late) early x (AllPairs-across (λ c b. c.inv ≢ b.inv) early late names) x_in) y_in

  across_keeps : (x y : KeyedCall) → Contains early x → Contains late y → precedes y x ≡ false
  across_keeps x y x_in y_in = All-contains (λ b. precedes b x ≡ false) late y
      (All-contains (λ c. All (λ b. precedes b c ≡ false) late) early x (AllPairs-across (λ c b. precedes b c ≡ false) early late keeps) x_in) y_in

  in_early : (x : KeyedCall) → Contains early x → Contains order x
  in_early x x_in = subst (λ (xs : List KeyedCall). Contains xs x) (sym made.split.parts) (Contains-append_left early late x x_in)

  in_late : (x : KeyedCall) → Contains late x → Contains order x
  in_late x x_in = subst (λ (xs : List KeyedCall). Contains xs x) (sym made.split.parts) (Contains-append_right early late x x_in)

  begun : (x : KeyedCall) → Contains early x → x.inv < a.inv
  begun x x_in = All-contains (λ y. y.inv < a.inv) early x made.split.begun x_in

  from_order : (x : KeyedCall) → Contains order x → (e : KeyedCall) × Contains more e × (rest_of v e ≡ x)
  from_order x x_in = Contains-from_map (rest_of v) more x (made.is.known x x_in)

  other_known : (x : KeyedCall) → Contains order x → x.inv ≢ a.inv → Contains (map (rest_of w) more) x
  other_known x x_in other =
      let (e, e_in, e_is) = from_order x x_in in
      let e_other : e.inv ≢ a.inv = λ same. other (ap (λ (z : KeyedCall). z.inv) (sym e_is) ∙ same) in
      subst (λ (z : KeyedCall). Contains (map (rest_of w) more) z)
      (rest_other keys place limit calls more past next w v a d at e e_other ∙ e_is) (Contains-map (rest_of w) more e e_in)

  named_none : (x : KeyedCall) → Contains order x → x.inv ≡ a.inv → (key : ℕ) → IsNoEffect (x.effect key)
  named_none x x_in same key =
      let (e, e_in, e_is) = from_order x x_in in
      let one : e ≡ d = same_call more e d at.grown.apart.distinct e_in at.in_more
      (ap (λ (z : KeyedCall). z.inv) e_is ∙ same ∙ sym at.later.inv) in
      subst (λ (z : KeyedCall). IsNoEffect (z.effect key)) (ap (λ (z : KeyedCall). rest_of v z) (sym one) ∙ e_is)
      (none_back keys place limit calls more past next w v a d at key)

  alone : (x : KeyedCall) → Contains order x → precedes x x ≡ false
  alone x x_in =
      let (e, e_in, e_is) = from_order x x_in in
      subst (λ (z : KeyedCall). precedes z z ≡ false) e_is (All-contains (λ c. precedes c c ≡ false) more e at.grown.apart.last e_in)

  -- the calls of the three lists
  of_first : (x : KeyedCall) → Contains firsts x → Contains early x × (p x.inv ≡ true)
  of_first x x_in = Contains-from_filter (λ y. p y.inv) early x x_in

  of_second : (x : KeyedCall) → Contains seconds x → Contains early x × (p x.inv ≡ false)
  of_second x x_in =
      let (there, out) = Contains-from_filter (λ y. not (p y.inv)) early x x_in in (there, not-true (p x.inv) out)

  of_third : (x : KeyedCall) → Contains thirds x → Contains late x × (x.inv ≢ a.inv)
  of_third x x_in =
      let (there, out) = Contains-from_filter (λ y. not (y.inv == a.inv)) late x x_in in
      (there, λ same. let never : not (x.inv == a.inv) ≡ false = not_from_true (x.inv == a.inv) (eq-eqb x.inv a.inv same) in cc)

  apart_here : (x : KeyedCall) → Contains early x → p x.inv ≡ true → IsApartFrom keys x
  apart_here x x_in is = ⊎_elim (λ first. first.1) (λ second. let never : p x.inv ≡ false = second.0 in cc) (made.sifted x x_in)

  open_here : (x : KeyedCall) → Contains early x → p x.inv ≡ false → IsOpenWithin keys a.inv x
  open_here x x_in is = ⊎_elim (λ first. let never : p x.inv ≡ true = first.0 in cc) (λ second. second.1) (made.sifted x x_in)

  -- names
  names_made : AreDistinct (firsts ++ rest_of w d ∷ (seconds ++ thirds))
  names_made =
      inserted (λ x y. x.inv ≢ y.inv) firsts (rest_of w d) seconds thirds
      (AllPairs-filter (λ x y. x.inv ≢ y.inv) (λ x. p x.inv) early (AllPairs-front (λ x y. x.inv ≢ y.inv) early late names))
      (AllPairs-filter (λ x y. x.inv ≢ y.inv) (λ x. not (p x.inv)) early (AllPairs-front (λ x y. x.inv ≢ y.inv) early late names))
      (AllPairs-filter (λ x y. x.inv ≢ y.inv) (λ x. not (x.inv == a.inv)) late (AllPairs-back (λ x y. x.inv ≢ y.inv) early late names))
      (λ x z x_in z_in same.
      let yes_first : p x.inv ≡ true = (of_first x x_in).1 in
      let no_second : p x.inv ≡ false = subst (λ (n : ℕ). p n ≡ false) (sym same) (of_second z z_in).1 in cc)
      (λ x z x_in z_in. across_names x z (of_first x x_in).0 (of_third z z_in).0)
      (λ x z x_in z_in. across_names x z (of_second x x_in).0 (of_third z z_in).0)
      (λ x x_in same. not_early x (of_first x x_in).0 same)
      (λ z z_in same. not_early z (of_second z z_in).0 (sym same))
      (λ z z_in same. (of_third z z_in).1 (sym same ∙ at.later.inv))
    where
      not_early : (x : KeyedCall) → Contains early x → x.inv ≡ d.inv → ⊥
      not_early x x_in same =
          let first : x.inv < a.inv = begun x x_in in let is : x.inv ≡ a.inv = same ∙ at.later.inv in omega (arith, first, is)

  -- a call that has not ended by a place precedes no call that began by it
  sooner_never : (x y : KeyedCall) (inv : ℕ) → x.inv ≤ inv → ends_before y.res inv ≡ false → precedes y x ≡ false
  sooner_never x y inv less open_there =
      false_from_ne_true (precedes y x) (λ before. let never : ends_before y.res inv ≡ true = ends_sooner y.res x.inv inv less before in cc)

  d_alone : ends_before d.res d.inv ≡ false
  d_alone = All-contains (λ c. precedes c c ≡ false) more d at.grown.apart.last at.in_more

  keeps_made : KeepPrecedence (firsts ++ rest_of w d ∷ (seconds ++ thirds))
  keeps_made =
      inserted (λ x y. precedes y x ≡ false) firsts (rest_of w d) seconds thirds
      (AllPairs-filter (λ x y. precedes y x ≡ false) (λ x. p x.inv) early (AllPairs-front (λ x y. precedes y x ≡ false) early late keeps))
      (AllPairs-filter (λ x y. precedes y x ≡ false) (λ x. not (p x.inv)) early (AllPairs-front (λ x y. precedes y x ≡ false) early late keeps))
      (AllPairs-filter (λ x y. precedes y x ≡ false) (λ x. not (x.inv == a.inv)) late (AllPairs-back (λ x y. precedes y x ≡ false) early late keeps))
      (λ x z x_in z_in.
      let first : x.inv < a.inv = begun x (of_first x x_in).0 in
      sooner_never x z a.inv (omega (arith, first)) (open_here z (of_second z z_in).0 (of_second z z_in).1).1)
      (λ x z x_in z_in. across_keeps x z (of_first x x_in).0 (of_third z z_in).0)
      (λ x z x_in z_in. across_keeps x z (of_second x x_in).0 (of_third z z_in).0)
      (λ x x_in.
      let first : x.inv < a.inv = begun x (of_first x x_in).0 in
      let same : d.inv ≡ a.inv = at.later.inv in
      sooner_never x (rest_of w d) d.inv (omega (arith, first, same)) d_alone)
      (λ z z_in. subst (λ (n : ℕ). ends_before z.res n ≡ false) (sym at.later.inv) (open_here z (of_second z z_in).0 (of_second z z_in).1).1)
      (λ z z_in. false_from_ne_true (ends_before z.res d.inv) (λ before. late_never z (of_third z z_in).0
      (subst (λ (n : ℕ). ends_before z.res n ≡ true) at.later.inv before)))
    where
      late_never : (z : KeyedCall) → Contains late z → ends_before z.res a.inv ≡ true → ⊥
      late_never z z_in before =
          across_names z z (ended_early a.inv order early late z made.split made.is.precedence (alone z (in_late z z_in)) before (in_late z z_in))
          z_in refl

  -- each call fits at each key
  whole : (key : ℕ) → FitInTurn key (v.holds key) (early ++ late)
  whole key = subst (λ (xs : List KeyedCall). FitInTurn key (v.holds key) xs) made.split.parts (made.is.fit key)

  thirds_fit : (key : ℕ) → FitInTurn key (left_by key (v.holds key) early) thirds
  thirds_fit key =
      (filter_turn key (λ x. not (x.inv == a.inv)) late (left_by key (v.holds key) early)
      (λ x x_in out. named_none x (in_late x x_in) (eqb-true x.inv a.inv (not-false (x.inv == a.inv) out)) key)
      (fit-back key (v.holds key) early late (whole key))).0

  fit_here : (key : ℕ) → keys key ≡ true → FitInTurn key (w.holds key) (firsts ++ rest_of w d ∷ (seconds ++ thirds))
  fit_here key is =
      let (second_fit, second_left) = filter_turn key (λ x. not (p x.inv)) early (v.holds key)
      (λ x x_in out. apart_here x x_in (not-false (p x.inv) out) key is) (fit-front key (v.holds key) early late (whole key)) in
      let after : FitInTurn key (v.holds key) (seconds ++ thirds) = fit-append key (v.holds key) seconds thirds second_fit
      (subst (λ (o : Option ℕ). FitInTurn key o thirds) (sym second_left) (thirds_fit key)) in
      let from_call : FitInTurn key (w.holds key) (rest_of w d ∷ (seconds ++ thirds)) = (
        fits_here keys place limit calls more past next w v a d at key is,
        subst (λ (o : Option ℕ). FitInTurn key o (seconds ++ thirds)) (holds_here keys place limit calls more past next w v a d at key is) after,
      ) in
      fit-append key (w.holds key) firsts (rest_of w d ∷ (seconds ++ thirds)) (fit_none key firsts first_none (w.holds key))
      (subst (λ (o : Option ℕ). FitInTurn key o (rest_of w d ∷ (seconds ++ thirds))) (sym (none_left key firsts (w.holds key) first_none)) from_call)
    where
      first_none : (x : KeyedCall) → Contains firsts x → IsNoEffect (x.effect key)
      first_none x x_in = apart_here x (of_first x x_in).0 (of_first x x_in).1 key is

  fit_elsewhere : (key : ℕ) → keys key ≡ false → FitInTurn key (w.holds key) (firsts ++ rest_of w d ∷ (seconds ++ thirds))
  fit_elsewhere key out =
      let same : w.holds key ≡ v.holds key = at.there.holds key (not_from_false (keys key) out) in
      let (first_fit, first_left) = filter_turn key (λ x. p x.inv) early (v.holds key) (λ x x_in no. (open_here x x_in no).0 key out)
      (fit-front key (v.holds key) early late (whole key)) in
      let none : IsNoEffect ((rest_of w d).effect key) = none_elsewhere keys place limit calls more past next w v a d at key out in
      let after : FitInTurn key (left_by key (v.holds key) early) (seconds ++ thirds) =
      fit-append key (left_by key (v.holds key) early) seconds thirds (fit_none key seconds second_none (left_by key (v.holds key) early))
      (subst (λ (o : Option ℕ). FitInTurn key o thirds) (sym (none_left key seconds (left_by key (v.holds key) early) second_none))
      (thirds_fit key)) in
      let from_call : FitInTurn key (left_by key (v.holds key) early) (rest_of w d ∷ (seconds ++ thirds)) = (
        none.fits (left_by key (v.holds key) early),
        subst (λ (o : Option ℕ). FitInTurn key o (seconds ++ thirds)) (sym (none.leaves (left_by key (v.holds key) early))) after,
      ) in
      subst (λ (o : Option ℕ). FitInTurn key o (firsts ++ rest_of w d ∷ (seconds ++ thirds))) (sym same)
      (fit-append key (v.holds key) firsts (rest_of w d ∷ (seconds ++ thirds)) first_fit
      (subst (λ (o : Option ℕ). FitInTurn key o (rest_of w d ∷ (seconds ++ thirds))) (sym first_left) from_call))
    where
      second_none : (x : KeyedCall) → Contains seconds x → IsNoEffect (x.effect key)
      second_none x x_in = (open_here x (of_second x x_in).0 (of_second x x_in).1).0 key out

  -- the order has all calls that are completed
  has_early : (x : KeyedCall) → Contains early x → (p x.inv ≡ true) ⊎ (p x.inv ≡ false) → Contains (firsts ++ rest_of w d ∷ (seconds ++ thirds)) x
  has_early x x_in (inl is) =
      Contains-append_left firsts (rest_of w d ∷ (seconds ++ thirds)) x (Contains-filter (λ y. p y.inv) early x x_in is)
  has_early x x_in (inr out) =
      Contains-append_right firsts (rest_of w d ∷ (seconds ++ thirds)) x (Contains-later (rest_of w d) (seconds ++ thirds) x
      (Contains-append_left seconds thirds x (Contains-filter (λ y. not (p y.inv)) early x x_in (not_from_false (p x.inv) out))))

  has_late : (x : KeyedCall) → Contains late x → (x.inv == a.inv) ≡ false → Contains (firsts ++ rest_of w d ∷ (seconds ++ thirds)) x
  has_late x x_in out =
      Contains-append_right firsts (rest_of w d ∷ (seconds ++ thirds)) x (Contains-later (rest_of w d) (seconds ++ thirds) x
      (Contains-append_right seconds thirds x (Contains-filter (λ y. not (y.inv == a.inv)) late x x_in (not_from_false (x.inv == a.inv) out))))

  has : (e : KeyedCall) → Contains more e → is_completed (rest_of w e) ≡ true → (e.inv == a.inv ≡ true) ⊎ (e.inv == a.inv ≡ false)
      → Contains (firsts ++ rest_of w d ∷ (seconds ++ thirds)) (rest_of w e)
  has e e_in completed (inl is) =
      let one : d ≡ e = same_call more d e at.grown.apart.distinct at.in_more e_in (at.later.inv ∙ sym (eqb-true e.inv a.inv is)) in
      subst (λ (z : KeyedCall). Contains (firsts ++ rest_of w d ∷ (seconds ++ thirds)) (rest_of w z)) one
      (Contains-append_right firsts (rest_of w d ∷ (seconds ++ thirds)) (rest_of w d) (Contains-first (rest_of w d) (seconds ++ thirds)))
  has e e_in completed (inr out) =
      let other : e.inv ≢ a.inv = λ same. let is : (e.inv == a.inv) ≡ true = eq-eqb e.inv a.inv same in cc in
      let there : Contains order (rest_of v e) = made.is.complete (rest_of v e) (Contains-map (rest_of v) more e e_in) completed in
      subst (λ (z : KeyedCall). Contains (firsts ++ rest_of w d ∷ (seconds ++ thirds)) z)
      (sym (rest_other keys place limit calls more past next w v a d at e other))
      (⊎_elim (λ first. has_early (rest_of v e) first (bool_cases (p e.inv))) (λ second. has_late (rest_of v e) second out)
      (Contains-append_cases early late (rest_of v e) (subst (λ (xs : List KeyedCall). Contains xs (rest_of v e)) made.split.parts there)))

  pub order_back : IsKeyedOrder w.holds (map (rest_of w) more) (firsts ++ rest_of w d ∷ (seconds ++ thirds))
  order_back = record {
    known = λ z z_in. ⊎_elim (λ first. of_early z (of_first z first).0)
        (λ later. ⊎_elim
        (λ same. subst (λ (y : KeyedCall). Contains (map (rest_of w) more) y) same (Contains-map (rest_of w) more d at.in_more))
        (λ further. ⊎_elim (λ second. of_early z (of_second z second).0)
        (λ third. other_known z (in_late z (of_third z third).0) (of_third z third).1) (Contains-append_cases seconds thirds z further))
        (Contains-cases (rest_of w d) (seconds ++ thirds) z later))
        (Contains-append_cases firsts (rest_of w d ∷ (seconds ++ thirds)) z z_in);
    distinct = names_made;
    precedence = keeps_made;
    complete = λ z z_in completed.
        let (e, e_in, e_is) = Contains-from_map (rest_of w) more z z_in in
        subst (λ (y : KeyedCall). Contains (firsts ++ rest_of w d ∷ (seconds ++ thirds)) y) e_is
        (has e e_in (subst (λ (y : KeyedCall). is_completed y ≡ true) (sym e_is) completed) (bool_cases (e.inv == a.inv)));
    fit = λ key. ⊎_elim (λ is. fit_here key is) (λ out. fit_elsewhere key out) (bool_cases (keys key));
  }
    where
      of_early : (z : KeyedCall) → Contains early z → Contains (map (rest_of w) more) z
      of_early z z_in = other_known z (in_early z z_in) (λ same. let first : z.inv < a.inv = begun z z_in in omega (arith, first, same))

-- if a choice that has taken the call goes on, so does the one that has not
pub goes_back : (keys : Keys) (place limit : ℕ) (calls more : List KeyedCall) (past next w v : Choice) (a d : KeyedCall)
    → AtBack keys place limit calls more past next w v a d → GoesOn v more → GoesOn w more
goes_back keys place limit calls more past next w v a d at goes_on =
    let (early, late, split) = split_at a.inv goes_on.1.0 in
    let whole : IsKeyedOrder v.holds (map (rest_of v) more) (early ++ late) =
    subst (λ (xs : List KeyedCall). IsKeyedOrder v.holds (map (rest_of v) more) xs) split.parts goes_on.1.1 in
    let (p, sifted) = choose (IsApartFrom keys) (IsOpenWithin keys a.inv) early (AllPairs-front (λ x y. x.inv ≢ y.inv) early late whole.distinct)
    (λ x x_in. each x (whole.known x (Contains-append_left early late x x_in)) (All-contains (λ y. y.inv < a.inv) early x split.begun x_in)) in (
      All-from_contains (Agrees w) more (λ e e_in. agrees_back keys place limit calls more past next w v a d at e e_in),
      (
        filter (λ x. p x.inv) early ++ rest_of w d ∷ (filter (λ x. not (p x.inv)) early ++ filter (λ x. not (x.inv == a.inv)) late),
        order_back keys place limit calls more past next w v a d at goes_on.1.0 early late p
            record { is = goes_on.1.1; split = split; sifted = sifted },
      ),
    )
  where
    each : (x : KeyedCall) → Contains (map (rest_of v) more) x → x.inv < a.inv → IsApartFrom keys x ⊎ IsOpenWithin keys a.inv x
    each x x_in begun =
        let (e, e_in, e_is) = Contains-from_map (rest_of v) more x x_in in
        let e_begun : e.inv < a.inv = subst (λ (z : KeyedCall). z.inv < a.inv) (sym e_is) begun in
        let other : e.inv ≢ a.inv = λ same. omega (arith, e_begun, same) in
        subst (λ (z : KeyedCall). IsApartFrom keys z ⊎ IsOpenWithin keys a.inv z)
        (rest_other keys place limit calls more past next w v a d at e other ∙ e_is)
        (early_cases keys place limit calls more past next w v a d at e e_in e_begun)

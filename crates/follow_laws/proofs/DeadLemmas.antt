-- What goes on with further events goes on now.
use Rattle.follow_laws.proofs.Common.{◌≡◌, ℕ, ◌<◌, Bool, true, false, List, ◌++◌, map, Option, Some, None, inl, inr, refl, sym, ap, ◌∙◌, subst}
use Rattle.follow_laws.proofs.Common.{⊎_elim, arith, ◌≢◌, ◌⊎◌, Contains, is_some, All-contains, Contains-append_left, Contains-map, Contains-from_map}
use Rattle.follow_laws.proofs.Common.{All-from_contains, AllPairs-front, KeyedCall, IsFormed, precedes, is_completed, IsKeyedOrder, HasKeyedOrder}
use Rattle.follow_laws.proofs.Common.{IsLater, HaveGrown, Choice, rest_of, Agrees, DeadChoicesStayDead, DeadChoicesGo}
use Rattle.follow_laws.proofs.OrderLemmas.{same_call, ends_at, IsSplitAt, split_at, ended_early}
use Rattle.follow_laws.proofs.EffectRestLemmas.{refused_none, later_stands, stands_itself}
use Rattle.follow_laws.proofs.TurnLemmas.{StandsFor, HasNone, GoesOver, AreOver, fit-front, go_over}

-- a call agrees now that agrees later
agrees_now : (place : ℕ) (w : Choice) (a b : KeyedCall) → IsLater place a b → Agrees w b → Agrees w a
agrees_now place w a b later agrees =
    ⊎_elim (λ same. subst (λ (c : KeyedCall). Agrees w c) same agrees)
    (λ answered. record {
      accepted = λ key taken. answered.accepted;
      fits = λ key taken. answered.fits key (w.found a.inv key);
    })
    later.response

-- what is left of a call now may replace what is left of it later
abbrev IsNow : ℕ → Choice → List KeyedCall → KeyedCall → KeyedCall → Type 0
IsNow place w calls x y = (a : KeyedCall) × Contains calls a × (y ≡ rest_of w a) × (y.inv ≡ x.inv)

-- the call was pending, and is refused
abbrev IsDropped : List KeyedCall → KeyedCall → Type 0
IsDropped calls x = (a : KeyedCall) × Contains calls a × (is_completed a ≡ false) × (a.inv ≡ x.inv)

pub bool_cases : (b : Bool) → (b ≡ true) ⊎ (b ≡ false)
bool_cases true = inl refl
bool_cases false = inr refl

old_goes_over : (place : ℕ) (w : Choice) (calls more : List KeyedCall) → HaveGrown place calls more → (x : KeyedCall)
    → Contains (map (rest_of w) more) x → x.inv < place → GoesOver (IsNow place w calls) (IsDropped calls) x
old_goes_over place w calls more grown x x_in early =
    let (b, b_in, is) = Contains-from_map (rest_of w) more x x_in in
    let same_inv : b.inv ≡ x.inv = ap (λ (y : KeyedCall). y.inv) is in
    ⊎_elim
    (λ old. by_refusal b is same_inv b_in old.0 old.1 old.2 (bool_cases b.refused))
    (λ new. absurd (omega arith))
    (grown.come b b_in)
  where
    stands : (b : KeyedCall) → rest_of w b ≡ x → b.inv ≡ x.inv → (a : KeyedCall) → Contains calls a → IsLater place a b → b.refused ≡ false
        → GoesOver (IsNow place w calls) (IsDropped calls) x
    stands b is same_inv a a_in later accepted =
        inl (
          rest_of w a,
          subst (λ (y : KeyedCall). StandsFor y (rest_of w a)) is (later_stands place w a b later accepted),
          (a, a_in, refl, sym later.inv ∙ same_inv),
        )

    by_refusal : (b : KeyedCall) → rest_of w b ≡ x → b.inv ≡ x.inv → Contains more b → (a : KeyedCall) → Contains calls a → IsLater place a b
        → (b.refused ≡ true) ⊎ (b.refused ≡ false) → GoesOver (IsNow place w calls) (IsDropped calls) x
    by_refusal b is same_inv b_in a a_in later (inr accepted) = stands b is same_inv a a_in later accepted
    by_refusal b is same_inv b_in a a_in later (inl refused) =
        ⊎_elim
        (λ same. inl (
          rest_of w a,
          subst (λ (y : KeyedCall). StandsFor y (rest_of w a)) is
              (subst (λ (c : KeyedCall). StandsFor (rest_of w c) (rest_of w a)) (sym same) (stands_itself (rest_of w a))),
          (a, a_in, refl, sym later.inv ∙ same_inv),
        ))
        (λ answered. inr (
          subst (λ (y : KeyedCall). HasNone y) is (refused_none w b (All-contains IsFormed more b grown.formed b_in) refused),
          (a, a_in, answered.pending, sym later.inv ∙ same_inv),
        ))
        later.response

pub response_of : (a : KeyedCall) → is_completed a ≡ true → (at : ℕ) × (a.res ≡ Some at)
response_of a completed = by_res a.res completed
  where
    by_res : (res : Option ℕ) → is_some res ≡ true → (at : ℕ) × (res ≡ Some at)
    by_res None never = cc
    by_res (Some at) is = (at, refl)

-- the calls of an order that began before the place, as they are now, are an order now
order_now : (place : ℕ) (w : Choice) (calls more order : List KeyedCall) → HaveGrown place calls more
    → IsKeyedOrder w.holds (map (rest_of w) more) order → HasKeyedOrder w.holds (map (rest_of w) calls)
order_now place w calls more order grown is =
    let (early, late, split) = split_at place order in
    let whole : IsKeyedOrder w.holds (map (rest_of w) more) (early ++ late) =
    subst (λ (xs : List KeyedCall). IsKeyedOrder w.holds (map (rest_of w) more) xs) split.parts is in
    let (new, over) = go_over (IsNow place w calls) (IsDropped calls) early w.holds
    (λ x x_in. old_goes_over place w calls more grown x (whole.known x (Contains-append_left early late x x_in))
    (All-contains (λ a. a.inv < place) early x split.begun x_in))
    (AllPairs-front (λ x y. x.inv ≢ y.inv) early late whole.distinct)
    (AllPairs-front (λ x y. precedes y x ≡ false) early late whole.precedence)
    (λ key. fit-front key (w.holds key) early late (whole.fit key)) in (
      new,
      record {
        known = λ y y_in.
            let (x, x_in, x_stands, now) = over.from y y_in in
            subst (λ (z : KeyedCall). Contains (map (rest_of w) calls) z) (sym now.2) (Contains-map (rest_of w) calls now.0 now.1);
        distinct = over.distinct;
        precedence = over.precedence;
        complete = λ y y_in completed.
            let (a, a_in, y_is) = Contains-from_map (rest_of w) calls y y_in in
            subst (λ (z : KeyedCall). Contains new z) y_is
            (taken early late split new over a a_in (subst (λ (z : KeyedCall). is_completed z ≡ true) (sym y_is) completed));
        fit = over.fit;
      },
    )
  where
    taken : (early late : List KeyedCall) → IsSplitAt place order early late → (new : List KeyedCall)
        → AreOver (IsNow place w calls) (IsDropped calls) w.holds early new → (a : KeyedCall) → Contains calls a → is_completed a ≡ true
        → Contains new (rest_of w a)
    taken early late split new over a a_in completed =
        let (b, b_in, later) = grown.stay a a_in in
        let same : b ≡ a = ⊎_elim (λ is_same. is_same) (λ answered. let never : is_completed a ≡ false = answered.pending in cc) later.response in
        let in_more : Contains more a = subst (λ (c : KeyedCall). Contains more c) same b_in in
        let in_order : Contains order (rest_of w a) = is.complete (rest_of w a) (Contains-map (rest_of w) more a in_more) completed in
        let (at, at_is) = response_of a completed in
        let in_early : Contains early (rest_of w a) = ended_early place order early late (rest_of w a) split is.precedence
        (All-contains (λ c. precedes c c ≡ false) more a grown.apart.last in_more)
        (ends_at a.res at place at_is (grown.ended a at a_in at_is)) in_order in
        ⊎_elim
        (λ found.
        let now = found.3 in
        let named : now.0.inv ≡ a.inv = ap (λ (z : KeyedCall). z.inv) (sym now.2) ∙ now.3 in
        let one : now.0 ≡ a = same_call calls now.0 a grown.alone now.1 a_in named in
        subst (λ (z : KeyedCall). Contains new z) (now.2 ∙ ap (λ (z : KeyedCall). rest_of w z) one) found.1)
        (λ dropped.
        let one : dropped.0 ≡ a = same_call calls dropped.0 a grown.alone dropped.1 a_in dropped.3 in
        let never : is_completed a ≡ false = subst (λ (z : KeyedCall). is_completed z ≡ false) one dropped.2 in cc)
        (over.to (rest_of w a) in_early)

pub dead_stay_dead : DeadChoicesStayDead
dead_stay_dead place calls more w grown goes_on = (
  All-from_contains (Agrees w) calls (λ a a_in.
      let (b, b_in, later) = grown.stay a a_in in agrees_now place w a b later (All-contains (Agrees w) more b goes_on.0 b_in)),
  order_now place w calls more goes_on.1.0 grown goes_on.1.1,
)

pub dead_go : DeadChoicesGo
dead_go held place calls choices left kept above more grown order =
    let (w, w_in, goes_on) = above more grown order in
    ⊎_elim (λ stays. (w, stays, goes_on)) (λ dead. absurd (dead (dead_stay_dead place calls more w grown goes_on))) (kept w w_in)

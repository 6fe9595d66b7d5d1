-- Calls without effect.
use Rattle.follow_laws.proofs.Common.{◌≡◌, ℕ, ◌<◌, Bool, true, false, not, ◌&&◌, List, Option, Some, None, inl, inr, refl, subst, ⊎_elim, arith, ◌≢◌}
use Rattle.follow_laws.proofs.Common.{◌⊎◌, Contains, filter, ltb-true, lt-ltb, and_parts, and_from, All-contains, AllPairs-filter, AllPairs-weaker}
use Rattle.follow_laws.proofs.Common.{Contains-filter, Contains-from_filter, KeyedCall, IsNoEffect, ends_before, precedes, is_completed, IsKeyedOrder}
use Rattle.follow_laws.proofs.Common.{AreKeyedCalls, has_call, EffectsDecide}
use Rattle.follow_laws.proofs.AfterLemmas.{named_in, from_named}
use Rattle.follow_laws.proofs.DeadLemmas.{bool_cases}
use Rattle.follow_laws.proofs.MergeLemmas.{AreMerged, merge}
use Rattle.follow_laws.proofs.OrderLemmas.{same_call}
use Rattle.follow_laws.proofs.EffectRestLemmas.{stands_itself}
use Rattle.follow_laws.proofs.TurnLemmas.{HasNone, AreOver, go_over}

-- a call that is kept as it is
abbrev IsKept : List KeyedCall → KeyedCall → KeyedCall → Type 0
IsKept more x y = (y ≡ x) × Contains more y

-- calls by rising invocation keep precedence, if none precedes itself
rising_keep : (a b : KeyedCall) → a.inv < b.inv → precedes b b ≡ false → precedes b a ≡ false
rising_keep a b less alone = by_test (bool_cases (precedes b a))
  where
    by_res : (res : Option ℕ) → ends_before res a.inv ≡ true → ends_before res b.inv ≡ true
    by_res None never = cc
    by_res (Some r) before = let here = ltb-true r a.inv before in lt-ltb r b.inv (omega (arith, here))

    by_test : (precedes b a ≡ true) ⊎ (precedes b a ≡ false) → precedes b a ≡ false
    by_test (inr not_so) = not_so
    by_test (inl before) = let itself : precedes b b ≡ true = by_res b.res before in cc

-- what is added: completed calls that are not kept
abbrev is_added : List KeyedCall → KeyedCall → Bool
is_added kept a = is_completed a && not (has_call kept a.inv)

not_named : (b : Bool) → not b ≡ true → b ≡ false
not_named true h = cc
not_named false h = refl

module _ (held : ℕ → Option ℕ) (calls more order kept : List KeyedCall) (apart : AreKeyedCalls more)
    (inside : (a : KeyedCall) → Contains more a → ((key : ℕ) → IsNoEffect (a.effect key)) ⊎ Contains calls a)
    (is : IsKeyedOrder held calls order) (over : AreOver (IsKept more) HasNone held order kept) where
  kept_known : (a : KeyedCall) → Contains kept a → Contains more a
  kept_known a a_in = (over.from a a_in).3.1

  added_more : (a : KeyedCall) → Contains (filter (is_added kept) more) a → Contains more a
  added_more a a_in = (Contains-from_filter (is_added kept) more a a_in).0

  added_unnamed : (a : KeyedCall) → Contains (filter (is_added kept) more) a → has_call kept a.inv ≡ false
  added_unnamed a a_in =
      let parts = and_parts (is_completed a) (not (has_call kept a.inv)) (Contains-from_filter (is_added kept) more a a_in).1 in
      not_named (has_call kept a.inv) parts.1

  added_none : (a : KeyedCall) → Contains (filter (is_added kept) more) a → HasNone a
  added_none a a_in =
      let parts = and_parts (is_completed a) (not (has_call kept a.inv)) (Contains-from_filter (is_added kept) more a a_in).1 in
      ⊎_elim (λ none. none)
      (λ old. ⊎_elim
      (λ found.
      let same : found.0 ≡ a = found.3.0 in
      let named : has_call kept a.inv ≡ true = named_in kept a (subst (λ (z : KeyedCall). Contains kept z) same found.1) in
      let unnamed : has_call kept a.inv ≡ false = added_unnamed a a_in in cc)
      (λ none. none)
      (over.to a (is.complete a old parts.0)))
      (inside a (added_more a a_in))

  with_added : (merged : List KeyedCall) → AreMerged kept (filter (is_added kept) more) merged → IsKeyedOrder held more merged
  with_added merged both = record {
    known = λ a a_in. ⊎_elim (λ k. kept_known a k) (λ n. added_more a n) (both.from a a_in);
    distinct = both.distinct;
    precedence = both.precedence;
    complete = λ a a_in completed. ⊎_elim
        (λ named.
        let (x, x_in, x_is) = from_named kept a.inv named in
        let same : x ≡ a = same_call more x a apart.distinct (kept_known x x_in) a_in x_is in
        both.left a (subst (λ (z : KeyedCall). Contains kept z) same x_in))
        (λ unnamed. both.right a (Contains-filter (is_added kept) more a a_in
        (and_from (is_completed a) (not (has_call kept a.inv)) completed (rw unnamed refl))))
        (bool_cases (has_call kept a.inv));
    fit = λ key. (both.as_left key (held key) (λ y y_in. added_none y y_in key) (over.fit key)).0;
  }

pub effects_decide : EffectsDecide
effects_decide held calls more apart rising outside inside (order, is) =
    let (kept, over) = go_over (IsKept more) HasNone order held
    (λ x x_in. ⊎_elim (λ none. inr (none, none)) (λ there. inl (x, stands_itself x, (refl, there))) (outside x (is.known x x_in)))
    is.distinct is.precedence is.fit in
    let (merged, both) = merge kept (filter (is_added kept) more) (record {
      distinct_left = over.distinct;
      distinct_right = AllPairs-filter (λ x y. x.inv ≢ y.inv) (is_added kept) more apart.distinct;
      apart = λ x y x_in y_in same.
          let named : has_call kept y.inv ≡ true = subst (λ (n : ℕ). has_call kept n ≡ true) same (named_in kept x x_in) in
          let unnamed : has_call kept y.inv ≡ false = added_unnamed held calls more order kept apart inside is over y y_in in cc;
      keep_left = over.precedence;
      keep_right = AllPairs-filter (λ x y. precedes y x ≡ false) (is_added kept) more
          (AllPairs-weaker (λ a b. a.inv < b.inv) (λ a b. precedes b a ≡ false) more
          (λ a b a_in b_in less. rising_keep a b less (All-contains (λ c. precedes c c ≡ false) more b apart.last b_in)) rising);
      last_left = λ x x_in. All-contains (λ c. precedes c c ≡ false) more x apart.last
          (kept_known held calls more order kept apart inside is over x x_in);
      last_right = λ y y_in. All-contains (λ c. precedes c c ≡ false) more y apart.last
          (added_more held calls more order kept apart inside is over y y_in);
    }) in
    (merged, with_added held calls more order kept apart inside is over merged both)

-- Choices that are reached. A pending call that was taken is answered with what it found. After all calls there is a read of all keys that
-- finds what these hold. The choice goes on to an order of these, so they have one.
use Rattle.follow_laws.proofs.Common.{◌≡◌, ℕ, suc, ◌<◌, ◌≤◌, Bool, true, false, not, ◌&&◌, nat_lt, cond, List, [], ◌∷◌, ◌++◌, map, Option, Some, None}
use Rattle.follow_laws.proofs.Common.{inl, inr, refl, sym, ap, ◌∙◌, subst, ⊎_elim, arith, ◌≢◌, ◌⊎◌, All, Contains, ltb-true, lt-ltb}
use Rattle.follow_laws.proofs.Common.{false_from_ne_true, All-nil, All-cons, All-contains, Contains-append_left, Contains-append_right}
use Rattle.follow_laws.proofs.Common.{Contains-append_cases, AllPairs-cons, AllPairs-map, AllPairs-from_map, AllPairs-weaker, Contains-map}
use Rattle.follow_laws.proofs.Common.{Contains-from_map, AllPairs-nil, AllPairs-head, AllPairs-back, AllPairs-front, AllPairs-across, AllPairs-append}
use Rattle.follow_laws.proofs.Common.{All-from_contains, Contains-nil, Contains-first, Contains-later, Contains-cases, Contains-split, KeyedCall}
use Rattle.follow_laws.proofs.Common.{Effect, IsFormed, IsNoEffect, no_effect, read_of, is_same_value, is_completed, ends_before, precedes, FitInTurn}
use Rattle.follow_laws.proofs.Common.{left_by, AreDistinct, AreKeyedCalls, KeepPrecedence, IsKeyedOrder, HasKeyedOrder, HaveGrown, IsLater, Choice}
use Rattle.follow_laws.proofs.Common.{Agrees, GoesOn, rest_of, AreSomeOf, Lead, IsOpen, AreAllTaken, ChoicesAreReached}
use Rattle.follow_laws.proofs.DeadLemmas.{bool_cases}
use Rattle.follow_laws.proofs.EffectLemmas.{same_values}
use Rattle.follow_laws.proofs.EffectRestLemmas.{none_none}
use Rattle.follow_laws.proofs.OrderLemmas.{same_call, ends_sooner}
use Rattle.follow_laws.proofs.TurnLemmas.{fit-back, fit-front}
use Rattle.std.proofs.Common.{is_some}
use mathlib.Core.Path.{fun_ext}

-- ---- a call with what it found as its answer

abbrev found_effect : Bool → Option ℕ → Effect → Effect
found_effect true value e = record { fits = is_same_value value; leaves = e.leaves }
found_effect false value e = e

found_fits : (b : Bool) (value : Option ℕ) (e : Effect) → e.fits value ≡ true → (found_effect b value e).fits value ≡ true
found_fits true value e fits = (same_values value value).1 refl
found_fits false value e fits = fits

found_leaves : (b : Bool) (value : Option ℕ) (e : Effect) (at : Option ℕ) → (found_effect b value e).leaves at ≡ e.leaves at
found_leaves true value e at = refl
found_leaves false value e at = refl

abbrev ended_at : ℕ → Option ℕ → Option ℕ
ended_at place None = Some place
ended_at place (Some res) = Some res

and_false : (b : Bool) → (b && false) ≡ false
and_false true = refl
and_false false = refl

module _ (place : ℕ) (w : Choice) where
  -- whether a call that is pending was taken at a key
  abbrev is_found : KeyedCall → ℕ → Bool
  is_found a key = w.taken a.inv key && (a.concerns key && not (is_completed a))

  abbrev as_found : KeyedCall → KeyedCall
  as_found a = record {
    inv = a.inv;
    res = ended_at place a.res;
    refused = a.refused;
    concerns = a.concerns;
    effect = λ key. found_effect (is_found a key) (w.found a.inv key) (a.effect key);
  }

  -- a read of all keys, after all calls, of what they hold
  abbrev last_read : KeyedCall
  last_read = record {
    inv = suc place;
    res = Some (suc place);
    refused = false;
    concerns = λ key. true;
    effect = λ key. read_of (w.holds key);
  }

  abbrev with_last : List KeyedCall → List KeyedCall
  with_last calls = map as_found calls ++ last_read ∷ []

  completed_same : (a : KeyedCall) → is_completed a ≡ true → as_found a ≡ a
  completed_same a done =
      ap (λ (r : Option ℕ). made r (λ (key : ℕ). found_effect (is_found a key) (w.found a.inv key) (a.effect key))) (same_res a.res done)
      ∙ ap (λ (e : ℕ → Effect). made a.res e) (fun_ext (λ (key : ℕ). same_effect key))
    where
      made : Option ℕ → (ℕ → Effect) → KeyedCall
      made r e = record { inv = a.inv; res = r; refused = a.refused; concerns = a.concerns; effect = e }

      same_res : (res : Option ℕ) → is_some res ≡ true → ended_at place res ≡ res
      same_res None some = cc
      same_res (Some r) some = refl

      none : (t c : Bool) → (t && (c && not true)) ≡ false
      none true c = and_false c
      none false c = refl

      same_effect : (key : ℕ) → found_effect (is_found a key) (w.found a.inv key) (a.effect key) ≡ a.effect key
      same_effect key =
          ap (λ (d : Bool). found_effect (w.taken a.inv key && (a.concerns key && not d)) (w.found a.inv key) (a.effect key)) done
          ∙ ap (λ (b : Bool). found_effect b (w.found a.inv key) (a.effect key)) (none (w.taken a.inv key) (a.concerns key))

  pending_res : (res : Option ℕ) → is_some res ≡ false → ended_at place res ≡ Some place
  pending_res None none = refl
  pending_res (Some r) none = cc

  found_completed : (a : KeyedCall) → is_completed (as_found a) ≡ true
  found_completed a = by_res a.res
    where
      by_res : (res : Option ℕ) → is_some (ended_at place res) ≡ true
      by_res None = refl
      by_res (Some r) = refl

  -- what preceded another call does so
  still_precedes : (a b : KeyedCall) → precedes a b ≡ true → precedes (as_found a) b ≡ true
  still_precedes a b = by_res a.res
    where
      by_res : (res : Option ℕ) → ends_before res b.inv ≡ true → ends_before (ended_at place res) b.inv ≡ true
      by_res None before = cc
      by_res (Some r) before = before

  module _ (calls : List KeyedCall) (grown : HaveGrown place calls calls)
      (pending : (a : KeyedCall) → Contains calls a → is_completed a ≡ false → IsOpen a) where
    begun : (a : KeyedCall) → Contains calls a → a.inv < place
    begun a a_in = All-contains (λ z. z.inv < place) calls a grown.begun a_in

    -- a pending call is answered later
    found_later : (a : KeyedCall) → Contains calls a → IsLater place a (as_found a)
    found_later a a_in = record {
      inv = refl;
      concerns = λ key. refl;
      response = ⊎_elim (λ done. inl (completed_same a done)) (λ open_call. inr (record {
        pending = open_call;
        accepted = (pending a a_in open_call).accepted;
        fits = (pending a a_in open_call).fits;
        later = λ res is.
            let same : Some place ≡ Some res = sym (pending_res a.res open_call) ∙ is in
            let one : place ≡ res = same_some place res same in omega (arith, one);
        does = λ accepted key value. found_leaves (is_found a key) (w.found a.inv key) (a.effect key) value;
      })) (bool_cases (is_completed a));
    }
      where
        same_some : (m n : ℕ) → Some m ≡ Some n → m ≡ n
        same_some m n same = cc

    found_formed : (a : KeyedCall) → Contains calls a → IsFormed (as_found a)
    found_formed a a_in = ⊎_elim
        (λ done. subst IsFormed (sym (completed_same a done)) formed)
        (λ open_call. record {
          elsewhere = λ key out.
              subst (λ (b : Bool). IsNoEffect (found_effect (w.taken a.inv key && (b && not (is_completed a))) (w.found a.inv key) (a.effect key)))
              (sym out) (subst (λ (b : Bool). IsNoEffect (found_effect b (w.found a.inv key) (a.effect key))) (sym (and_false (w.taken a.inv key)))
              (formed.elsewhere key out));
          refusal = λ refused. let never : a.refused ≡ false = (pending a a_in open_call).accepted in cc;
        })
        (bool_cases (is_completed a))
      where
        formed : IsFormed a
        formed = All-contains IsFormed calls a grown.formed a_in

    -- each call precedes what comes after all calls, and not itself
    found_last : (a : KeyedCall) → Contains calls a → precedes (as_found a) last_read ≡ true
    found_last a a_in = by_res a.res refl
      where
        by_res : (res : Option ℕ) → a.res ≡ res → ends_before (ended_at place res) (suc place) ≡ true
        by_res None is = lt-ltb place (suc place) (omega arith)
        by_res (Some r) is = let ended : r < place = grown.ended a r a_in is in lt-ltb r (suc place) (omega (arith, ended))

    found_apart : (a : KeyedCall) → Contains calls a → precedes (as_found a) (as_found a) ≡ false
    found_apart a a_in = ⊎_elim
        (λ done. subst (λ (z : KeyedCall). precedes z z ≡ false) (sym (completed_same a done))
        (All-contains (λ z. precedes z z ≡ false) calls a grown.apart.last a_in))
        (λ open_call. subst (λ (r : Option ℕ). ends_before r a.inv ≡ false) (sym (pending_res a.res open_call))
        (false_from_ne_true (nat_lt place a.inv) (λ less.
        let sooner : place < a.inv = ltb-true place a.inv less in
        let before : a.inv < place = begun a a_in in omega (arith, sooner, before))))
        (bool_cases (is_completed a))

    old_or_last : (some : List KeyedCall) (P : KeyedCall → Type 0) → ((a : KeyedCall) → Contains some a → P (as_found a)) → P last_read
        → (b : KeyedCall) → Contains (with_last some) b → P b
    old_or_last some P old new b b_in = ⊎_elim
        (λ first. let (a, a_in, a_is) = Contains-from_map as_found some b first in subst P a_is (old a a_in))
        (λ second. ⊎_elim (λ same. subst P same new) (λ later. absurd (Contains-nil b later)) (Contains-cases last_read [] b second))
        (Contains-append_cases (map as_found some) (last_read ∷ []) b b_in)

    old_in : (some : List KeyedCall) (a : KeyedCall) → Contains some a → Contains (with_last some) (as_found a)
    old_in some a a_in = Contains-append_left (map as_found some) (last_read ∷ []) (as_found a) (Contains-map as_found some a a_in)

    last_in : (some : List KeyedCall) → Contains (with_last some) last_read
    last_in some = Contains-append_right (map as_found some) (last_read ∷ []) last_read (Contains-first last_read [])

    last_formed : IsFormed last_read
    last_formed = record {
      elsewhere = λ key out. let never : true ≡ false = out in cc;
      refusal = λ refused. let never : false ≡ true = refused in cc;
    }

    module _ (some : List KeyedCall) (among : (a : KeyedCall) → Contains some a → Contains calls a) (distinct : AreDistinct some) where
      last_other : (a : KeyedCall) → Contains some a → a.inv ≢ suc place
      last_other a a_in same = let before : a.inv < place = begun a (among a a_in) in omega (arith, before, same)

      with_last_distinct : AreDistinct (with_last some)
      with_last_distinct =
          AllPairs-append (λ (x y : KeyedCall). x.inv ≢ y.inv) (map as_found some) (last_read ∷ [])
          (AllPairs-map (λ (x y : KeyedCall). x.inv ≢ y.inv) as_found some distinct)
          (AllPairs-cons (λ (x y : KeyedCall). x.inv ≢ y.inv) last_read [] (All-nil (λ (y : KeyedCall). suc place ≢ y.inv))
          (AllPairs-nil (λ (x y : KeyedCall). x.inv ≢ y.inv)))
          (All-from_contains (λ (x : KeyedCall). All (λ (y : KeyedCall). x.inv ≢ y.inv) (last_read ∷ [])) (map as_found some) (λ x x_in.
          let (a, a_in, a_is) = Contains-from_map as_found some x x_in in
          All-cons (λ (y : KeyedCall). x.inv ≢ y.inv) last_read []
          (subst (λ (z : KeyedCall). z.inv ≢ suc place) a_is (last_other a a_in)) (All-nil (λ (y : KeyedCall). x.inv ≢ y.inv))))

      with_last_apart : AreKeyedCalls (with_last some)
      with_last_apart = record {
        distinct = with_last_distinct;
        last = All-from_contains (λ b. precedes b b ≡ false) (with_last some)
            (old_or_last some (λ b. precedes b b ≡ false) (λ a a_in. found_apart a (among a a_in))
            (false_from_ne_true (nat_lt (suc place) (suc place)) (λ less.
            let sooner : suc place < suc place = ltb-true (suc place) (suc place) less in omega (arith, sooner))));
      }

    more_grown : HaveGrown place calls (with_last calls)
    more_grown = record {
      begun = grown.begun;
      ended = grown.ended;
      stay = λ a a_in. (as_found a, old_in calls a a_in, found_later a a_in);
      come = old_or_last calls (λ b. ((a : KeyedCall) × Contains calls a × IsLater place a b) ⊎ (place ≤ b.inv))
          (λ a a_in. inl (a, a_in, found_later a a_in)) (inr (omega arith));
      alone = grown.alone;
      formed = All-from_contains IsFormed (with_last calls) (old_or_last calls IsFormed found_formed last_formed);
      apart = with_last_apart calls (λ a a_in. a_in) grown.alone;
    }

    -- ---- the choice goes on to an order of these

    module _ (some : List KeyedCall) (are : AreAllTaken calls some w) where
      among : (a : KeyedCall) → Contains some a → Contains calls a
      among = are.are_some.from

      some_are : AreSomeOf w (with_last calls) (with_last some)
      some_are = record {
        from = old_or_last some (Contains (with_last calls)) (λ a a_in. old_in calls a (among a a_in)) (last_in calls);
        taken = λ b key b_in taken. old_or_last calls (λ z. w.taken z.inv key ≡ true → Contains (with_last some) z)
            (λ a a_in is. old_in some a (are.are_some.taken a key a_in is)) (λ is. last_in some) b b_in taken;
        distinct = with_last_distinct some among are.are_some.distinct;
      }

      never_last : (key : ℕ) → w.taken (suc place) key ≡ true → ⊥
      never_last key taken =
          let (a, a_in, a_is, concerned) = are.known (suc place) key taken in
          let before : a.inv < place = begun a a_in in omega (arith, before, a_is)

      agree : All (Agrees w) (with_last some)
      agree = All-from_contains (Agrees w) (with_last some) (old_or_last some (Agrees w) (λ a a_in. found_agrees a a_in) (record {
        accepted = λ key taken. refl;
        fits = λ key taken. absurd (never_last key taken);
      }))
        where
          found_agrees : (a : KeyedCall) → Contains some a → Agrees w (as_found a)
          found_agrees a a_in =
              let agrees : Agrees w a = All-contains (Agrees w) some a are.agree a_in in
              record {
                accepted = agrees.accepted;
                fits = λ key taken. found_fits (is_found a key) (w.found a.inv key) (a.effect key) (agrees.fits key taken);
              }

      -- nothing is left of them
      rest_found : (a : KeyedCall) → Contains some a → (key : ℕ) → IsNoEffect ((rest_of w (as_found a)).effect key)
      rest_found a a_in key = by_taken (bool_cases (w.taken a.inv key))
        where
          by_taken : (w.taken a.inv key ≡ true) ⊎ (w.taken a.inv key ≡ false)
              → IsNoEffect (cond (w.taken a.inv key) no_effect
              (found_effect (w.taken a.inv key && (a.concerns key && not (is_completed a))) (w.found a.inv key) (a.effect key)))
          by_taken (inl taken) = rw taken none_none
          by_taken (inr untaken) =
              let rest : IsNoEffect (cond (w.taken a.inv key) no_effect (a.effect key)) = are.none a key a_in in
              let plain : IsNoEffect (a.effect key) = rw untaken at rest in rw untaken plain

      last_fits : (key : ℕ) → ((rest_of w last_read).effect key).fits (w.holds key) ≡ true
      last_fits key =
          subst (λ (t : Bool). (cond t no_effect (read_of (w.holds key))).fits (w.holds key) ≡ true)
          (sym (false_from_ne_true (w.taken (suc place) key) (never_last key))) ((same_values (w.holds key) (w.holds key)).1 refl)

      rest_fits : (key : ℕ) (xs : List KeyedCall) → ((a : KeyedCall) → Contains xs a → IsNoEffect ((rest_of w (as_found a)).effect key))
          → FitInTurn key (w.holds key) (map (rest_of w) (with_last xs))
      rest_fits key [] none = (last_fits key, tt)
      rest_fits key (a ∷ xs) none =
          let first : IsNoEffect ((rest_of w (as_found a)).effect key) = none a (Contains-first a xs) in (
            first.fits (w.holds key),
            subst (λ (v : Option ℕ). FitInTurn key v (map (rest_of w) (with_last xs))) (sym (first.leaves (w.holds key)))
                (rest_fits key xs (λ b b_in. none b (Contains-later a xs b b_in))),
          )

      in_turn : KeepPrecedence (with_last some)
      in_turn =
          AllPairs-append (λ (x y : KeyedCall). precedes y x ≡ false) (map as_found some) (last_read ∷ [])
          (AllPairs-map (λ (x y : KeyedCall). precedes y x ≡ false) as_found some
          (AllPairs-weaker (λ (a b : KeyedCall). a.inv < b.inv) (λ (a b : KeyedCall). precedes (as_found b) (as_found a) ≡ false) some
          (λ a b a_in b_in less. false_from_ne_true (precedes (as_found b) (as_found a)) (λ before.
          let also : precedes (as_found b) (as_found b) ≡ true = ends_sooner (as_found b).res a.inv b.inv (omega (arith, less)) before in
          let never : precedes (as_found b) (as_found b) ≡ false = found_apart b (among b b_in) in cc))
          are.rising))
          (AllPairs-cons (λ (x y : KeyedCall). precedes y x ≡ false) last_read [] (All-nil (λ (y : KeyedCall). precedes y last_read ≡ false))
          (AllPairs-nil (λ (x y : KeyedCall). precedes y x ≡ false)))
          (All-from_contains (λ (x : KeyedCall). All (λ (y : KeyedCall). precedes y x ≡ false) (last_read ∷ [])) (map as_found some) (λ x x_in.
          let (a, a_in, a_is) = Contains-from_map as_found some x x_in in
          All-cons (λ (y : KeyedCall). precedes y x ≡ false) last_read []
          (subst (λ (z : KeyedCall). precedes last_read z ≡ false) a_is (false_from_ne_true (nat_lt (suc place) a.inv) (λ less.
          let later : suc place < a.inv = ltb-true (suc place) a.inv less in
          let before : a.inv < place = begun a (among a a_in) in omega (arith, later, before))))
          (All-nil (λ (y : KeyedCall). precedes y x ≡ false))))

      goes_on : GoesOn w (with_last some)
      goes_on = (
        agree,
        (
          map (rest_of w) (with_last some),
          record {
            known = λ a a_in. a_in;
            distinct = AllPairs-map (λ (x y : KeyedCall). x.inv ≢ y.inv) (rest_of w) (with_last some)
                (with_last_distinct some among are.are_some.distinct);
            precedence = AllPairs-map (λ (x y : KeyedCall). precedes y x ≡ false) (rest_of w) (with_last some) in_turn;
            complete = λ a a_in done. a_in;
            fit = λ key. rest_fits key some (λ a a_in. rest_found a a_in key);
          },
        ),
      )

      -- ---- and from an order of these to one of the calls

      unmapped : (xs : List KeyedCall) → ((y : KeyedCall) → Contains xs y → (a : KeyedCall) × Contains some a × (as_found a ≡ y))
          → (os : List KeyedCall) × (map as_found os ≡ xs) × ((a : KeyedCall) → Contains os a → Contains some a)
      unmapped [] each = ([], refl, λ a a_in. absurd (Contains-nil a a_in))
      unmapped (y ∷ xs) each =
          let (a, a_in, a_is) = each y (Contains-first y xs) in
          let (os, os_are, in_some) = unmapped xs (λ z z_in. each z (Contains-later y xs z z_in)) in (
            a ∷ os,
            ap (λ (z : KeyedCall). z ∷ map as_found os) a_is ∙ ap (λ (zs : List KeyedCall). y ∷ zs) os_are,
            λ b b_in. ⊎_elim (λ same. subst (Contains some) same a_in) (λ later. in_some b later) (Contains-cases a os b b_in),
          )

      none_is : (xs : List KeyedCall) → ((y : KeyedCall) → Contains xs y → ⊥) → xs ≡ []
      none_is [] none = refl
      none_is (x ∷ xs) none = absurd (none x (Contains-first x xs))

      -- the read comes last
      split : (held : ℕ → Option ℕ) (order : List KeyedCall) → IsKeyedOrder held (with_last some) order
          → (os : List KeyedCall) × (with_last os ≡ order) × ((a : KeyedCall) → Contains os a → Contains some a)
      split held order is =
          let (front, back, parts) = Contains-split order last_read (is.complete last_read (last_in some) refl) in
          let distinct : AreDistinct (front ++ last_read ∷ back) = subst AreDistinct parts is.distinct in
          let turned : KeepPrecedence (front ++ last_read ∷ back) = subst KeepPrecedence parts is.precedence in
          let known : (y : KeyedCall) → Contains (front ++ last_read ∷ back) y → Contains (with_last some) y =
          subst (λ (xs : List KeyedCall). (y : KeyedCall) → Contains xs y → Contains (with_last some) y) parts is.known in
          let none : back ≡ [] = none_is back (λ y y_in. old_or_last some
          (λ z. last_read.inv ≢ z.inv → precedes z last_read ≡ false → ⊥)
          (λ a a_in other early. let also : precedes (as_found a) last_read ≡ true = found_last a (among a a_in) in cc)
          (λ other early. other refl) y
          (known y (Contains-append_right front (last_read ∷ back) y (Contains-later last_read back y y_in)))
          (All-contains (λ (z : KeyedCall). last_read.inv ≢ z.inv) back y
          (AllPairs-head (λ (x z : KeyedCall). x.inv ≢ z.inv) last_read back
          (AllPairs-back (λ (x z : KeyedCall). x.inv ≢ z.inv) front (last_read ∷ back) distinct)) y_in)
          (All-contains (λ (z : KeyedCall). precedes z last_read ≡ false) back y
          (AllPairs-head (λ (x z : KeyedCall). precedes z x ≡ false) last_read back
          (AllPairs-back (λ (x z : KeyedCall). precedes z x ≡ false) front (last_read ∷ back) turned)) y_in)) in
          let (os, os_are, in_some) = unmapped front (λ y y_in. old_or_last some
          (λ z. z.inv ≢ last_read.inv → (a : KeyedCall) × Contains some a × (as_found a ≡ z))
          (λ a a_in other. (a, a_in, refl)) (λ other. absurd (other refl)) y
          (known y (Contains-append_left front (last_read ∷ back) y y_in))
          (All-contains (λ (z : KeyedCall). y.inv ≢ z.inv) (last_read ∷ back) last_read
          (All-contains (λ (x : KeyedCall). All (λ (z : KeyedCall). x.inv ≢ z.inv) (last_read ∷ back)) front y
          (AllPairs-across (λ (x z : KeyedCall). x.inv ≢ z.inv) front (last_read ∷ back) distinct) y_in)
          (Contains-first last_read back))) in (
            os,
            ap (λ (xs : List KeyedCall). xs ++ last_read ∷ []) os_are
                ∙ (ap (λ (ys : List KeyedCall). front ++ last_read ∷ ys) (sym none) ∙ sym parts),
            in_some,
          )

      fits_back : (a : KeyedCall) → Contains calls a → (key : ℕ) (value : Option ℕ) → ((as_found a).effect key).fits value ≡ true
          → (a.effect key).fits value ≡ true
      fits_back a a_in key value fits = ⊎_elim
          (λ done. subst (λ (z : KeyedCall). (z.effect key).fits value ≡ true) (completed_same a done) fits)
          (λ open_call. (pending a a_in open_call).fits key value)
          (bool_cases (is_completed a))

      fit_back : (key : ℕ) (value : Option ℕ) (os : List KeyedCall) → ((a : KeyedCall) → Contains os a → Contains calls a)
          → FitInTurn key value (map as_found os) → FitInTurn key value os
      fit_back key value [] each fit = tt
      fit_back key value (a ∷ os) each fit = (
        fits_back a (each a (Contains-first a os)) key value fit.0,
        fit_back key ((a.effect key).leaves value) os (λ b b_in. each b (Contains-later a os b b_in))
            (subst (λ (v : Option ℕ). FitInTurn key v (map as_found os))
            (found_leaves (is_found a key) (w.found a.inv key) (a.effect key) value) fit.1),
      )

      left_back : (key : ℕ) (value : Option ℕ) (os : List KeyedCall) → left_by key value (map as_found os) ≡ left_by key value os
      left_back key value [] = refl
      left_back key value (a ∷ os) =
          left_back key (((as_found a).effect key).leaves value) os
          ∙ ap (λ (v : Option ℕ). left_by key v os) (found_leaves (is_found a key) (w.found a.inv key) (a.effect key) value)

      fits_at : (key : ℕ) (value : Option ℕ) (front back : List KeyedCall) (a : KeyedCall)
          → FitInTurn key value (map as_found (front ++ a ∷ back)) → ((as_found a).effect key).fits (left_by key value front) ≡ true
      fits_at key value [] back a fit = fit.0
      fits_at key value (x ∷ front) back a fit =
          fits_at key ((x.effect key).leaves value) front back a
          (subst (λ (v : Option ℕ). FitInTurn key v (map as_found (front ++ a ∷ back)))
          (found_leaves (is_found x key) (w.found x.inv key) (x.effect key) value) fit.1)

      found_there : (a : KeyedCall) → Contains calls a → (key : ℕ) (value : Option ℕ) → is_completed a ≡ false → w.taken a.inv key ≡ true
          → ((as_found a).effect key).fits value ≡ true → value ≡ w.found a.inv key
      found_there a a_in key value open_call taken fits =
          let (b, b_in, b_is, concerned) = are.known a.inv key taken in
          let one : b ≡ a = same_call calls b a grown.alone b_in a_in b_is in
          let concerns : a.concerns key ≡ true = subst (λ (z : KeyedCall). z.concerns key ≡ true) one concerned in
          let is : is_found a key ≡ true = all_three (w.taken a.inv key) (a.concerns key) (is_completed a) taken concerns open_call in
          let same : is_same_value (w.found a.inv key) value ≡ true =
          subst (λ (t : Bool). (found_effect t (w.found a.inv key) (a.effect key)).fits value ≡ true) is fits in
          sym ((same_values (w.found a.inv key) value).0 same)
        where
          all_three : (t c d : Bool) → t ≡ true → c ≡ true → d ≡ false → (t && (c && not d)) ≡ true
          all_three t c d t_is c_is d_is = rw (t_is, c_is, d_is) refl

      lead : (held : ℕ → Option ℕ) → HasKeyedOrder held (with_last some) → Lead held some w
      lead held whole =
          let (os, os_are, in_some) = split held whole.0 whole.1 in
          lead_by held os in_some (subst (λ (xs : List KeyedCall). IsKeyedOrder held (with_last some) xs) (sym os_are) whole.1)
        where
          lead_by : (held : ℕ → Option ℕ) (os : List KeyedCall) → ((a : KeyedCall) → Contains os a → Contains some a)
              → IsKeyedOrder held (with_last some) (with_last os) → Lead held some w
          lead_by held os in_some is = record {
            order = os;
            is_order = record {
              known = in_some;
              distinct = AllPairs-from_map (λ (x y : KeyedCall). x.inv ≢ y.inv) as_found os
                  (AllPairs-front (λ (x y : KeyedCall). x.inv ≢ y.inv) (map as_found os) (last_read ∷ []) is.distinct);
              precedence = AllPairs-weaker (λ (a b : KeyedCall). precedes (as_found b) (as_found a) ≡ false)
                  (λ (a b : KeyedCall). precedes b a ≡ false) os
                  (λ a b a_in b_in none. false_from_ne_true (precedes b a) (λ before.
                  let also : precedes (as_found b) (as_found a) ≡ true = still_precedes b a before in cc))
                  (AllPairs-from_map (λ (x y : KeyedCall). precedes y x ≡ false) as_found os
                  (AllPairs-front (λ (x y : KeyedCall). precedes y x ≡ false) (map as_found os) (last_read ∷ []) is.precedence));
              complete = λ a a_in done. all a a_in;
              fit = λ key. fit_back key (held key) os (λ a a_in. among a (in_some a a_in)) (fit_old key);
            };
            all = all;
            found = λ front back a key parts open_call taken.
                let a_in : Contains os a = subst (λ (xs : List KeyedCall). Contains xs a) (sym parts)
                (Contains-append_right front (a ∷ back) a (Contains-first a back)) in
                found_there a (among a (in_some a a_in)) key (left_by key (held key) front) open_call taken
                (fits_at key (held key) front back a
                (subst (λ (xs : List KeyedCall). FitInTurn key (held key) (map as_found xs)) parts (fit_old key)));
            leaves = λ key.
                let last : FitInTurn key (left_by key (held key) (map as_found os)) (last_read ∷ []) =
                fit-back key (held key) (map as_found os) (last_read ∷ []) (is.fit key) in
                sym (left_back key (held key) os) ∙ sym ((same_values (w.holds key) (left_by key (held key) (map as_found os))).0 last.0);
          }
            where
              fit_old : (key : ℕ) → FitInTurn key (held key) (map as_found os)
              fit_old key = fit-front key (held key) (map as_found os) (last_read ∷ []) (is.fit key)

              all : (a : KeyedCall) → Contains some a → Contains os a
              all a a_in = old_or_last os (λ z. z ≡ as_found a → Contains os a)
                  (λ b b_in same. subst (Contains os)
                  (same_call some b a are.are_some.distinct (in_some b b_in) a_in (ap (λ (z : KeyedCall). z.inv) same)) b_in)
                  (λ same. absurd (last_other some among are.are_some.distinct a a_in (sym (ap (λ (z : KeyedCall). z.inv) same))))
                  (as_found a) (is.complete (as_found a) (old_in some a a_in) (found_completed a)) refl

pub choices_are_reached : ChoicesAreReached
choices_are_reached held place calls some parts w grown pending stand w_is are =
    lead place w calls grown pending some are held
    (stand.reached (with_last place w calls) (with_last place w some) w (more_grown place w calls grown pending) w_is
    (some_are place w calls grown pending some are) (goes_on place w calls grown pending some are))

-- A read that was answered, taken at keys at rest, and a call without effect, taken at any time. `at_taken`: two choices that differ by it.
-- `read_back`, `none_back`: a choice goes on if the other does, which has taken it.
use Rattle.follow_laws.proofs.Common.{◌≡◌, ℕ, ◌==◌, ◌<◌, Bool, true, false, not, ◌&&◌, ◌||◌, cond, List, [], ◌∷◌, ◌++◌, map, Option, inl, inr, refl}
use Rattle.follow_laws.proofs.Common.{sym, ap, ◌∙◌, subst, ⊎_elim, arith, ◌≢◌, ◌⊎◌, All, Contains, eqb-true, eq-eqb, and_parts, or_left, or_right}
use Rattle.follow_laws.proofs.Common.{All-head, All-contains, Contains-append_left, AllPairs-map, Contains-map, Contains-from_map, AllPairs-across}
use Rattle.follow_laws.proofs.Common.{AllPairs-back, AllPairs-head, All-from_contains, Contains-first, Contains-later, Contains-cases, Contains-split}
use Rattle.follow_laws.proofs.Common.{KeyedCall, Effect, IsNoEffect, IsFormed, no_effect, is_completed, ends_before, precedes, FitInTurn, AreDistinct}
use Rattle.follow_laws.proofs.Common.{KeepPrecedence, IsKeyedOrder, AreKeyedCalls, LeaveTheSame, IsAnsweredAs, IsLater, HaveGrown, Choice, rest_of}
use Rattle.follow_laws.proofs.Common.{Agrees, GoesOn, SomeGoesOn, Keys, has_call, other_keys, AreApart, IsQuiet, ReadsAreTakenAtRest}
use Rattle.follow_laws.proofs.Common.{CallsWithoutEffectAreTaken, Part, IsAt, IsOneOf, AreSomeOf, choices_of, Represent, IsAfterCall, IsReadAt}
use Rattle.follow_laws.proofs.Common.{IsAtRest}
use Rattle.follow_laws.proofs.AfterLemmas.{named_in, from_named}
use Rattle.follow_laws.proofs.DeadLemmas.{bool_cases, response_of}
use Rattle.follow_laws.proofs.EffectRestLemmas.{none_none, refused_none}
use Rattle.follow_laws.proofs.OrderLemmas.{same_call, ends_at}
use mathlib.Core.Path.{fun_ext}
use Rattle.follow_laws.proofs.PartLemmas.{at_back, instead, instead_here, instead_there, keys_shared, with_instead, with_other, TakesNoMore}
use Rattle.follow_laws.proofs.PartLemmas.{part_steps}
use Rattle.follow_laws.proofs.FewerLemmas.{takes_less}
use Rattle.follow_laws.proofs.FirstLemmas.{completed_stays}
use Rattle.follow_laws.proofs.ReadLemmas.{read_comes, read_fits, read_quiet}

-- ---- two choices: one takes a call at some keys, and the other leaves it

-- the call leaves what they hold
record IsTakenAt (keys : Keys) (w : Choice) (b : KeyedCall) (v : Choice) : Type 0 where
  taken : (inv key : ℕ) → v.taken inv key ≡ (w.taken inv key || ((inv == b.inv) && keys key))
  holds : (key : ℕ) → v.holds key ≡ w.holds key
  found_before : (inv key : ℕ) → w.taken inv key ≡ true → v.found inv key ≡ w.found inv key

-- the keys of a set that a call concerns
abbrev concerned : Keys → KeyedCall → Keys
concerned keys b key = keys key && b.concerns key

taken_here : (t s e k c : Bool) → k ≡ true → s ≡ t → (t || (e && c)) ≡ (s || (e && (k && c)))
taken_here t s e k c is same = rw is (rw same refl)

taken_there : (s e k c : Bool) → k ≡ false → s ≡ (s || (e && (k && c)))
taken_there true e k c is = refl
taken_there false true k c is = rw is refl
taken_there false false k c is = refl

out_of : (b : Bool) → b ≡ false → not b ≡ true
out_of b is = rw is refl

at_taken : (keys : Keys) (past next : Choice) (b : KeyedCall) (w v : Choice) → IsAfterCall keys past b next → IsReadAt keys past b
    → ((key : ℕ) → keys key ≡ true → ((rest_of past b).effect key).fits (past.holds key) ≡ true)
    → IsAt keys past w → IsAt keys next v → IsAt (other_keys keys) w v → IsTakenAt (concerned keys b) w b v
at_taken keys past next b w v after read fits first second same = record {
  taken = λ inv key. taken inv key (bool_cases (keys key));
  holds = λ key. holds key (bool_cases (keys key));
  found_before = λ inv key is. found_before inv key is (bool_cases (keys key));
}
  where
    taken : (inv key : ℕ) → (keys key ≡ true) ⊎ (keys key ≡ false)
        → v.taken inv key ≡ (w.taken inv key || ((inv == b.inv) && (keys key && b.concerns key)))
    taken inv key (inl is) = second.taken inv key is ∙ after.taken inv key is
        ∙ taken_here (past.taken inv key) (w.taken inv key) (inv == b.inv) (keys key) (b.concerns key) is (first.taken inv key is)
    taken inv key (inr out) = same.taken inv key (out_of (keys key) out)
        ∙ taken_there (w.taken inv key) (inv == b.inv) (keys key) (b.concerns key) out

    holds : (key : ℕ) → (keys key ≡ true) ⊎ (keys key ≡ false) → v.holds key ≡ w.holds key
    holds key (inl is) = second.holds key is ∙ after.holds key is ∙ read key is (past.holds key) (fits key is) ∙ sym (first.holds key is)
    holds key (inr out) = same.holds key (out_of (keys key) out)

    still : (t s : Bool) → t ≡ true → (t || s) ≡ true
    still t s is = rw is refl

    found_before : (inv key : ℕ) → w.taken inv key ≡ true → (keys key ≡ true) ⊎ (keys key ≡ false) → v.found inv key ≡ w.found inv key
    found_before inv key is (inl here) =
        let before : past.taken inv key ≡ true = sym (first.taken inv key here) ∙ is in
        let now : next.taken inv key ≡ true = after.taken inv key here ∙ still (past.taken inv key) ((inv == b.inv) && b.concerns key) before in
        second.found inv key here now ∙ after.found_before inv key here before ∙ sym (first.found inv key here before)
    found_before inv key is (inr out) = same.found inv key (out_of (keys key) out) is

-- ---- the read is put back into an order

-- all that is known of the calls, and of the read
record AtRead (keys : Keys) (more : List KeyedCall) (w v : Choice) (b : KeyedCall) : Type 0 where
  b_in : Contains more b
  apart : AreKeyedCalls more
  completed : is_completed b ≡ true
  taken : IsTakenAt keys w b v
  quiet : (key : ℕ) → keys key ≡ true → IsQuiet (rest_of w b) key
  fits : (key : ℕ) → keys key ≡ true → ((rest_of w b).effect key).fits (w.holds key) ≡ true

-- calls, one after another, each of which is the same at a key in another list, or has no effect there in either
none_moved : (key : ℕ) (f : KeyedCall → KeyedCall) (xs : List KeyedCall) (value : Option ℕ)
    → ((x : KeyedCall) → Contains xs x → ((f x).effect key ≡ x.effect key) ⊎ (IsNoEffect (x.effect key) × IsNoEffect ((f x).effect key)))
    → FitInTurn key value xs → FitInTurn key value (map f xs)
none_moved key f [] value each fit = tt
none_moved key f (x ∷ xs) value each fit =
    let rest : FitInTurn key ((x.effect key).leaves value) (map f xs) =
    none_moved key f xs ((x.effect key).leaves value) (λ y y_in. each y (Contains-later x xs y y_in)) fit.1 in
    ⊎_elim
    (λ same. subst (λ (e : Effect). (e.fits value ≡ true) × FitInTurn key (e.leaves value) (map f xs)) (sym same) (fit.0, rest))
    (λ none. (
      none.1.fits value,
      subst (λ (u : Option ℕ). FitInTurn key u (map f xs)) (none.0.leaves value ∙ sym (none.1.leaves value)) rest,
    ))
    (each x (Contains-first x xs))

-- Calls, one after another. One of them has no effect at a key, and is quiet there in the other list, and so are all before it.
given_fit : (key : ℕ) (f : KeyedCall → KeyedCall) (b : KeyedCall) (back front : List KeyedCall) (value : Option ℕ)
    → ((x : KeyedCall) → Contains front x → IsQuiet x key × ((f x).effect key ≡ x.effect key))
    → ((x : KeyedCall) → Contains back x → (f x).effect key ≡ x.effect key)
    → IsNoEffect (b.effect key) → IsQuiet (f b) key → ((f b).effect key).fits value ≡ true
    → FitInTurn key value (front ++ b ∷ back) → FitInTurn key value (map f (front ++ b ∷ back))
given_fit key f b back [] value before after none quiet fits fit = (
  fits,
  subst (λ (u : Option ℕ). FitInTurn key u (map f back)) (sym (quiet value fits))
      (none_moved key f back value (λ x x_in. inl (after x x_in))
      (subst (λ (u : Option ℕ). FitInTurn key u back) (none.leaves value) fit.1)),
)
given_fit key f b back (x ∷ front) value before after none quiet fits fit =
    let (still, same) = before x (Contains-first x front) in
    let rest : FitInTurn key value (map f (front ++ b ∷ back)) =
    given_fit key f b back front value (λ y y_in. before y (Contains-later x front y y_in)) after none quiet fits
    (subst (λ (u : Option ℕ). FitInTurn key u (front ++ b ∷ back)) (still value fit.0) fit.1) in
    subst (λ (e : Effect). (e.fits value ≡ true) × FitInTurn key (e.leaves value) (map f (front ++ b ∷ back))) (sym same)
    (fit.0, subst (λ (u : Option ℕ). FitInTurn key u (map f (front ++ b ∷ back))) (sym (still value fit.0)) rest)

-- what is left of a call, given what is taken
abbrev rest_by : (ℕ → Bool) → KeyedCall → KeyedCall
rest_by taken d = record {
  inv = d.inv;
  res = d.res;
  refused = d.refused;
  concerns = λ key. not (taken key) && d.concerns key;
  effect = λ key. cond (taken key) no_effect (d.effect key);
}

-- the read as it is left by the first choice, in the place of what is left of it by the second
abbrev given_back : Choice → KeyedCall → KeyedCall → KeyedCall
given_back w b x = record {
  inv = x.inv;
  res = x.res;
  refused = x.refused;
  concerns = λ key. cond (x.inv == b.inv) ((rest_of w b).concerns key) (x.concerns key);
  effect = λ key. cond (x.inv == b.inv) ((rest_of w b).effect key) (x.effect key);
}

or_none : (t e k : Bool) → e ≡ false → (t || (e && k)) ≡ t
or_none true e k is = refl
or_none false e k is = rw is refl

out_none : (t e k : Bool) → k ≡ false → (t || (e && k)) ≡ t
out_none true e k is = refl
out_none false true k is = is
out_none false false k is = refl

module _ (keys : Keys) (more : List KeyedCall) (w v : Choice) (b : KeyedCall) (at : AtRead keys more w v b) where
  only_read : (d : KeyedCall) → Contains more d → (d.inv == b.inv) ≡ true → d ≡ b
  only_read d d_in named = same_call more d b at.apart.distinct d_in at.b_in (eqb-true d.inv b.inv named)

  agrees_back : (d : KeyedCall) → Agrees v d → Agrees w d
  agrees_back d agrees = record {
    accepted = λ key taken. agrees.accepted key (still key taken);
    fits = λ key taken. subst (λ (u : Option ℕ). (d.effect key).fits u ≡ true) (at.taken.found_before d.inv key taken)
        (agrees.fits key (still key taken));
  }
    where
      still : (key : ℕ) → w.taken d.inv key ≡ true → v.taken d.inv key ≡ true
      still key taken = at.taken.taken d.inv key ∙ ap (λ (t : Bool). t || ((d.inv == b.inv) && keys key)) taken

  rest_back : (d : KeyedCall) → Contains more d → given_back w b (rest_of v d) ≡ rest_of w d
  rest_back d d_in = by_name (bool_cases (d.inv == b.inv))
    where
      by_name : ((d.inv == b.inv) ≡ true) ⊎ ((d.inv == b.inv) ≡ false) → given_back w b (rest_of v d) ≡ rest_of w d
      by_name (inl named) =
          let one : d ≡ b = only_read d d_in named in
          let same : rest_of w b ≡ rest_of w d = ap (λ (z : KeyedCall). rest_of w z) (sym one) in
          rw named (ap (λ (z : KeyedCall). record {
            inv = d.inv;
            res = d.res;
            refused = d.refused;
            concerns = z.concerns;
            effect = z.effect;
          }) same)
      by_name (inr other) = rw other (ap (λ (t : ℕ → Bool). rest_by t d)
          (fun_ext (λ (key : ℕ). at.taken.taken d.inv key ∙ or_none (w.taken d.inv key) (d.inv == b.inv) (keys key) other)))

  order_back : (order : List KeyedCall) → IsKeyedOrder v.holds (map (rest_of v) more) order
      → ((key : ℕ) → FitInTurn key (w.holds key) (map (given_back w b) order))
      → IsKeyedOrder w.holds (map (rest_of w) more) (map (given_back w b) order)
  order_back order is fit = record {
    known = λ y y_in.
        let (x, x_in, x_is) = Contains-from_map (given_back w b) order y y_in in
        let (d, d_in, d_is) = Contains-from_map (rest_of v) more x (is.known x x_in) in
        let y_is : rest_of w d ≡ y = sym (rest_back d d_in) ∙ ap (λ (z : KeyedCall). given_back w b z) d_is ∙ x_is in
        subst (λ (z : KeyedCall). Contains (map (rest_of w) more) z) y_is (Contains-map (rest_of w) more d d_in);
    distinct = AllPairs-map (λ x y. x.inv ≢ y.inv) (given_back w b) order is.distinct;
    precedence = AllPairs-map (λ x y. precedes y x ≡ false) (given_back w b) order is.precedence;
    complete = λ y y_in completed.
        let (d, d_in, d_is) = Contains-from_map (rest_of w) more y y_in in
        let ended : is_completed (rest_of v d) ≡ true = subst (λ (z : KeyedCall). is_completed z ≡ true) (sym d_is) completed in
        let in_order : Contains order (rest_of v d) = is.complete (rest_of v d) (Contains-map (rest_of v) more d d_in) ended in
        subst (λ (z : KeyedCall). Contains (map (given_back w b) order) z) (rest_back d d_in ∙ d_is)
        (Contains-map (given_back w b) order (rest_of v d) in_order);
    fit = fit;
  }

  the_read : (order : List KeyedCall) → IsKeyedOrder v.holds (map (rest_of v) more) order → (x : KeyedCall) → Contains order x
      → (x.inv == b.inv) ≡ true → rest_of v b ≡ x
  the_read order is x x_in named =
      let (d, d_in, d_is) = Contains-from_map (rest_of v) more x (is.known x x_in) in
      let one : d ≡ b = only_read d d_in (subst (λ (z : KeyedCall). (z.inv == b.inv) ≡ true) (sym d_is) named) in
      ap (λ (z : KeyedCall). rest_of v z) (sym one) ∙ d_is

  -- a choice goes on if the other does, if the read may be given back
  goes_back : (some : GoesOn v more) → ((key : ℕ) → FitInTurn key (w.holds key) (map (given_back w b) some.1.0)) → GoesOn w more
  goes_back some fit = (
    All-from_contains (Agrees w) more (λ d d_in. agrees_back d (All-contains (Agrees v) more d some.0 d_in)),
    (map (given_back w b) some.1.0, order_back some.1.0 some.1.1 fit),
  )

  -- at the keys nothing of the read is left by the second choice
  masked_none : (key : ℕ) → keys key ≡ true → IsNoEffect ((rest_of v b).effect key)
  masked_none key here = by_taken (v.taken b.inv key) (at.taken.taken b.inv key ∙ all (w.taken b.inv key) (eq-eqb b.inv b.inv refl))
    where
      all : (t : Bool) → (b.inv == b.inv) ≡ true → (t || ((b.inv == b.inv) && keys key)) ≡ true
      all true named = refl
      all false named = rw named here

      by_taken : (t : Bool) → t ≡ true → IsNoEffect (cond t no_effect (b.effect key))
      by_taken t taken = rw taken none_none

  -- at other keys the second choice leaves the same
  same_out : (order : List KeyedCall) → IsKeyedOrder v.holds (map (rest_of v) more) order → (key : ℕ) → keys key ≡ false → (x : KeyedCall)
      → Contains order x → (given_back w b x).effect key ≡ x.effect key
  same_out order is key out x x_in = by_name (bool_cases (x.inv == b.inv))
    where
      by_name : ((x.inv == b.inv) ≡ true) ⊎ ((x.inv == b.inv) ≡ false) → (given_back w b x).effect key ≡ x.effect key
      by_name (inr other) = rw other refl
      by_name (inl named) =
          let same : v.taken b.inv key ≡ w.taken b.inv key =
          at.taken.taken b.inv key ∙ out_none (w.taken b.inv key) (b.inv == b.inv) (keys key) out in
          rw named (ap (λ (t : Bool). cond t no_effect (b.effect key)) (sym same)
          ∙ ap (λ (z : KeyedCall). z.effect key) (the_read order is x x_in named))

  -- the choice may go on if the read has no effect at the keys
  none_back : ((key : ℕ) → keys key ≡ true → IsNoEffect ((rest_of w b).effect key)) → GoesOn v more → GoesOn w more
  none_back none some =
      goes_back some (λ key. none_moved key (given_back w b) some.1.0 (w.holds key) (λ x x_in. each x key x_in (bool_cases (keys key)))
      (subst (λ (u : Option ℕ). FitInTurn key u some.1.0) (at.taken.holds key) (some.1.1.fit key)))
    where
      each : (x : KeyedCall) (key : ℕ) → Contains some.1.0 x → (keys key ≡ true) ⊎ (keys key ≡ false)
          → ((given_back w b x).effect key ≡ x.effect key) ⊎ (IsNoEffect (x.effect key) × IsNoEffect ((given_back w b x).effect key))
      each x key x_in (inr out) = inl (same_out some.1.0 some.1.1 key out x x_in)
      each x key x_in (inl here) = by_name (bool_cases (x.inv == b.inv))
        where
          by_name : ((x.inv == b.inv) ≡ true) ⊎ ((x.inv == b.inv) ≡ false)
              → ((given_back w b x).effect key ≡ x.effect key) ⊎ (IsNoEffect (x.effect key) × IsNoEffect ((given_back w b x).effect key))
          by_name (inr other) = inl (rw other refl)
          by_name (inl named) = inr (
            subst (λ (z : KeyedCall). IsNoEffect (z.effect key)) (the_read some.1.0 some.1.1 x x_in named) (masked_none key here),
            rw named (none key here),
          )

  module _ (rests : (d : KeyedCall) (key : ℕ) → Contains more d → keys key ≡ true → precedes b d ≡ false → IsQuiet (rest_of v d) key)
      (order front back : List KeyedCall) (is : IsKeyedOrder v.holds (map (rest_of v) more) order) (parts : order ≡ front ++ rest_of v b ∷ back) where
    unnamed : (x : KeyedCall) (key : ℕ) → x.inv ≢ b.inv → (given_back w b x).effect key ≡ x.effect key
    unnamed x key other = by_name (bool_cases (x.inv == b.inv))
      where
        by_name : ((x.inv == b.inv) ≡ true) ⊎ ((x.inv == b.inv) ≡ false) → (given_back w b x).effect key ≡ x.effect key
        by_name (inl named) = absurd (other (eqb-true x.inv b.inv named))
        by_name (inr not_so) = rw not_so refl

    first_other : (x : KeyedCall) → Contains front x → (x.inv ≢ b.inv) × (precedes b x ≡ false)
    first_other x x_in = (
      All-contains (λ y. x.inv ≢ y.inv) (rest_of v b ∷ back) (rest_of v b)
          (All-contains (λ z. All (λ y. z.inv ≢ y.inv) (rest_of v b ∷ back)) front x
          (AllPairs-across (λ z y. z.inv ≢ y.inv) front (rest_of v b ∷ back)
          (subst (λ (xs : List KeyedCall). AreDistinct xs) parts is.distinct)) x_in)
          (Contains-first (rest_of v b) back),
      All-contains (λ y. precedes y x ≡ false) (rest_of v b ∷ back) (rest_of v b)
          (All-contains (λ z. All (λ y. precedes y z ≡ false) (rest_of v b ∷ back)) front x
          (AllPairs-across (λ z y. precedes y z ≡ false) front (rest_of v b ∷ back)
          (subst (λ (xs : List KeyedCall). KeepPrecedence xs) parts is.precedence)) x_in)
          (Contains-first (rest_of v b) back),
    )

    last_other : (x : KeyedCall) → Contains back x → x.inv ≢ b.inv
    last_other x x_in same =
        All-contains (λ y. b.inv ≢ y.inv) back x (AllPairs-head (λ z y. z.inv ≢ y.inv) (rest_of v b) back
        (AllPairs-back (λ z y. z.inv ≢ y.inv) front (rest_of v b ∷ back) (subst (λ (xs : List KeyedCall). AreDistinct xs) parts is.distinct)))
        x_in (sym same)

    itself : (key : ℕ) → (given_back w b (rest_of v b)).effect key ≡ (rest_of w b).effect key
    itself key = rw (eq-eqb b.inv b.inv refl) refl

    at_key : (key : ℕ) → (keys key ≡ true) ⊎ (keys key ≡ false) → FitInTurn key (w.holds key) order
        → FitInTurn key (w.holds key) (map (given_back w b) order)
    at_key key (inl here) fit =
        subst (λ (xs : List KeyedCall). FitInTurn key (w.holds key) (map (given_back w b) xs)) (sym parts)
        (given_fit key (given_back w b) (rest_of v b) back front (w.holds key)
        (λ x x_in.
        let (other, sooner) = first_other x x_in in
        let in_order : Contains order x = subst (λ (xs : List KeyedCall). Contains xs x) (sym parts)
        (in_front x x_in) in
        let (d, d_in, d_is) = Contains-from_map (rest_of v) more x (is.known x in_order) in (
          subst (λ (z : KeyedCall). IsQuiet z key) d_is
              (rests d key d_in here (subst (λ (z : KeyedCall). precedes b z ≡ false) (sym d_is) sooner)),
          unnamed x key other,
        ))
        (λ x x_in. unnamed x key (last_other x x_in))
        (masked_none key here)
        (λ value fits. given_quiet value fits)
        (subst (λ (e : Effect). e.fits (w.holds key) ≡ true) (sym (itself key)) (at.fits key here))
        (subst (λ (xs : List KeyedCall). FitInTurn key (w.holds key) xs) parts fit))
      where
        in_front : (x : KeyedCall) → Contains front x → Contains (front ++ rest_of v b ∷ back) x
        in_front x x_in = Contains-append_left front (rest_of v b ∷ back) x x_in

        given_quiet : IsQuiet (given_back w b (rest_of v b)) key
        given_quiet = subst (λ (e : Effect). (value : Option ℕ) → e.fits value ≡ true → e.leaves value ≡ value) (sym (itself key)) (at.quiet key here)
    at_key key (inr out) fit =
        none_moved key (given_back w b) order (w.holds key) (λ x x_in. inl (same_out order is key out x x_in)) fit

  read_back : ((d : KeyedCall) (key : ℕ) → Contains more d → keys key ≡ true → precedes b d ≡ false → IsQuiet (rest_of v d) key)
      → GoesOn v more → GoesOn w more
  read_back rests some =
      let order = some.1.0 in
      let is : IsKeyedOrder v.holds (map (rest_of v) more) order = some.1.1 in
      let in_order : Contains order (rest_of v b) = is.complete (rest_of v b) (Contains-map (rest_of v) more b at.b_in) at.completed in
      let (front, back, parts) = Contains-split order (rest_of v b) in_order in
      goes_back some (λ key. at_key rests order front back is parts key (bool_cases (keys key))
      (subst (λ (u : Option ℕ). FitInTurn key u order) (at.taken.holds key) (is.fit key)))

-- ---- keys at rest

-- what is quiet stays so if more is taken, or if it was pending and is answered
quiet_on : (t s : Bool) (e f : Effect) → (t ≡ true → s ≡ true) → (e ≡ f) ⊎ (((value : Option ℕ) → e.fits value ≡ true) × LeaveTheSame e f)
    → ((value : Option ℕ) → (cond t no_effect e).fits value ≡ true → (cond t no_effect e).leaves value ≡ value)
    → (value : Option ℕ) → (cond s no_effect f).fits value ≡ true → (cond s no_effect f).leaves value ≡ value
quiet_on t true e f still same quiet value fits = refl
quiet_on true false e f still same quiet value fits = let never : false ≡ true = still refl in cc
quiet_on false false e f still same quiet value fits =
    ⊎_elim
    (λ one. subst (λ (g : Effect). (u : Option ℕ) → g.fits u ≡ true → g.leaves u ≡ u) one quiet value fits)
    (λ later. later.1 value ∙ quiet value (later.0 value))
    same

none_quiet : (e : Effect) → IsNoEffect e → (value : Option ℕ) → e.fits value ≡ true → e.leaves value ≡ value
none_quiet e none value fits = none.leaves value

-- if keys are at rest, all that the read does not precede is quiet there
at_rest : (place : ℕ) (calls more : List KeyedCall) (keys : Keys) (past next v : Choice) (b : KeyedCall) → HaveGrown place calls more
    → Contains calls b → is_completed b ≡ true → IsAtRest keys past calls b → IsAfterCall keys past b next → IsAt keys next v
    → (d : KeyedCall) (key : ℕ) → Contains more d → concerned keys b key ≡ true → precedes b d ≡ false → IsQuiet (rest_of v d) key
at_rest place calls more keys past next v b grown b_in completed rest after same d key d_in here sooner =
    let (is, concerns) = and_parts (keys key) (b.concerns key) here in
    ⊎_elim
    (λ old.
    let (a, a_in, later) = old in
    ⊎_elim
    (λ quiet. by_answer is a later quiet)
    (λ before.
    let also : precedes b d ≡ true = subst (λ (n : ℕ). ends_before b.res n ≡ true) (sym later.inv) before in
    let never : precedes b d ≡ false = sooner in cc)
    (rest a key a_in is concerns))
    (λ new.
    let (at, at_is) = response_of b completed in
    let less : at < place = grown.ended b at b_in at_is in
    let also : precedes b d ≡ true = ends_at b.res at d.inv at_is (omega (arith, less, new)) in
    let never : precedes b d ≡ false = sooner in cc)
    (grown.come d d_in)
  where
    still : keys key ≡ true → (a : KeyedCall) → d.inv ≡ a.inv → past.taken a.inv key ≡ true → v.taken d.inv key ≡ true
    still is a named taken =
        let before : past.taken d.inv key ≡ true = subst (λ (n : ℕ). past.taken n key ≡ true) (sym named) taken in
        same.taken d.inv key is ∙ after.taken d.inv key is ∙ ap (λ (t : Bool). t || ((d.inv == b.inv) && b.concerns key)) before

    by_answer : keys key ≡ true → (a : KeyedCall) → IsLater place a d → IsQuiet (rest_of past a) key → IsQuiet (rest_of v d) key
    by_answer is a later quiet =
        ⊎_elim
        (λ one. quiet_on (past.taken a.inv key) (v.taken d.inv key) (a.effect key) (d.effect key) (still is a later.inv)
        (inl (ap (λ (z : KeyedCall). z.effect key) (sym one))) quiet)
        (λ answered. by_refusal answered (bool_cases d.refused))
        later.response
      where
        by_refusal : IsAnsweredAs place a d → (d.refused ≡ true) ⊎ (d.refused ≡ false) → IsQuiet (rest_of v d) key
        by_refusal answered (inl refused) =
            none_quiet ((rest_of v d).effect key) (refused_none v d (All-contains IsFormed more d grown.formed d_in) refused key)
        by_refusal answered (inr accepted) =
            quiet_on (past.taken a.inv key) (v.taken d.inv key) (a.effect key) (d.effect key) (still is a later.inv)
            (inr (answered.fits key, answered.does accepted key)) quiet

apart_others : (keys : Keys) → AreApart keys (other_keys keys)
apart_others keys key is = rw is refl

or_false : (t c : Bool) → c ≡ false → (t || c) ≡ t
or_false true c is = refl
or_false false c is = is

-- a choice that is the next one at some keys, and has taken nothing of the read, is the past there
at_untaken : (keys : Keys) (past next : Choice) (b : KeyedCall) (v : Choice) → IsAfterCall keys past b next → IsReadAt keys past b
    → ((key : ℕ) → keys key ≡ true → ((rest_of past b).effect key).fits (past.holds key) ≡ true) → IsAt keys next v
    → ((key : ℕ) → v.taken b.inv key ≡ true → ⊥) → IsAt keys past v
at_untaken keys past next b v after read fits second never = record {
  taken = λ inv key is.
      second.taken inv key is ∙ after.taken inv key is ∙ still inv key is (bool_cases ((inv == b.inv) && b.concerns key));
  found = λ inv key is taken.
      let next_taken : next.taken inv key ≡ true =
      after.taken inv key is ∙ or_left (past.taken inv key) ((inv == b.inv) && b.concerns key) taken in
      second.found inv key is next_taken ∙ after.found_before inv key is taken;
  holds = λ key is. second.holds key is ∙ after.holds key is ∙ read key is (past.holds key) (fits key is);
}
  where
    still : (inv key : ℕ) → keys key ≡ true → ((inv == b.inv) && b.concerns key) ≡ true ⊎ (((inv == b.inv) && b.concerns key) ≡ false)
        → (past.taken inv key || ((inv == b.inv) && b.concerns key)) ≡ past.taken inv key
    still inv key is (inl some) =
        let named : inv ≡ b.inv = eqb-true inv b.inv (and_parts (inv == b.inv) (b.concerns key) some).0 in
        let taken : v.taken inv key ≡ true =
        second.taken inv key is ∙ after.taken inv key is ∙ or_right (past.taken inv key) ((inv == b.inv) && b.concerns key) some in
        absurd (never key (subst (λ (n : ℕ). v.taken n key ≡ true) named taken))
    still inv key is (inr none) = or_false (past.taken inv key) ((inv == b.inv) && b.concerns key) none

-- a read is taken at keys, if each choice that has it goes on as the one that leaves it
read_taken : (held : ℕ → Option ℕ) (place : ℕ) (calls : List KeyedCall) (keys : Keys) (past next : Choice) (others : List Choice) (rest : List Part)
    (b : KeyedCall) → Contains calls b → is_completed b ≡ true → b.refused ≡ false → IsReadAt keys past b
    → ((key : ℕ) → keys key ≡ true → ((rest_of past b).effect key).fits (past.holds key) ≡ true) → IsAfterCall keys past b next
    → ((w v : Choice) (few more : List KeyedCall) → ((a : KeyedCall) → Contains few a → Contains calls a) → Contains few b
    → HaveGrown place few more → IsAt keys past w → IsAt keys next v → AtRead (concerned keys b) more w v b → GoesOn v more → GoesOn w more)
    → Represent held place calls (record { keys = keys; pasts = past ∷ others } ∷ rest)
    → Represent held place calls (record { keys = keys; pasts = next ∷ others } ∷ rest)
read_taken held place calls keys past next others rest b b_in completed accepted read fits after given stand =
    part_steps held place calls keys (past ∷ others) (next ∷ others) rest
    (read_comes place calls keys past next others rest b b_in completed accepted read fits after stand.shared) back stand
  where
    at_read : (w v : Choice) (few more : List KeyedCall) → Contains few b → HaveGrown place few more → IsAt keys past w → IsAt keys next v
        → IsAt (other_keys keys) w v → AtRead (concerned keys b) more w v b
    at_read w v few more in_few grown first second same = record {
      b_in = in_more;
      apart = grown.apart;
      completed = completed;
      taken = at_taken keys past next b w v after read fits first second same;
      quiet = λ key here.
          read_quiet keys place few more past next w b first grown in_more accepted read fits after key
          (and_parts (keys key) (b.concerns key) here).0;
      fits = λ key here.
          read_fits keys place few more past next w b first grown in_more accepted read fits after key
          (and_parts (keys key) (b.concerns key) here).0;
    }
      where
        in_more : Contains more b
        in_more = completed_stays place few more b grown in_few completed

    back : (v : Choice) (few more : List KeyedCall) → choices_of (record { keys = keys; pasts = next ∷ others } ∷ rest) v → AreDistinct calls
        → AreSomeOf v calls few → HaveGrown place few more → GoesOn v more
        → SomeGoesOn (λ w. choices_of (record { keys = keys; pasts = past ∷ others } ∷ rest) w × TakesNoMore v w) more
    back v few more v_is alone are grown goes_on =
        let (p, p_in, same) = All-head (λ part. IsOneOf part.keys part.pasts v) (record { keys = keys; pasts = next ∷ others }) rest v_is in
        ⊎_elim
        (λ one.
        let second : IsAt keys next v = subst (λ (z : Choice). IsAt keys z v) (sym one) same in
        by_name second (bool_cases (has_call few b.inv)))
        (λ later. (
          v,
          (with_other keys (next ∷ others) (past ∷ others) rest v p v_is (Contains-later past others p later) same, λ inv key taken. taken),
          goes_on,
        ))
        (Contains-cases next others p p_in)
      where
        by_name : IsAt keys next v → (has_call few b.inv ≡ true) ⊎ (has_call few b.inv ≡ false)
            → SomeGoesOn (λ w. choices_of (record { keys = keys; pasts = past ∷ others } ∷ rest) w × TakesNoMore v w) more
        by_name second (inl named) =
            let (c, c_in, c_is) = from_named few b.inv named in
            let in_few : Contains few b = subst (Contains few) (same_call calls c b alone (are.from c c_in) b_in c_is) c_in in (
              instead keys past v,
              (
                with_instead keys (next ∷ others) (past ∷ others) rest past v
                    (keys_shared keys (past ∷ others) (next ∷ others) rest stand.shared) (Contains-first past others) v_is,
                takes_less keys keys past b next v (λ key is. is) after second,
              ),
              given (instead keys past v) v few more are.from in_few grown (instead_here keys past v) second
                  (at_read (instead keys past v) v few more in_few grown (instead_here keys past v) second
                  (at_back (other_keys keys) v (instead keys past v) (instead_there keys (other_keys keys) past v (apart_others keys))))
                  goes_on,
            )
        by_name second (inr unnamed) = (
          v,
          (
            with_other keys (next ∷ others) (past ∷ others) rest v past v_is (Contains-first past others)
                (at_untaken keys past next b v after read fits second (λ key taken.
                let named : has_call few b.inv ≡ true = named_in few b (are.taken b key b_in taken) in
                let never : has_call few b.inv ≡ false = unnamed in cc)),
            λ inv key taken. taken,
          ),
          goes_on,
        )

pub reads_at_rest : ReadsAreTakenAtRest
reads_at_rest held place calls keys past next others rest b b_in completed accepted read fits quiet after =
    read_taken held place calls keys past next others rest b b_in completed accepted read fits after
    (λ w v few more among in_few grown first second at.
    read_back (concerned keys b) more w v b at (at_rest place few more keys past next v b grown in_few completed
    (λ a key a_in is concerns. quiet a key (among a a_in) is concerns) after second))

-- a call that has no effect at the keys is a read there, and gains and loses nothing as it is taken
pub calls_without_effect : CallsWithoutEffectAreTaken
calls_without_effect held place calls keys past next others rest b b_in completed accepted none after =
    read_taken held place calls keys past next others rest b b_in completed accepted
    (λ key is value fit. (none key is).leaves value) (λ key is. (none key is).fits (past.holds key)) after
    (λ w v few more among in_few grown first second at.
    none_back (concerned keys b) more w v b at (λ key here.
    let is : keys key ≡ true = (and_parts (keys key) (b.concerns key) here).0 in
    subst (λ (t : Bool). IsNoEffect (cond t no_effect (b.effect key))) (sym (first.taken b.inv key is)) (none key is)))

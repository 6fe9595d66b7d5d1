-- What is left at two sets of keys: at both together, and at one of them. `alike_moved`: an operation that is alike to what is left of a call at
-- some keys is so at others.
use Rattle.follow_laws.proofs.Common.{◌≡◌, ℕ, ◌==◌, ◌<◌, Bool, true, false, not, ◌&&◌, ◌||◌, cond, List, [], ◌∷◌, Option, Some, None, inl, inr, refl}
use Rattle.follow_laws.proofs.Common.{sym, ap, ◌∙◌, subst, ⊎_elim, arith, ◌⊎◌, All, AllPairs, Contains, and_parts, eqb-true, All-contains}
use Rattle.follow_laws.proofs.Common.{AllPairs-filter, AllPairs-head, AllPairs-tail, All-from_contains, Contains-nil, Contains-cases, Operation}
use Rattle.follow_laws.proofs.Common.{Contents, value_at, KeyedCall, Effect, IsNoEffect, no_effect, concerns_key, keyed, HasForm, Choice, rest_of}
use Rattle.follow_laws.proofs.Common.{Keys, AreApart, IsAlikeAt, IsAt, AgreesAt, left_at, IsLeftAt, IsLeft, HasKeysIn, HaveTheirKeys, AreTogether}
use Rattle.follow_laws.proofs.Common.{pairs_at, LeftCallsUnite, LeftCallsPart}
use Rattle.follow_laws.proofs.DeadLemmas.{bool_cases}
use Rattle.follow_laws.proofs.GrowLemmas.{formed}
use Rattle.follow_laws.proofs.PartLemmas.{none_left_out, or_cases}

-- ---- one operation

-- at other keys than its own it has no effect
pub outside : (keys : Keys) (o : Operation) → HasKeysIn keys o → (key : ℕ) → keys key ≡ false → IsNoEffect ((keyed o).effect key)
outside keys o inside key out = (formed o).elsewhere key (by_concern (bool_cases (concerns_key o.call key)))
  where
    by_concern : (concerns_key o.call key ≡ true) ⊎ (concerns_key o.call key ≡ false) → concerns_key o.call key ≡ false
    by_concern (inl concerned) = let never : keys key ≡ true = inside key concerned in cc
    by_concern (inr not_so) = not_so

-- among operations with rising names, only one has a name
one_of_name : (all : List Operation) (o q : Operation) → AllPairs (λ x y. x.inv < y.inv) all → Contains all o → Contains all q → o.inv ≡ q.inv
    → o ≡ q
one_of_name [] o q rising o_in q_in same = absurd (Contains-nil o o_in)
one_of_name (x ∷ all) o q rising o_in q_in same =
    ⊎_elim
    (λ first. ⊎_elim
    (λ second. sym first ∙ second)
    (λ later. absurd (differs q later (ap (λ (z : Operation). z.inv) first ∙ same)))
    (Contains-cases x all q q_in))
    (λ later. ⊎_elim
    (λ second. absurd (differs o later (ap (λ (z : Operation). z.inv) second ∙ sym same)))
    (λ also. one_of_name all o q (AllPairs-tail (λ y z. y.inv < z.inv) x all rising) later also same)
    (Contains-cases x all q q_in))
    (Contains-cases x all o o_in)
  where
    differs : (y : Operation) → Contains all y → x.inv ≡ y.inv → ⊥
    differs y y_in equal =
        let less : x.inv < y.inv = All-contains (λ z. x.inv < z.inv) all y (AllPairs-head (λ z u. z.inv < u.inv) x all rising) y_in in
        omega (arith, less, equal)

effect_here : (s t k l : Bool) (e : Effect) → s ≡ true → t ≡ true → k ≡ l
    → cond s (cond k no_effect e) no_effect ≡ cond t (cond l no_effect e) no_effect
effect_here s t k l e is also same = rw is (rw also (ap (λ (b : Bool). cond b no_effect e) same))

-- an operation has no effect if what is left of its call has none
no_effect_back : (keys : Keys) (past : Choice) (a : KeyedCall) (o : Operation) → IsAlikeAt keys (left_at keys past a) (keyed o) → (key : ℕ)
    → keys key ≡ true → IsNoEffect ((keyed o).effect key) → IsNoEffect ((rest_of past a).effect key)
no_effect_back keys past a o alike key is none = record {
  fits = λ value. sym (subst (λ (b : Bool). ((keyed o).effect key).fits value ≡ (cond b ((rest_of past a).effect key) no_effect).fits value) is
      (alike.fits key value is)) ∙ none.fits value;
  leaves = λ value. sym (subst (λ (b : Bool). ((keyed o).effect key).leaves value ≡ (cond b ((rest_of past a).effect key) no_effect).leaves value) is
      (alike.leaves key value is)) ∙ none.leaves value;
}

-- at other keys it is like the same call, if these are some of the keys with the same taken, or neither has an effect
alike_moved : (keys others : Keys) (past w : Choice) (a : KeyedCall) (o : Operation) → HasKeysIn others o
    → ((key : ℕ) → others key ≡ true → ((keys key ≡ true) × (w.taken a.inv key ≡ past.taken a.inv key))
    ⊎ (IsNoEffect ((keyed o).effect key) × IsNoEffect ((rest_of w a).effect key)))
    → IsAlikeAt keys (left_at keys past a) (keyed o) → IsAlikeAt others (left_at others w a) (keyed o)
alike_moved keys others past w a o inside each alike = record {
  inv = alike.inv;
  res = alike.res;
  fits = λ key value is.
      ⊎_elim
      (λ here. alike.fits key value here.0 ∙ ap (λ (e : Effect). e.fits value) (same key is here.0 here.1))
      (λ none. none.0.fits value ∙ sym ((hidden key is none.1).fits value))
      (each key is);
  leaves = λ key value is.
      ⊎_elim
      (λ here. alike.leaves key value here.0 ∙ ap (λ (e : Effect). e.leaves value) (same key is here.0 here.1))
      (λ none. none.0.leaves value ∙ sym ((hidden key is none.1).leaves value))
      (each key is);
  none = none_left_out others w a;
  fits_none = λ key out. (outside others o inside key out).fits None;
  leaves_none = λ key out. (outside others o inside key out).leaves None;
}
  where
    same : (key : ℕ) → others key ≡ true → keys key ≡ true → w.taken a.inv key ≡ past.taken a.inv key
        → (left_at keys past a).effect key ≡ (left_at others w a).effect key
    same key is here taken =
        effect_here (keys key) (others key) (past.taken a.inv key) (w.taken a.inv key) (a.effect key) here is (sym taken)

    hidden : (key : ℕ) → others key ≡ true → IsNoEffect ((rest_of w a).effect key) → IsNoEffect ((left_at others w a).effect key)
    hidden key is none = rw is none

-- ---- both together

-- an operation of one set is like its call at both, if all that is left of the call at the other is the same operation, or nothing
alike_joined : (keys others both : Keys) (past other w : Choice) (other_left all : List Operation) (a : KeyedCall) (o : Operation)
    → ((key : ℕ) → both key ≡ true → (keys key ≡ true) ⊎ (others key ≡ true)) → ((key : ℕ) → keys key ≡ true → both key ≡ true)
    → IsAt keys past w → IsAt others other w → HasKeysIn keys o → AllPairs (λ x y. x.inv < y.inv) all → Contains all o
    → ((q : Operation) → Contains other_left q → Contains all q)
    → ((key : ℕ) → IsNoEffect ((left_at others other a).effect key))
    ⊎ ((q : Operation) × Contains other_left q × IsAlikeAt others (left_at others other a) (keyed q))
    → IsAlikeAt keys (left_at keys past a) (keyed o) → IsAlikeAt both (left_at both w a) (keyed o)
alike_joined keys others both past other w other_left all a o side in_both here there inside rising o_in among others_are alike =
    alike_moved keys both past w a o (λ key concerned. in_both key (inside key concerned)) (λ key is. by_key key is (bool_cases (keys key))) alike
  where
    from_others : (key : ℕ) → others key ≡ true → IsNoEffect ((rest_of other a).effect key) → IsNoEffect ((rest_of w a).effect key)
    from_others key is none = subst (λ (t : Bool). IsNoEffect (cond t no_effect (a.effect key))) (sym (there.taken a.inv key is)) none

    no_other : (key : ℕ) → keys key ≡ false → others key ≡ true → IsNoEffect ((rest_of other a).effect key)
    no_other key out is =
        ⊎_elim
        (λ none. subst (λ (b : Bool). IsNoEffect (cond b ((rest_of other a).effect key) no_effect)) is (none key))
        (λ some.
        let one : some.0 ≡ o = one_of_name all some.0 o rising (among some.0 some.1) o_in (some.2.inv ∙ sym alike.inv) in
        no_effect_back others other a o
        (subst (λ (q : Operation). IsAlikeAt others (left_at others other a) (keyed q)) one some.2) key is (outside keys o inside key out))
        others_are

    not_both : (b : Bool) → b ≡ true → b ≡ false → ⊥
    not_both b is out = cc

    by_key : (key : ℕ) → both key ≡ true → (keys key ≡ true) ⊎ (keys key ≡ false)
        → ((keys key ≡ true) × (w.taken a.inv key ≡ past.taken a.inv key))
        ⊎ (IsNoEffect ((keyed o).effect key) × IsNoEffect ((rest_of w a).effect key))
    by_key key is (inl first) = inl (first, here.taken a.inv key first)
    by_key key is (inr out) =
        let second : others key ≡ true = ⊎_elim (λ first. absurd (not_both (keys key) first out)) (λ second. second) (side key is) in
        inr (outside keys o inside key out, from_others key second (no_other key out second))

or_first : (b c : Bool) → b ≡ true → (b || c) ≡ true
or_first b c is = rw is refl

or_second : (b c : Bool) → c ≡ true → (b || c) ≡ true
or_second true c is = refl
or_second false c is = is

or_none : (b c : Bool) → (b || c) ≡ false → (b ≡ false) × (c ≡ false)
or_none true c is = cc
or_none false c is = (refl, is)

module _ (keys others : Keys) (past other w : Choice) (limit : ℕ) (calls : List KeyedCall) (pairs other_pairs both : Contents)
    (left other_left all : List Operation) (here : IsAt keys past w) (there : IsAt others other w) (inside : All (HasKeysIn keys) left)
    (other_inside : All (HasKeysIn others) other_left) (together : AreTogether keys pairs other_pairs both left other_left all)
    (first : IsLeft keys past limit calls pairs left) (second : IsLeft others other limit calls other_pairs other_left) where
  abbrev wide : Keys
  wide key = keys key || others key

  abbrev Shown : KeyedCall → Type 0
  Shown a = (o : Operation) × Contains all o × IsAlikeAt wide (left_at wide w a) (keyed o)

  of_first : (a : KeyedCall) (o : Operation) → Contains calls a → Contains left o → IsAlikeAt keys (left_at keys past a) (keyed o)
      → IsAlikeAt wide (left_at wide w a) (keyed o)
  of_first a o a_in o_in alike =
      alike_joined keys others wide past other w other_left all a o (λ key is. or_cases (keys key) (others key) is)
      (λ key is. or_first (keys key) (others key) is) here there (All-contains (HasKeysIn keys) left o inside o_in) together.rising
      (together.first o o_in) together.second (second.alike.there a a_in) alike

  swapped : (b c : Bool) → (b || c) ≡ true → (c ≡ true) ⊎ (b ≡ true)
  swapped b c is = ⊎_elim (λ e. inr e) (λ e. inl e) (or_cases b c is)

  of_second : (a : KeyedCall) (o : Operation) → Contains calls a → Contains other_left o → IsAlikeAt others (left_at others other a) (keyed o)
      → IsAlikeAt wide (left_at wide w a) (keyed o)
  of_second a o a_in o_in alike =
      alike_joined others keys wide other past w left all a o (λ key is. swapped (keys key) (others key) is)
      (λ key is. or_second (keys key) (others key) is) there here (All-contains (HasKeysIn others) other_left o other_inside o_in) together.rising
      (together.second o o_in) together.first (first.alike.there a a_in) alike

  -- what is left at neither set is not left at both
  none_wide : (a : KeyedCall) → ((key : ℕ) → IsNoEffect ((left_at keys past a).effect key))
      → ((key : ℕ) → IsNoEffect ((left_at others other a).effect key)) → (key : ℕ) → IsNoEffect ((left_at wide w a).effect key)
  none_wide a none other_none key = by_key (bool_cases (keys key || others key))
    where
      by_key : (wide key ≡ true) ⊎ (wide key ≡ false) → IsNoEffect ((left_at wide w a).effect key)
      by_key (inr out) = none_left_out wide w a key out
      by_key (inl is) =
          ⊎_elim
          (λ e. subst (λ (x : Effect). IsNoEffect x)
          (effect_here (keys key) (wide key) (past.taken a.inv key) (w.taken a.inv key) (a.effect key) e is (sym (here.taken a.inv key e)))
          (none key))
          (λ e. subst (λ (x : Effect). IsNoEffect x)
          (effect_here (others key) (wide key) (other.taken a.inv key) (w.taken a.inv key) (a.effect key) e is (sym (there.taken a.inv key e)))
          (other_none key))
          (or_cases (keys key) (others key) is)

  value_wide : (key : ℕ) → wide key ≡ true → value_at both key ≡ w.holds key
  value_wide key is = together.values key ∙ by_key (bool_cases (keys key)) (or_cases (keys key) (others key) is)
    where
      by_key : (keys key ≡ true) ⊎ (keys key ≡ false) → (keys key ≡ true) ⊎ (others key ≡ true)
          → cond (keys key) (value_at pairs key) (value_at other_pairs key) ≡ w.holds key
      by_key (inl e) some = rw e (first.alike.same key e ∙ sym (here.holds key e))
      by_key (inr out) (inl e) = cc
      by_key (inr out) (inr e) = rw out (second.alike.same key e ∙ sym (there.holds key e))

  nothing_wide : (key : ℕ) → wide key ≡ false → value_at both key ≡ None
  nothing_wide key out =
      let (first_out, second_out) = or_none (keys key) (others key) out in
      together.values key ∙ ap (λ (b : Bool). cond b (value_at pairs key) (value_at other_pairs key)) first_out ∙ second.alike.nothing key second_out

  there_wide : (a : KeyedCall) → Contains calls a → ((key : ℕ) → IsNoEffect ((left_at keys past a).effect key))
      ⊎ ((o : Operation) × Contains left o × IsAlikeAt keys (left_at keys past a) (keyed o))
      → ((key : ℕ) → IsNoEffect ((left_at others other a).effect key))
      ⊎ ((o : Operation) × Contains other_left o × IsAlikeAt others (left_at others other a) (keyed o))
      → ((key : ℕ) → IsNoEffect ((left_at wide w a).effect key)) ⊎ Shown a
  there_wide a a_in (inl none) (inl other_none) = inl (none_wide a none other_none)
  there_wide a a_in (inr (o, o_in, alike)) other_there = inr (o, together.first o o_in, of_first a o a_in o_in alike)
  there_wide a a_in (inl none) (inr (o, o_in, alike)) = inr (o, together.second o o_in, of_second a o a_in o_in alike)

  left_wide : (a : KeyedCall) → IsLeftAt keys past a → IsLeftAt wide w a
  left_wide a (key, is, some) = (
    key,
    or_first (keys key) (others key) is,
    subst (λ (t : Bool). (not t && a.concerns key) ≡ true) (sym (here.taken a.inv key is)) some,
  )

  other_left_wide : (a : KeyedCall) → IsLeftAt others other a → IsLeftAt wide w a
  other_left_wide a (key, is, some) = (
    key,
    or_second (keys key) (others key) is,
    subst (λ (t : Bool). (not t && a.concerns key) ≡ true) (sym (there.taken a.inv key is)) some,
  )

  whole_wide : (a : KeyedCall) → Contains calls a → a.inv < limit → a.refused ≡ false → IsLeftAt wide w a → Shown a
  whole_wide a a_in early accepted (key, is, some) =
      ⊎_elim
      (λ e.
      let (o, o_in, alike) = first.whole a a_in early accepted
      (key, e, subst (λ (t : Bool). (not t && a.concerns key) ≡ true) (here.taken a.inv key e) some) in
      (o, together.first o o_in, of_first a o a_in o_in alike))
      (λ e.
      let (o, o_in, alike) = second.whole a a_in early accepted
      (key, e, subst (λ (t : Bool). (not t && a.concerns key) ≡ true) (there.taken a.inv key e) some) in
      (o, together.second o o_in, of_second a o a_in o_in alike))
      (or_cases (keys key) (others key) is)

  agrees_from : (some : Keys) (u : Choice) (a : KeyedCall) → IsAt some u w → AgreesAt some u a → (key : ℕ) → some key ≡ true
      → w.taken a.inv key ≡ true → (a.refused ≡ false) × ((a.effect key).fits (w.found a.inv key) ≡ true)
  agrees_from some u a same agrees key is taken =
      let before : u.taken a.inv key ≡ true = sym (same.taken a.inv key is) ∙ taken in (
        agrees.accepted key is before,
        subst (λ (v : Option ℕ). (a.effect key).fits v ≡ true) (sym (same.found a.inv key is before)) (agrees.fits key is before),
      )

  agrees_wide : (a : KeyedCall) → Contains calls a → (key : ℕ) → wide key ≡ true → w.taken a.inv key ≡ true
      → (a.refused ≡ false) × ((a.effect key).fits (w.found a.inv key) ≡ true)
  agrees_wide a a_in key is taken =
      ⊎_elim
      (λ e. agrees_from keys past a here (All-contains (AgreesAt keys past) calls a first.agrees a_in) key e taken)
      (λ e. agrees_from others other a there (All-contains (AgreesAt others other) calls a second.agrees a_in) key e taken)
      (or_cases (keys key) (others key) is)

  unite : IsLeft wide w limit calls both all
  unite = record {
    alike = record {
      rises = together.rises;
      same = value_wide;
      nothing = nothing_wide;
      rising = together.rising;
      forms = All-from_contains (λ o. HasForm o.call o.response) all (λ o o_in.
          ⊎_elim (λ l. All-contains (λ p. HasForm p.call p.response) left o first.alike.forms l)
          (λ r. All-contains (λ p. HasForm p.call p.response) other_left o second.alike.forms r) (together.from o o_in));
      there = λ a a_in. there_wide a a_in (first.alike.there a a_in) (second.alike.there a a_in);
      back = λ o o_in.
          ⊎_elim
          (λ l. let (a, a_in, alike) = first.alike.back o l in (a, a_in, of_first a o a_in l alike))
          (λ r. let (a, a_in, alike) = second.alike.back o r in (a, a_in, of_second a o a_in r alike))
          (together.from o o_in);
    };
    owned = λ o o_in.
        ⊎_elim
        (λ l. let (a, a_in, accepted, some, alike) = first.owned o l in (a, a_in, accepted, left_wide a some, of_first a o a_in l alike))
        (λ r. let (a, a_in, accepted, some, alike) = second.owned o r in (a, a_in, accepted, other_left_wide a some, of_second a o a_in r alike))
        (together.from o o_in);
    whole = whole_wide;
    agrees = All-from_contains (AgreesAt wide w) calls (λ a a_in. record {
      accepted = λ key is taken. (agrees_wide a a_in key is taken).0;
      fits = λ key is taken. (agrees_wide a a_in key is taken).1;
    });
  }

pub left_calls_unite : LeftCallsUnite
left_calls_unite keys others a b c limit calls pairs other_pairs both left other_left all here there inside other_inside together first second =
    unite keys others a b c limit calls pairs other_pairs both left other_left all here there inside other_inside together first second

-- ---- one of both

both_none : (b : Bool) (x y : Option ℕ) → b ≡ false → cond b x None ≡ cond b y None
both_none true x y is = cc
both_none false x y is = refl

either : (b : Bool) (x : Option ℕ) → x ≡ cond b x x
either true x = refl
either false x = refl

-- the pairs at some keys have the values there, and elsewhere none
value_at_some : (keys : Keys) (pairs : Contents) (key : ℕ) → value_at (pairs_at keys pairs) key ≡ cond (keys key) (value_at pairs key) None
value_at_some keys [] key = either (keys key) None
value_at_some keys ((k, v) ∷ m) key = by_test (keys k) (k == key) refl refl (value_at_some keys m key)
  where
    there : (b : Bool) → keys k ≡ b → (k == key) ≡ true → keys key ≡ b
    there b is named = subst (λ (n : ℕ). keys n ≡ b) (eqb-true k key named) is

    by_test : (b t : Bool) → keys k ≡ b → (k == key) ≡ t → value_at (pairs_at keys m) key ≡ cond (keys key) (value_at m key) None
        → value_at (cond b ((k, v) ∷ pairs_at keys m) (pairs_at keys m)) key ≡ cond (keys key) (cond (k == key) (Some v) (value_at m key)) None
    by_test true true is named rest = rw named (rw (there true is named) refl)
    by_test true false is named rest = rw named rest
    by_test false true is named rest =
        rest ∙ both_none (keys key) (value_at m key) (cond (k == key) (Some v) (value_at m key)) (there false is named)
    by_test false false is named rest = rw named rest

module _ (keys others : Keys) (past : Choice) (limit : ℕ) (calls : List KeyedCall) (pairs : Contents) (left some : List Operation)
    (apart : AreApart keys others) (rising : AllPairs (λ o p. o.inv < p.inv) some) (own : HaveTheirKeys calls left)
    (parted : (o : Operation) → Contains left o → (HasKeysIn keys o × Contains some o) ⊎ HasKeysIn others o)
    (among : (o : Operation) → Contains some o → HasKeysIn keys o × Contains left o)
    (is : IsLeft (λ key. keys key || others key) past limit calls pairs left) where
  abbrev all : Keys
  all key = keys key || others key

  in_all : (key : ℕ) → keys key ≡ true → all key ≡ true
  in_all key here = or_first (keys key) (others key) here

  alike_here : (a : KeyedCall) (o : Operation) → HasKeysIn keys o → IsAlikeAt all (left_at all past a) (keyed o)
      → IsAlikeAt keys (left_at keys past a) (keyed o)
  alike_here a o inside alike = alike_moved all keys past past a o inside (λ key here. inl (in_all key here, refl)) alike

  none_here : (a : KeyedCall) → ((key : ℕ) → keys key ≡ true → IsNoEffect ((rest_of past a).effect key)) → (key : ℕ)
      → IsNoEffect ((left_at keys past a).effect key)
  none_here a none key = by_key (bool_cases (keys key))
    where
      by_key : (keys key ≡ true) ⊎ (keys key ≡ false) → IsNoEffect ((left_at keys past a).effect key)
      by_key (inl here) = rw here (none key here)
      by_key (inr out) = none_left_out keys past a key out

  there_here : (a : KeyedCall) → ((key : ℕ) → IsNoEffect ((left_at all past a).effect key))
      ⊎ ((o : Operation) × Contains left o × IsAlikeAt all (left_at all past a) (keyed o))
      → ((key : ℕ) → IsNoEffect ((left_at keys past a).effect key))
      ⊎ ((o : Operation) × Contains some o × IsAlikeAt keys (left_at keys past a) (keyed o))
  there_here a (inl none) =
      inl (none_here a (λ key here.
      subst (λ (b : Bool). IsNoEffect (cond b ((rest_of past a).effect key) no_effect)) (in_all key here) (none key)))
  there_here a (inr (o, o_in, alike)) =
      ⊎_elim
      (λ one. inr (o, one.1, alike_here a o one.0 alike))
      (λ other. inl (none_here a (λ key here.
      no_effect_back all past a o alike key (in_all key here) (outside others o other key (apart key here)))))
      (parted o o_in)

  -- the keys of a call that is left are its operation's
  own_key : (a : KeyedCall) (o : Operation) (key : ℕ) → Contains calls a → Contains left o → IsAlikeAt all (left_at all past a) (keyed o)
      → (rest_of past a).concerns key ≡ true → concerns_key o.call key ≡ true
  own_key a o key a_in o_in alike concerned =
      own o a o_in a_in (sym alike.inv) key (and_parts (not (past.taken a.inv key)) (a.concerns key) concerned).1

  whole_here : (a : KeyedCall) → Contains calls a → a.inv < limit → a.refused ≡ false → IsLeftAt keys past a
      → (o : Operation) × Contains some o × IsAlikeAt keys (left_at keys past a) (keyed o)
  whole_here a a_in early accepted (key, here, concerned) =
      let (o, o_in, alike) = is.whole a a_in early accepted (key, in_all key here, concerned) in
      ⊎_elim
      (λ one. (o, one.1, alike_here a o one.0 alike))
      (λ other.
      let also : others key ≡ true = other key (own_key a o key a_in o_in alike concerned) in
      let never : others key ≡ false = apart key here in cc)
      (parted o o_in)

  part : IsLeft keys past limit calls (pairs_at keys pairs) some
  part = record {
    alike = record {
      rises = AllPairs-filter (λ p q. p.0 < q.0) (λ pair. keys pair.0) pairs is.alike.rises;
      same = λ key here.
          value_at_some keys pairs key ∙ ap (λ (b : Bool). cond b (value_at pairs key) None) here ∙ is.alike.same key (in_all key here);
      nothing = λ key out. value_at_some keys pairs key ∙ ap (λ (b : Bool). cond b (value_at pairs key) None) out;
      rising = rising;
      forms = All-from_contains (λ o. HasForm o.call o.response) some (λ o o_in.
          All-contains (λ p. HasForm p.call p.response) left o is.alike.forms (among o o_in).1);
      there = λ a a_in. there_here a (is.alike.there a a_in);
      back = λ o o_in.
          let (inside, o_left) = among o o_in in
          let (a, a_in, alike) = is.alike.back o o_left in
          (a, a_in, alike_here a o inside alike);
    };
    owned = λ o o_in.
        let (inside, o_left) = among o o_in in
        let (a, a_in, accepted, (key, wide, concerned), alike) = is.owned o o_left in
        (a, a_in, accepted, (key, inside key (own_key a o key a_in o_left alike concerned), concerned), alike_here a o inside alike);
    whole = whole_here;
    agrees = All-from_contains (AgreesAt keys past) calls (λ a a_in.
        let agrees = All-contains (AgreesAt all past) calls a is.agrees a_in in
        record {
          accepted = λ key here taken. agrees.accepted key (in_all key here) taken;
          fits = λ key here taken. agrees.fits key (in_all key here) taken;
        });
  }

pub left_calls_part : LeftCallsPart
left_calls_part keys others past limit calls pairs left some apart rising own parted among is =
    part keys others past limit calls pairs left some apart rising own parted among is

-- Choices at some keys. `at_self`, `at_back`, `at_next`: being the same at some keys is an equivalence. `at_fewer`, `at_both`: at fewer keys,
-- and at those of two sets. `instead`: a choice that is another at some keys. `goes_on_there`: if a choice goes on to an order, so does one
-- that is the same at some keys, at these keys. `same_goes_on`: what is the same at all keys goes on too. `keys_shared`, `with_past`,
-- `with_instead`, `with_other`: a part with other pasts. `stand_below`: choices that are reached are below the calls. `few_are`, `few_grown`:
-- the calls that some grew from. `part_steps`: parts represent the calls if one of them took a step.
use Rattle.follow_laws.proofs.Common.{◌≡◌, ℕ, ◌<◌, Bool, true, false, not, ◌||◌, ◌&&◌, cond, List, [], ◌∷◌, map, Option, inl, inr, refl, sym, ap, ◌∙◌}
use Rattle.follow_laws.proofs.Common.{subst, ⊎_elim, ◌≢◌, ◌⊎◌, Contains, filter, All-cons, All-tail, All-contains, AllPairs-cons, AllPairs-filter}
use Rattle.follow_laws.proofs.Common.{Contains-from_map, AllPairs-head, AllPairs-tail, All-from_contains, Contains-first, Contains-later}
use Rattle.follow_laws.proofs.Common.{Contains-cases, Contains-filter, Contains-from_filter, KeyedCall, Effect, no_effect, IsFormed, IsNoEffect}
use Rattle.follow_laws.proofs.Common.{precedes, AreDistinct, FitInTurn, HasKeyedOrder, HaveGrown, Choice, Agrees, rest_of, GoesOn, SomeGoesOn}
use Rattle.follow_laws.proofs.Common.{AddNoOrder, Keys, has_call, only, other_keys, AreApart, Part, IsAt, IsOneOf, choices_of, ShareKeys, AreSomeOf}
use Rattle.follow_laws.proofs.Common.{Represent, left_at, AgreesAt, GoesOnAt}
use Rattle.follow_laws.proofs.AfterLemmas.{named_in, from_named}
use Rattle.follow_laws.proofs.DeadLemmas.{bool_cases}
use Rattle.follow_laws.proofs.EffectRestLemmas.{none_none}
use Rattle.follow_laws.proofs.OrderLemmas.{same_call}
use mathlib.Core.Path.{fun_ext}
use Rattle.follow_laws.proofs.ApartLemmas.{some_refute}

-- ---- choices that are the same at some keys

pub at_self : (keys : Keys) (w : Choice) → IsAt keys w w
at_self keys w = record { taken = λ inv key is. refl; found = λ inv key is taken. refl; holds = λ key is. refl }

pub at_back : (keys : Keys) (past w : Choice) → IsAt keys past w → IsAt keys w past
at_back keys past w same = record {
  taken = λ inv key is. sym (same.taken inv key is);
  found = λ inv key is taken. sym (same.found inv key is (sym (same.taken inv key is) ∙ taken));
  holds = λ key is. sym (same.holds key is);
}

pub at_next : (keys : Keys) (u v w : Choice) → IsAt keys u v → IsAt keys v w → IsAt keys u w
at_next keys u v w first second = record {
  taken = λ inv key is. second.taken inv key is ∙ first.taken inv key is;
  found = λ inv key is taken. second.found inv key is (first.taken inv key is ∙ taken) ∙ first.found inv key is taken;
  holds = λ key is. second.holds key is ∙ first.holds key is;
}

pub at_fewer : (keys others : Keys) (past w : Choice) → ((key : ℕ) → others key ≡ true → keys key ≡ true) → IsAt keys past w → IsAt others past w
at_fewer keys others past w inside same = record {
  taken = λ inv key is. same.taken inv key (inside key is);
  found = λ inv key is taken. same.found inv key (inside key is) taken;
  holds = λ key is. same.holds key (inside key is);
}

pub or_cases : (b c : Bool) → (b || c) ≡ true → (b ≡ true) ⊎ (c ≡ true)
or_cases true c is = inl refl
or_cases false c is = inr is

pub at_both : (keys others both : Keys) (past w : Choice) → ((key : ℕ) → both key ≡ (keys key || others key)) → IsAt keys past w
    → IsAt others past w → IsAt both past w
at_both keys others both past w parted here there = record {
  taken = λ inv key is. ⊎_elim (λ e. here.taken inv key e) (λ e. there.taken inv key e) (side key is);
  found = λ inv key is taken. ⊎_elim (λ e. here.found inv key e taken) (λ e. there.found inv key e taken) (side key is);
  holds = λ key is. ⊎_elim (λ e. here.holds key e) (λ e. there.holds key e) (side key is);
}
  where
    side : (key : ℕ) → both key ≡ true → (keys key ≡ true) ⊎ (others key ≡ true)
    side key is = or_cases (keys key) (others key) (sym (parted key) ∙ is)

-- a choice that is `past` at some keys, and `w` at the others
abbrev pub instead : Keys → Choice → Choice → Choice
instead keys past w = record {
  taken = λ inv key. cond (keys key) (past.taken inv key) (w.taken inv key);
  found = λ inv key. cond (keys key) (past.found inv key) (w.found inv key);
  holds = λ key. cond (keys key) (past.holds key) (w.holds key);
}

pub instead_here : (keys : Keys) (past w : Choice) → IsAt keys past (instead keys past w)
instead_here keys past w = record {
  taken = λ inv key is. rw is refl;
  found = λ inv key is taken. rw is refl;
  holds = λ key is. rw is refl;
}

pub instead_there : (keys others : Keys) (past w : Choice) → AreApart keys others → IsAt others w (instead keys past w)
instead_there keys others past w apart = record {
  taken = λ inv key is. rw (out key is) refl;
  found = λ inv key is taken. rw (out key is) refl;
  holds = λ key is. rw (out key is) refl;
}
  where
    out : (key : ℕ) → others key ≡ true → keys key ≡ false
    out key is = by_key (bool_cases (keys key))
      where
        by_key : (keys key ≡ true) ⊎ (keys key ≡ false) → keys key ≡ false
        by_key (inr not_so) = not_so
        by_key (inl both) = let never : others key ≡ false = apart key both in cc

-- ---- what is left at some keys

made : KeyedCall → (ℕ → Bool) → (ℕ → Effect) → KeyedCall
made a c e = record { inv = a.inv; res = a.res; refused = a.refused; concerns = c; effect = e }

concerns_same : (k t s c : Bool) → (k ≡ true → t ≡ s) → (k && (not t && c)) ≡ (k && (not s && c))
concerns_same true t s c same = rw (same refl) refl
concerns_same false t s c same = refl

effect_same : (k t s : Bool) (e : Effect) → (k ≡ true → t ≡ s)
    → cond k (cond t no_effect e) no_effect ≡ cond k (cond s no_effect e) no_effect
effect_same true t s e same = rw (same refl) refl
effect_same false t s e same = refl

-- choices that are the same at some keys leave the same there
pub left_same : (keys : Keys) (past w : Choice) (a : KeyedCall) → IsAt keys past w → left_at keys w a ≡ left_at keys past a
unfolding made
left_same keys past w a same =
    ap (λ (c : ℕ → Bool). made a c (λ (key : ℕ). cond (keys key) (cond (w.taken a.inv key) no_effect (a.effect key)) no_effect))
    (fun_ext (λ (key : ℕ). concerns_same (keys key) (w.taken a.inv key) (past.taken a.inv key) (a.concerns key) (same.taken a.inv key)))
    ∙ ap (λ (e : ℕ → Effect). made a (λ (key : ℕ). keys key && (not (past.taken a.inv key) && a.concerns key)) e)
    (fun_ext (λ (key : ℕ). effect_same (keys key) (w.taken a.inv key) (past.taken a.inv key) (a.effect key) (same.taken a.inv key)))

pub all_left_same : (keys : Keys) (past w : Choice) (calls : List KeyedCall) → IsAt keys past w
    → map (left_at keys w) calls ≡ map (left_at keys past) calls
all_left_same keys past w [] same = refl
all_left_same keys past w (a ∷ calls) same =
    ap (λ (z : KeyedCall). z ∷ map (left_at keys w) calls) (left_same keys past w a same)
    ∙ ap (λ (zs : List KeyedCall). left_at keys past a ∷ zs) (all_left_same keys past w calls same)

pub all_left : (keys : Keys) (w : Choice) (calls : List KeyedCall) → map (only keys) (map (rest_of w) calls) ≡ map (left_at keys w) calls
all_left keys w [] = refl
all_left keys w (a ∷ calls) = ap (λ (zs : List KeyedCall). left_at keys w a ∷ zs) (all_left keys w calls)

-- at other keys nothing is left
pub none_left_out : (keys : Keys) (w : Choice) (a : KeyedCall) (key : ℕ) → keys key ≡ false → IsNoEffect ((left_at keys w a).effect key)
none_left_out keys w a key out = rw out none_none

pub fit_none : (key : ℕ) (order : List KeyedCall) → ((a : KeyedCall) → Contains order a → IsNoEffect (a.effect key)) → (value : Option ℕ)
    → FitInTurn key value order
fit_none key [] none value = tt
fit_none key (a ∷ order) none value = (
  (none a (Contains-first a order)).fits value,
  fit_none key order (λ b b_in. none b (Contains-later a order b b_in)) ((a.effect key).leaves value),
)

-- what other keys hold does not matter
pub other_holds : (keys : Keys) (w : Choice) (calls : List KeyedCall) (held other : ℕ → Option ℕ)
    → ((key : ℕ) → keys key ≡ true → held key ≡ other key) → HasKeyedOrder held (map (left_at keys w) calls)
    → HasKeyedOrder other (map (left_at keys w) calls)
other_holds keys w calls held other same (order, is) = (
  order,
  record {
    known = is.known;
    distinct = is.distinct;
    precedence = is.precedence;
    complete = is.complete;
    fit = λ key. by_key key (bool_cases (keys key));
  },
)
  where
    by_key : (key : ℕ) → (keys key ≡ true) ⊎ (keys key ≡ false) → FitInTurn key (other key) order
    by_key key (inl here) = subst (λ (v : Option ℕ). FitInTurn key v order) (same key here) (is.fit key)
    by_key key (inr out) = fit_none key order
        (λ b b_in.
        let (a, a_in, a_is) = Contains-from_map (left_at keys w) calls b (is.known b b_in) in
        subst (λ (z : KeyedCall). IsNoEffect (z.effect key)) a_is (none_left_out keys w a key out))
        (other key)

agrees_same : (keys : Keys) (past w : Choice) (a : KeyedCall) → IsAt keys past w → AgreesAt keys w a → AgreesAt keys past a
agrees_same keys past w a same agrees = record {
  accepted = λ key is taken. agrees.accepted key is (same.taken a.inv key is ∙ taken);
  fits = λ key is taken.
      subst (λ (v : Option ℕ). (a.effect key).fits v ≡ true) (same.found a.inv key is taken)
      (agrees.fits key is (same.taken a.inv key is ∙ taken));
}

-- what is the same at some keys goes on there too
pub same_goes_on_there : (keys : Keys) (past w : Choice) (calls : List KeyedCall) → IsAt keys past w → GoesOnAt keys w calls
    → GoesOnAt keys past calls
same_goes_on_there keys past w calls same goes_on = (
  All-from_contains (AgreesAt keys past) calls (λ a a_in.
      agrees_same keys past w a same (All-contains (AgreesAt keys w) calls a goes_on.0 a_in)),
  other_holds keys past calls w.holds past.holds same.holds
      (subst (λ (xs : List KeyedCall). HasKeyedOrder w.holds xs) (all_left_same keys past w calls same) goes_on.1),
)

-- if a choice goes on to an order, so does a choice that is the same at some keys, at these keys
pub goes_on_there : (keys : Keys) (past w : Choice) (calls : List KeyedCall) → IsAt keys past w → GoesOn w calls → GoesOnAt keys past calls
goes_on_there keys past w calls same goes_on =
    same_goes_on_there keys past w calls same (
      All-from_contains (AgreesAt keys w) calls (λ a a_in.
          let agrees : Agrees w a = All-contains (Agrees w) calls a goes_on.0 a_in in
          record { accepted = λ key is taken. agrees.accepted key taken; fits = λ key is taken. agrees.fits key taken }),
      subst (λ (xs : List KeyedCall). HasKeyedOrder w.holds xs) (all_left keys w calls)
          (some_refute w.holds keys (map (rest_of w) calls) goes_on.1),
    )

-- ---- choices that are the same at all keys

abbrev pub all_keys : Keys
all_keys key = true

rest_same : (past w : Choice) (a : KeyedCall) → IsAt all_keys past w → rest_of w a ≡ rest_of past a
rest_same past w a same = left_same all_keys past w a same

all_rest_same : (past w : Choice) (calls : List KeyedCall) → IsAt all_keys past w → map (rest_of w) calls ≡ map (rest_of past) calls
all_rest_same past w [] same = refl
all_rest_same past w (a ∷ calls) same =
    ap (λ (z : KeyedCall). z ∷ map (rest_of w) calls) (rest_same past w a same)
    ∙ ap (λ (zs : List KeyedCall). rest_of past a ∷ zs) (all_rest_same past w calls same)

pub same_goes_on : (past w : Choice) (calls : List KeyedCall) → IsAt all_keys past w → GoesOn w calls → GoesOn past calls
same_goes_on past w calls same goes_on = (
  All-from_contains (Agrees past) calls (λ a a_in.
      let agrees : Agrees w a = All-contains (Agrees w) calls a goes_on.0 a_in in
      record {
        accepted = λ key taken. agrees.accepted key (same.taken a.inv key refl ∙ taken);
        fits = λ key taken. subst (λ (v : Option ℕ). (a.effect key).fits v ≡ true) (same.found a.inv key refl taken)
            (agrees.fits key (same.taken a.inv key refl ∙ taken));
      }),
  subst (λ (held : ℕ → Option ℕ). HasKeyedOrder held (map (rest_of past) calls)) (fun_ext (λ (key : ℕ). same.holds key refl))
      (subst (λ (xs : List KeyedCall). HasKeyedOrder w.holds xs) (all_rest_same past w calls same) goes_on.1),
)

-- ---- a part with other pasts

pub keys_shared : (keys : Keys) (pasts nexts : List Choice) (rest : List Part) → ShareKeys (record { keys = keys; pasts = pasts } ∷ rest)
    → ShareKeys (record { keys = keys; pasts = nexts } ∷ rest)
keys_shared keys pasts nexts rest shared = record {
  apart = AllPairs-cons (λ part other. AreApart part.keys other.keys) (record { keys = keys; pasts = nexts }) rest
      (AllPairs-head (λ part other. AreApart part.keys other.keys) (record { keys = keys; pasts = pasts }) rest shared.apart)
      (AllPairs-tail (λ part other. AreApart part.keys other.keys) (record { keys = keys; pasts = pasts }) rest shared.apart);
  every = λ key.
      let (part, part_in, is) = shared.every key in
      ⊎_elim
      (λ same. (
        record { keys = keys; pasts = nexts },
        Contains-first (record { keys = keys; pasts = nexts }) rest,
        subst (λ (some : Part). some.keys key ≡ true) (sym same) is,
      ))
      (λ later. (part, Contains-later (record { keys = keys; pasts = nexts }) rest part later, is))
      (Contains-cases (record { keys = keys; pasts = pasts }) rest part part_in);
}

-- a choice of parts that is another past at the keys of the first, and elsewhere the same
pub with_past : (keys : Keys) (pasts nexts : List Choice) (rest : List Part) (next w x : Choice)
    → ShareKeys (record { keys = keys; pasts = pasts } ∷ rest) → Contains nexts next
    → choices_of (record { keys = keys; pasts = pasts } ∷ rest) w → IsAt keys next x → IsAt (other_keys keys) w x
    → choices_of (record { keys = keys; pasts = nexts } ∷ rest) x
with_past keys pasts nexts rest next w x shared next_in is here there =
    All-cons (λ part. IsOneOf part.keys part.pasts x) (record { keys = keys; pasts = nexts }) rest (next, next_in, here)
    (All-from_contains (λ part. IsOneOf part.keys part.pasts x) rest (λ part part_in.
    let apart : AreApart keys part.keys = All-contains (λ other. AreApart keys other.keys) rest part
    (AllPairs-head (λ one other. AreApart one.keys other.keys) (record { keys = keys; pasts = pasts }) rest shared.apart) part_in in
    let (past, past_in, same) = All-contains (λ other. IsOneOf other.keys other.pasts w) rest part
    (All-tail (λ other. IsOneOf other.keys other.pasts w) (record { keys = keys; pasts = pasts }) rest is) part_in in (
      past,
      past_in,
      at_next part.keys past w x same (at_fewer (other_keys keys) part.keys w x (λ key inside. out part apart key inside
          (bool_cases (keys key))) there),
    )))
  where
    out : (part : Part) → AreApart keys part.keys → (key : ℕ) → part.keys key ≡ true → (keys key ≡ true) ⊎ (keys key ≡ false)
        → not (keys key) ≡ true
    out part apart key inside (inl both) = let never : part.keys key ≡ false = apart key both in cc
    out part apart key inside (inr is) = rw is refl

pub with_instead : (keys : Keys) (pasts nexts : List Choice) (rest : List Part) (next w : Choice)
    → ShareKeys (record { keys = keys; pasts = pasts } ∷ rest) → Contains nexts next
    → choices_of (record { keys = keys; pasts = pasts } ∷ rest) w
    → choices_of (record { keys = keys; pasts = nexts } ∷ rest) (instead keys next w)
with_instead keys pasts nexts rest next w shared next_in is =
    with_past keys pasts nexts rest next w (instead keys next w) shared next_in is (instead_here keys next w)
    (instead_there keys (other_keys keys) next w (λ key here. rw here refl))

-- a choice of parts with another past of the first part
pub with_other : (keys : Keys) (pasts nexts : List Choice) (rest : List Part) (w past : Choice)
    → choices_of (record { keys = keys; pasts = pasts } ∷ rest) w → Contains nexts past → IsAt keys past w
    → choices_of (record { keys = keys; pasts = nexts } ∷ rest) w
with_other keys pasts nexts rest w past is past_in same =
    All-cons (λ part. IsOneOf part.keys part.pasts w) (record { keys = keys; pasts = nexts }) rest (past, past_in, same)
    (All-tail (λ part. IsOneOf part.keys part.pasts w) (record { keys = keys; pasts = pasts }) rest is)

-- ---- some of the calls

pub stand_below : (held : ℕ → Option ℕ) (place : ℕ) (calls : List KeyedCall) (parts : List Part) → Represent held place calls parts
    → AddNoOrder held place calls (choices_of parts)
stand_below held place calls parts stand more grown some =
    stand.reached more more some.0 grown some.1
    (record { from = λ a a_in. a_in; taken = λ a key a_in taken. a_in; distinct = grown.apart.distinct }) some.2

-- the calls whose names are among those of some
abbrev pub those_of : List KeyedCall → List KeyedCall → List KeyedCall
those_of calls some = filter (λ a. has_call some a.inv) calls

module _ (place : ℕ) (calls more some : List KeyedCall) (w : Choice) (grown : HaveGrown place calls more) (are : AreSomeOf w more some) where
  pub few_are : AreSomeOf w calls (those_of calls some)
  few_are = record {
    from = λ a a_in. (Contains-from_filter (λ a. has_call some a.inv) calls a a_in).0;
    taken = λ a key a_in taken.
        let (b, b_in, later) = grown.stay a a_in in
        let in_some : Contains some b = are.taken b key b_in (subst (λ (n : ℕ). w.taken n key ≡ true) (sym later.inv) taken) in
        Contains-filter (λ a. has_call some a.inv) calls a a_in
        (subst (λ (n : ℕ). has_call some n ≡ true) later.inv (named_in some b in_some));
    distinct = AllPairs-filter (λ x y. x.inv ≢ y.inv) (λ a. has_call some a.inv) calls grown.alone;
  }

  pub few_grown : HaveGrown place (those_of calls some) some
  few_grown = record {
    begun = All-from_contains (λ a. a.inv < place) (those_of calls some) (λ a a_in.
        All-contains (λ a. a.inv < place) calls a grown.begun (few_are.from a a_in));
    ended = λ a res a_in is. grown.ended a res (few_are.from a a_in) is;
    stay = λ a a_in.
        let (a_old, named) = Contains-from_filter (λ a. has_call some a.inv) calls a a_in in
        let (b, b_in, later) = grown.stay a a_old in
        let (c, c_in, c_is) = from_named some a.inv named in
        let one : c ≡ b = same_call more c b grown.apart.distinct (are.from c c_in) b_in (c_is ∙ sym later.inv) in
        (b, subst (λ (z : KeyedCall). Contains some z) one c_in, later);
    come = λ b b_in. ⊎_elim
        (λ old.
        let (a, a_in, later) = old in
        inl (
          a,
          Contains-filter (λ a. has_call some a.inv) calls a a_in
              (subst (λ (n : ℕ). has_call some n ≡ true) later.inv (named_in some b b_in)),
          later,
        ))
        (λ new. inr new)
        (grown.come b (are.from b b_in));
    alone = few_are.distinct;
    formed = All-from_contains IsFormed some (λ b b_in. All-contains IsFormed more b grown.formed (are.from b b_in));
    apart = record {
      distinct = are.distinct;
      last = All-from_contains (λ b. precedes b b ≡ false) some (λ b b_in.
          All-contains (λ b. precedes b b ≡ false) more b grown.apart.last (are.from b b_in));
    };
  }

-- a choice takes nothing that another does not
abbrev pub TakesNoMore : Choice → Choice → Type 0
TakesNoMore v w = (inv key : ℕ) → w.taken inv key ≡ true → v.taken inv key ≡ true

-- The first of parts took a step. For each of its choices that goes on there is one after the step that does. Take any calls that include all
-- that a choice after the step took, and let it go on. Then some choice before the step goes on, and takes nothing more.
pub part_steps : (held : ℕ → Option ℕ) (place : ℕ) (calls : List KeyedCall) (keys : Keys) (pasts nexts : List Choice) (rest : List Part)
    → ((w : Choice) (more : List KeyedCall) → choices_of (record { keys = keys; pasts = pasts } ∷ rest) w → HaveGrown place calls more → GoesOn w more
    → SomeGoesOn (choices_of (record { keys = keys; pasts = nexts } ∷ rest)) more)
    → ((v : Choice) (few more : List KeyedCall) → choices_of (record { keys = keys; pasts = nexts } ∷ rest) v → AreDistinct calls
    → AreSomeOf v calls few → HaveGrown place few more → GoesOn v more
    → SomeGoesOn (λ w. choices_of (record { keys = keys; pasts = pasts } ∷ rest) w × TakesNoMore v w) more)
    → Represent held place calls (record { keys = keys; pasts = pasts } ∷ rest)
    → Represent held place calls (record { keys = keys; pasts = nexts } ∷ rest)
part_steps held place calls keys pasts nexts rest forth back stand = record {
  shared = keys_shared keys pasts nexts rest stand.shared;
  above = λ more grown order. let (w, w_is, goes_on) = stand.above more grown order in forth w more w_is grown goes_on;
  reached = λ more some v grown v_is are goes_on.
      let (w, both, goes_before) = back v (those_of calls some) some v_is grown.alone (few_are place calls more some v grown are)
      (few_grown place calls more some v grown are) goes_on in
      stand.reached more some w grown both.0
      (record { from = are.from; taken = λ a key a_in taken. are.taken a key a_in (both.1 a.inv key taken); distinct = are.distinct }) goes_before;
}

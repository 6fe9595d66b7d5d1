-- What is left at some keys as a call begins, or is answered. `left_from_each`: it is known by each
-- call and each operation on its own. `known_of`, `known_on`: what is known of a call stays known.
-- `left_as_before`: nothing changes if the calls that change are idle at the keys. `left_instead`:
-- one call replaces another.
use Rattle.follow_laws.proofs.Common.{◌≡◌, ℕ, ◌<◌, ◌≤◌, Bool, true, false, not, ◌&&◌, List, [], ◌∷◌, ◌++◌, Option, Some, None, inl, inr, refl, sym}
use Rattle.follow_laws.proofs.Common.{ap, ◌∙◌, subst, ⊎_elim, arith, ◌≢◌, ◌⊎◌, All, AllPairs, Contains, All-nil, All-cons, All-head, All-tail}
use Rattle.follow_laws.proofs.Common.{All-append, All-contains, Contains-append_left, Contains-append_right, Contains-append_cases, AllPairs-cons}
use Rattle.follow_laws.proofs.Common.{AllPairs-weaker, AllPairs-nil, AllPairs-head, AllPairs-tail, AllPairs-append, AllPairs-front, AllPairs-back}
use Rattle.follow_laws.proofs.Common.{AllPairs-across, All-front, All-back, All-from_contains, Contains-nil, Contains-first, Contains-later}
use Rattle.follow_laws.proofs.Common.{Contains-cases, Contains-around, Call, Get, Insert, Remove, Scan, Replace, Operation, Contents, KeyedCall}
use Rattle.follow_laws.proofs.Common.{IsNoEffect, IsFormed, is_refused, is_refusal, concerns_key, effect_at, keyed, AreKeyedCalls, HasForm, HaveForms}
use Rattle.follow_laws.proofs.Common.{Choice, rest_of, Keys, IsRead, IsAlikeAt, AgreesAt, left_at, IsLeftAt, NoneIsLeftAt, AreOfLeftCalls, IsLeft}
use Rattle.follow_laws.proofs.Common.{HasKeysIn, HasNoKeyIn, IsNotTakenAt, IsTakenAt, answered, BegunCallsAreLeft, OtherCallsBegin}
use Rattle.follow_laws.proofs.Common.{AnsweredCallsAreLeft, TakenCallsAreAnswered, OtherCallsAreAnswered, Response}
use Rattle.follow_laws.proofs.CutLemmas.{outside_none}
use Rattle.follow_laws.proofs.DeadLemmas.{bool_cases}
use Rattle.follow_laws.proofs.EffectRestLemmas.{none_or}
use Rattle.follow_laws.proofs.GrowLemmas.{formed, open_fits}
use Rattle.follow_laws.proofs.PartLemmas.{none_left_out}

pub not_both : (b : Bool) → b ≡ true → b ≡ false → ⊥
not_both b is never = cc

-- ---- lists

-- what is before or after one element is in the whole
pub beside : {X : Type 0} (front : List X) (x : X) (back : List X) (z : X) → Contains (front ++ back) z → Contains (front ++ x ∷ back) z
beside front x back z h =
    ⊎_elim (λ first. Contains-append_left front (x ∷ back) z first)
    (λ second. Contains-append_right front (x ∷ back) z (Contains-later x back z second))
    (Contains-append_cases front back z h)

pub middle : {X : Type 0} (front : List X) (x : X) (back : List X) → Contains (front ++ x ∷ back) x
middle front x back = Contains-append_right front (x ∷ back) x (Contains-first x back)

-- what is in a list with one more is in the list, or is that one
one_more : {X : Type 0} (xs : List X) (x z : X) → Contains (xs ++ x ∷ []) z → Contains xs z ⊎ (x ≡ z)
one_more xs x z h =
    ⊎_elim (λ old. inl old) (λ new. ⊎_elim (λ same. inr same) (λ never. absurd (Contains-nil z never)) (Contains-cases x [] z new))
    (Contains-append_cases xs (x ∷ []) z h)

-- none of the others has its name
pub differ : {X : Type 0} (name : X → ℕ) (front : List X) (x : X) (back : List X) → AllPairs (λ a b. name a ≢ name b) (front ++ x ∷ back)
    → (z : X) → Contains (front ++ back) z → name z ≡ name x → ⊥
differ name front x back distinct z z_in same =
    ⊎_elim
    (λ first. All-head (λ b. name z ≢ name b) x back
    (All-contains (λ a. All (λ b. name a ≢ name b) (x ∷ back)) front z
    (AllPairs-across (λ a b. name a ≢ name b) front (x ∷ back) distinct) first) same)
    (λ second. All-contains (λ b. name x ≢ name b) back z
    (AllPairs-head (λ a b. name a ≢ name b) x back (AllPairs-back (λ a b. name a ≢ name b) front (x ∷ back) distinct)) second (sym same))
    (Contains-append_cases front back z z_in)

-- ---- one call, and one operation

-- an operation is there that is alike to what is left of a call
abbrev pub IsShown : Keys → Choice → List Operation → KeyedCall → Type 0
IsShown keys past left a = (o : Operation) × Contains left o × IsAlikeAt keys (left_at keys past a) (keyed o)

-- there is a call that is like an operation, and something of it is left
abbrev pub IsOwned : Keys → Choice → List KeyedCall → Operation → Type 0
IsOwned keys past calls o =
    (a : KeyedCall) × Contains calls a × (a.refused ≡ false) × IsLeftAt keys past a × IsAlikeAt keys (left_at keys past a) (keyed o)

-- all that is known of a call
pub record IsKnown (keys : Keys) (past : Choice) (limit : ℕ) (left : List Operation) (a : KeyedCall) : Type 0 where
  pub there : ((key : ℕ) → IsNoEffect ((left_at keys past a).effect key)) ⊎ IsShown keys past left a
  pub whole : a.inv < limit → a.refused ≡ false → IsLeftAt keys past a → IsShown keys past left a
  pub agrees : AgreesAt keys past a

pub known_of : (keys : Keys) (past : Choice) (limit : ℕ) (calls : List KeyedCall) (pairs : Contents) (left : List Operation)
    → IsLeft keys past limit calls pairs left → (a : KeyedCall) → Contains calls a → IsKnown keys past limit left a
known_of keys past limit calls pairs left is a a_in = record {
  there = is.alike.there a a_in;
  whole = is.whole a a_in;
  agrees = All-contains (AgreesAt keys past) calls a is.agrees a_in;
}

-- with other operations the same is known, if those of the call are among them
pub known_on : (keys : Keys) (past : Choice) (limit : ℕ) (left nexts : List Operation) (a : KeyedCall)
    → ((o : Operation) → Contains left o → IsAlikeAt keys (left_at keys past a) (keyed o) → Contains nexts o)
    → IsKnown keys past limit left a → IsKnown keys past limit nexts a
known_on keys past limit left nexts a on known = record {
  there = ⊎_elim (λ none. inl none) (λ some. inr (shown some)) known.there;
  whole = λ early accepted some. shown (known.whole early accepted some);
  agrees = known.agrees;
}
  where
    shown : IsShown keys past left a → IsShown keys past nexts a
    shown (o, o_in, alike) = (o, on o o_in alike, alike)

-- what the keys hold stays; the rest is known by each call and each operation
pub left_from_each : (keys : Keys) (past : Choice) (limit : ℕ) (calls more : List KeyedCall) (pairs : Contents) (left nexts : List Operation)
    → AllPairs (λ o p. o.inv < p.inv) nexts → HaveForms nexts → ((a : KeyedCall) → Contains more a → IsKnown keys past limit nexts a)
    → AreOfLeftCalls keys past more nexts → IsLeft keys past limit calls pairs left → IsLeft keys past limit more pairs nexts
left_from_each keys past limit calls more pairs left nexts rising forms known owned is = record {
  alike = record {
    rises = is.alike.rises;
    same = is.alike.same;
    nothing = is.alike.nothing;
    rising = rising;
    forms = forms;
    there = λ a a_in. (known a a_in).there;
    back = λ o o_in. let (a, a_in, accepted, some, alike) = owned o o_in in (a, a_in, alike);
  };
  owned = owned;
  whole = λ a a_in. (known a a_in).whole;
  agrees = All-from_contains (AgreesAt keys past) more (λ a a_in. (known a a_in).agrees);
}

-- an operation is of this call, which was not refused; something of it is left
abbrev pub IsOf : Keys → Choice → KeyedCall → Operation → Type 0
IsOf keys past b o = (b.refused ≡ false) × IsLeftAt keys past b × IsAlikeAt keys (left_at keys past b) (keyed o)

-- one call replaces another: its operations are new, and all others are old
pub left_instead : (keys : Keys) (past : Choice) (limit : ℕ) (front back : List KeyedCall) (pairs : Contents) (a b : KeyedCall)
    (left nexts : List Operation) → AllPairs (λ o p. o.inv < p.inv) nexts → HaveForms nexts → IsKnown keys past limit nexts b
    → ((c : KeyedCall) (o : Operation) → Contains (front ++ back) c → Contains left o → IsAlikeAt keys (left_at keys past c) (keyed o)
    → Contains nexts o)
    → ((o : Operation) → Contains nexts o → IsOf keys past b o ⊎ (Contains left o × (o.inv ≢ a.inv)))
    → IsLeft keys past limit (front ++ a ∷ back) pairs left → IsLeft keys past limit (front ++ b ∷ back) pairs nexts
left_instead keys past limit front back pairs a b left nexts rising forms known on from is =
    left_from_each keys past limit (front ++ a ∷ back) (front ++ b ∷ back) pairs left nexts rising forms
    (λ c c_in. ⊎_elim
    (λ same. subst (IsKnown keys past limit nexts) same known)
    (λ others. known_on keys past limit left nexts c (λ o o_in alike. on c o others o_in alike)
    (known_of keys past limit (front ++ a ∷ back) pairs left is c (beside front a back c others)))
    (Contains-around front b back c c_in))
    (λ o o_in. ⊎_elim
    (λ own. (b, middle front b back, own.0, own.1, own.2))
    (λ old. let (c, c_in, accepted, some, alike) = is.owned o old.0 in
    ⊎_elim
    (λ same. absurd (old.1 (alike.inv ∙ ap (λ (z : KeyedCall). z.inv) (sym same))))
    (λ others. (c, beside front b back c others, accepted, some, alike))
    (Contains-around front a back c c_in))
    (from o o_in))
    is

-- ---- calls that are idle at the keys

-- a call has no effect at the keys, as far as it is left
pub record IsIdle (keys : Keys) (past : Choice) (limit : ℕ) (a : KeyedCall) : Type 0 where
  pub none : (key : ℕ) → IsNoEffect ((left_at keys past a).effect key)
  pub out : a.inv < limit → IsLeftAt keys past a → ⊥
  pub agrees : AgreesAt keys past a

not_left : (keys : Keys) (past : Choice) (a : KeyedCall) → NoneIsLeftAt keys past a → IsLeftAt keys past a → ⊥
not_left keys past a none (key, is, some) = not_both ((rest_of past a).concerns key) some (none key is)

-- what is left stays the same if idle calls are added, and calls are dropped that have nothing left
pub left_as_before : (keys : Keys) (past : Choice) (limit : ℕ) (calls more : List KeyedCall) (pairs : Contents) (left : List Operation)
    → ((a : KeyedCall) → Contains more a → Contains calls a ⊎ IsIdle keys past limit a)
    → ((a : KeyedCall) → Contains calls a → Contains more a ⊎ NoneIsLeftAt keys past a)
    → IsLeft keys past limit calls pairs left → IsLeft keys past limit more pairs left
left_as_before keys past limit calls more pairs left from to is =
    left_from_each keys past limit calls more pairs left left is.alike.rising is.alike.forms
    (λ a a_in. ⊎_elim (λ old. known_of keys past limit calls pairs left is a old)
    (λ idle. record {
      there = inl idle.none;
      whole = λ early accepted some. absurd (idle.out early some);
      agrees = idle.agrees;
    })
    (from a a_in))
    (λ o o_in. let (a, a_in, accepted, some, alike) = is.owned o o_in in
    ⊎_elim (λ here. (a, here, accepted, some, alike)) (λ none. absurd (not_left keys past a none some)) (to a a_in))
    is

-- if nothing is left of a call, it has no effect
none_left : (keys : Keys) (past : Choice) (a : KeyedCall) → IsFormed a → NoneIsLeftAt keys past a → (key : ℕ)
    → IsNoEffect ((left_at keys past a).effect key)
none_left keys past a formed none key = by_key (bool_cases (keys key))
  where
    by_key : (keys key ≡ true) ⊎ (keys key ≡ false) → IsNoEffect ((left_at keys past a).effect key)
    by_key (inl is) = rw is (outside_none keys past a formed none key is)
    by_key (inr out) = none_left_out keys past a key out

none_idle : (keys : Keys) (past : Choice) (limit : ℕ) (o : Operation) → NoneIsLeftAt keys past (keyed o) → AgreesAt keys past (keyed o)
    → IsIdle keys past limit (keyed o)
none_idle keys past limit o none agrees = record {
  none = none_left keys past (keyed o) (formed o) none;
  out = λ early some. not_left keys past (keyed o) none some;
  agrees = agrees;
}

and_false : (b : Bool) → (b && false) ≡ false
and_false true = refl
and_false false = refl

other_none : (keys : Keys) (past : Choice) (o : Operation) → HasNoKeyIn keys o → NoneIsLeftAt keys past (keyed o)
other_none keys past o out key is = rw (out key is) (and_false (not (past.taken o.inv key)))

taken_none : (keys : Keys) (past : Choice) (o : Operation) → IsTakenAt keys past o → NoneIsLeftAt keys past (keyed o)
taken_none keys past o taken key is = by_concern (bool_cases (concerns_key o.call key))
  where
    by_concern : (concerns_key o.call key ≡ true) ⊎ (concerns_key o.call key ≡ false)
        → (not (past.taken o.inv key) && concerns_key o.call key) ≡ false
    by_concern (inl concerned) = rw (taken key is concerned) refl
    by_concern (inr not_so) = rw not_so (and_false (not (past.taken o.inv key)))

-- ---- a call that is answered, and idle

-- one call has been replaced by another, and both are idle at the keys
change_idle : (keys : Keys) (past : Choice) (limit : ℕ) (front back : List KeyedCall) (pairs : Contents) (left : List Operation) (a b : KeyedCall)
    → NoneIsLeftAt keys past a → IsIdle keys past limit b → IsLeft keys past limit (front ++ a ∷ back) pairs left
    → IsLeft keys past limit (front ++ b ∷ back) pairs left
change_idle keys past limit front back pairs left a b none idle is =
    left_as_before keys past limit (front ++ a ∷ back) (front ++ b ∷ back) pairs left
    (λ c c_in. ⊎_elim (λ same. inr (subst (IsIdle keys past limit) same idle)) (λ others. inl (beside front a back c others))
    (Contains-around front b back c c_in))
    (λ c c_in. ⊎_elim (λ same. inr (subst (NoneIsLeftAt keys past) same none)) (λ others. inl (beside front b back c others))
    (Contains-around front a back c c_in))
    is

pub taken_calls_are_answered : TakenCallsAreAnswered
taken_calls_are_answered keys past limit front back pairs left o response taken agrees is =
    change_idle keys past limit front back pairs left (keyed o) (keyed (answered response o)) (taken_none keys past o taken)
    (none_idle keys past limit (answered response o) (taken_none keys past (answered response o) taken) agrees) is

pub other_calls_are_answered : OtherCallsAreAnswered
other_calls_are_answered keys past limit front back pairs left o response out accepted is =
    change_idle keys past limit front back pairs left (keyed o) (keyed (answered response o)) (other_none keys past o out)
    (none_idle keys past limit (answered response o) (other_none keys past (answered response o) out) agrees) is
  where
    agrees : AgreesAt keys past (keyed (answered response o))
    agrees = record {
      accepted = accepted;
      fits = λ key here taken. ((formed (answered response o)).elsewhere key (out key here)).fits (past.found o.inv key);
    }

-- ---- a call that is pending

pending_fits : (o : Operation) → o.response ≡ None → (key : ℕ) (value : Option ℕ) → ((keyed o).effect key).fits value ≡ true
pending_fits o pending key value =
    subst (λ (r : Option Response). (effect_at o.call r key).fits value ≡ true) (sym pending) (open_fits o.call key value)

pending_accepted : (o : Operation) → o.response ≡ None → (keyed o).refused ≡ false
pending_accepted o pending = ap (λ (r : Option Response). is_refused r) pending

pending_agrees : (keys : Keys) (past : Choice) (o : Operation) → o.response ≡ None → AgreesAt keys past (keyed o)
pending_agrees keys past o pending = record {
  accepted = λ key is taken. pending_accepted o pending;
  fits = λ key is taken. pending_fits o pending key (past.found o.inv key);
}

pending_form : (o : Operation) → o.response ≡ None → HasForm o.call o.response
pending_form o pending = subst (λ (r : Option Response). HasForm o.call r) (sym pending) (by_call o.call)
  where
    by_call : (call : Call) → HasForm call None
    by_call (Get key) = tt
    by_call (Insert key value) = tt
    by_call (Remove key) = tt
    by_call (Scan low high) = tt
    by_call (Replace key expected value) = tt

read_idle : (keys : Keys) (past : Choice) (limit : ℕ) (o : Operation) → o.response ≡ None → IsRead (keyed o) → limit ≤ o.inv
    → IsIdle keys past limit (keyed o)
read_idle keys past limit o pending read late = record {
  none = λ key. by_key key (bool_cases (keys key));
  out = λ early some. absurd (omega arith);
  agrees = pending_agrees keys past o pending;
}
  where
    none : (key : ℕ) → IsNoEffect ((keyed o).effect key)
    none key = record {
      fits = pending_fits o pending key;
      leaves = λ value. read key value (pending_fits o pending key value);
    }

    by_key : (key : ℕ) → (keys key ≡ true) ⊎ (keys key ≡ false) → IsNoEffect ((left_at keys past (keyed o)).effect key)
    by_key key (inl is) = rw is (none_or (past.taken o.inv key) ((keyed o).effect key) (none key))
    by_key key (inr out) = none_left_out keys past (keyed o) key out

pub other_calls_begin : OtherCallsBegin
other_calls_begin keys past limit calls pairs left o pending idle is =
    left_as_before keys past limit calls (calls ++ keyed o ∷ []) pairs left
    (λ a a_in. ⊎_elim (λ old. inl old) (λ same. inr (subst (IsIdle keys past limit) same (idle_now idle))) (one_more calls (keyed o) a a_in))
    (λ a a_in. inl (Contains-append_left calls (keyed o ∷ []) a a_in))
    is
  where
    idle_now : HasNoKeyIn keys o ⊎ (IsRead (keyed o) × (limit ≤ o.inv)) → IsIdle keys past limit (keyed o)
    idle_now (inl out) = none_idle keys past limit o (other_none keys past o out) (pending_agrees keys past o pending)
    idle_now (inr (read, late)) = read_idle keys past limit o pending read late

-- ---- a call that is left

pub own_alike : (keys : Keys) (past : Choice) (o : Operation) → HasKeysIn keys o → IsNotTakenAt keys past o.inv
    → IsAlikeAt keys (left_at keys past (keyed o)) (keyed o)
own_alike keys past o inside free = record {
  inv = refl;
  res = refl;
  fits = λ key value is. rw is (rw (free key is) refl);
  leaves = λ key value is. rw is (rw (free key is) refl);
  none = none_left_out keys past (keyed o);
  fits_none = λ key out. (elsewhere key out).fits None;
  leaves_none = λ key out. (elsewhere key out).leaves None;
}
  where
    by_concern : (key : ℕ) → keys key ≡ false → (concerns_key o.call key ≡ true) ⊎ (concerns_key o.call key ≡ false)
        → concerns_key o.call key ≡ false
    by_concern key out (inl concerned) = let never : keys key ≡ true = inside key concerned in cc
    by_concern key out (inr not_so) = not_so

    elsewhere : (key : ℕ) → keys key ≡ false → IsNoEffect ((keyed o).effect key)
    elsewhere key out = (formed o).elsewhere key (by_concern key out (bool_cases (concerns_key o.call key)))

pub own_known : (keys : Keys) (past : Choice) (limit : ℕ) (left : List Operation) (o : Operation) → Contains left o → HasKeysIn keys o
    → IsNotTakenAt keys past o.inv → IsKnown keys past limit left (keyed o)
own_known keys past limit left o o_in inside free = record {
  there = inr shown;
  whole = λ early accepted some. shown;
  agrees = record {
    accepted = λ key is taken. absurd (not_both (past.taken o.inv key) taken (free key is));
    fits = λ key is taken. absurd (not_both (past.taken o.inv key) taken (free key is));
  };
}
  where
    shown : IsShown keys past left (keyed o)
    shown = (o, o_in, own_alike keys past o inside free)

pub begun_calls_are_left : BegunCallsAreLeft
begun_calls_are_left keys past limit calls pairs left o key later pending concerned inside free is =
    left_from_each keys past limit calls (calls ++ keyed o ∷ []) pairs left (left ++ o ∷ [])
    (AllPairs-append (λ p q. p.inv < q.inv) left (o ∷ []) is.alike.rising
    (AllPairs-cons (λ p q. p.inv < q.inv) o [] (All-nil (λ q. o.inv < q.inv)) (AllPairs-nil (λ p q. p.inv < q.inv)))
    (All-from_contains (λ p. All (λ q. p.inv < q.inv) (o ∷ [])) left
    (λ p p_in. All-cons (λ q. p.inv < q.inv) o [] (earlier p p_in) (All-nil (λ q. p.inv < q.inv)))))
    (All-append (λ p. HasForm p.call p.response) left (o ∷ []) is.alike.forms
    (All-cons (λ p. HasForm p.call p.response) o [] (pending_form o pending) (All-nil (λ p. HasForm p.call p.response))))
    (λ a a_in. ⊎_elim
    (λ old. known_on keys past limit left (left ++ o ∷ []) a (λ p p_in alike. Contains-append_left left (o ∷ []) p p_in)
    (known_of keys past limit calls pairs left is a old))
    (λ same. subst (IsKnown keys past limit (left ++ o ∷ [])) same
    (own_known keys past limit (left ++ o ∷ []) o (middle left o []) inside free))
    (one_more calls (keyed o) a a_in))
    (λ p p_in. ⊎_elim
    (λ old. let (a, a_in, accepted, some, alike) = is.owned p old in
    (a, Contains-append_left calls (keyed o ∷ []) a a_in, accepted, some, alike))
    (λ same. subst (IsOwned keys past (calls ++ keyed o ∷ [])) same own)
    (one_more left o p p_in))
    is
  where
    earlier : (p : Operation) → Contains left p → p.inv < o.inv
    earlier p p_in =
        let (a, a_in, accepted, some, alike) = is.owned p p_in in
        let before : a.inv < o.inv = All-contains (λ a. a.inv < o.inv) calls a later a_in in
        subst (λ (n : ℕ). n < o.inv) (sym alike.inv) before

    own : IsOwned keys past (calls ++ keyed o ∷ []) o
    own = (
      keyed o,
      middle calls (keyed o) [],
      pending_accepted o pending,
      (key, inside key concerned, rw (free key (inside key concerned)) concerned),
      own_alike keys past o inside free,
    )

-- ---- a call that is left is answered

module _ (keys : Keys) (past : Choice) (limit : ℕ) (front back : List KeyedCall) (pairs : Contents) (before after : List Operation) (o : Operation)
    (response : Response) (calls : AreKeyedCalls (front ++ keyed o ∷ back)) (accepted : is_refusal response.reply ≡ false)
    (form : HasForm o.call (Some response)) (inside : HasKeysIn keys o) (free : IsNotTakenAt keys past o.inv)
    (is : IsLeft keys past limit (front ++ keyed o ∷ back) pairs (before ++ o ∷ after)) where
  abbrev now : Operation
  now = answered response o

  other_call : (c : KeyedCall) → Contains (front ++ back) c → c.inv ≡ o.inv → ⊥
  other_call c c_in same = differ (λ a. a.inv) front (keyed o) back calls.distinct c c_in same

  other_operation : (p : Operation) → Contains (before ++ after) p → p.inv ≡ o.inv → ⊥
  other_operation p p_in same =
      differ (λ q. q.inv) before o after
      (AllPairs-weaker (λ a b. a.inv < b.inv) (λ a b. a.inv ≢ b.inv) (before ++ o ∷ after) (λ a b a_in b_in less equal. absurd (omega arith))
      is.alike.rising) p p_in same

  -- something of the call is left
  is_left : IsLeftAt keys past (keyed o)
  is_left =
      let (c, c_in, not_refused, some, alike) = is.owned o (middle before o after) in
      ⊎_elim (λ same. subst (IsLeftAt keys past) (sym same) some) (λ others. absurd (other_call c others (sym alike.inv)))
      (Contains-around front (keyed o) back c c_in)

  rising : AllPairs (λ p q. p.inv < q.inv) (before ++ now ∷ after)
  rising =
      let whole = AllPairs-back (λ p q. p.inv < q.inv) before (o ∷ after) is.alike.rising in
      AllPairs-append (λ p q. p.inv < q.inv) before (now ∷ after) (AllPairs-front (λ p q. p.inv < q.inv) before (o ∷ after) is.alike.rising)
      (AllPairs-cons (λ p q. p.inv < q.inv) now after (AllPairs-head (λ p q. p.inv < q.inv) o after whole)
      (AllPairs-tail (λ p q. p.inv < q.inv) o after whole))
      (All-from_contains (λ p. All (λ q. p.inv < q.inv) (now ∷ after)) before (λ p p_in.
      let across = All-contains (λ p. All (λ q. p.inv < q.inv) (o ∷ after)) before p
      (AllPairs-across (λ p q. p.inv < q.inv) before (o ∷ after) is.alike.rising) p_in in
      All-cons (λ q. p.inv < q.inv) now after (All-head (λ q. p.inv < q.inv) o after across) (All-tail (λ q. p.inv < q.inv) o after across)))

  forms : HaveForms (before ++ now ∷ after)
  forms =
      All-append (λ p. HasForm p.call p.response) before (now ∷ after)
      (All-front (λ p. HasForm p.call p.response) before (o ∷ after) is.alike.forms)
      (All-cons (λ p. HasForm p.call p.response) now after form
      (All-tail (λ p. HasForm p.call p.response) o after (All-back (λ p. HasForm p.call p.response) before (o ∷ after) is.alike.forms)))

  all : IsLeft keys past limit (front ++ keyed now ∷ back) pairs (before ++ now ∷ after)
  all = left_instead keys past limit front back pairs (keyed o) (keyed now) (before ++ o ∷ after) (before ++ now ∷ after) rising forms
      (own_known keys past limit (before ++ now ∷ after) now (middle before now after) inside free)
      (λ c p c_in p_in alike. ⊎_elim
      (λ same. absurd (other_call c c_in (sym alike.inv ∙ ap (λ (q : Operation). q.inv) (sym same))))
      (λ rest. beside before now after p rest)
      (Contains-around before o after p p_in))
      (λ p p_in. ⊎_elim
      (λ same. inl (subst (IsOf keys past (keyed now)) same (accepted, is_left, own_alike keys past now inside free)))
      (λ rest. inr (beside before o after p rest, other_operation p rest))
      (Contains-around before now after p p_in))
      is

pub answered_calls_are_left : AnsweredCallsAreLeft
answered_calls_are_left keys past limit front back pairs before after o response calls accepted form inside free is =
    all keys past limit front back pairs before after o response calls accepted form inside free is

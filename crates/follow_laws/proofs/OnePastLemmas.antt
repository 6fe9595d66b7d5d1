-- What is kept of a past is known by each call and each operation on its own. `fit_of`, `left_of`, `past_from`: from a past to its parts, and
-- back. `fit_on`, `known_on`, `found_on`, `whole_on`: the parts stay known as a pending call is answered. `found_is_free`, `taken_concerns`:
-- what a past says of one call.
use Rattle.follow_laws.proofs.Common.{◌≡◌, ℕ, ◌≤◌, true, false, nat_le, List, ◌∷◌, ◌++◌, Option, None, Some, inl, inr, refl, sym, ap, ◌∙◌, subst}
use Rattle.follow_laws.proofs.Common.{⊎_elim, arith, ◌≢◌, ◌⊎◌, Contains, is_some, eqb-true, eq-eqb, leb-true, le-leb, and_parts, and_from}
use Rattle.follow_laws.proofs.Common.{false_from_ne_true, All-contains, All-from_contains, Contains-around, Operation, Response, low_key, high_key}
use Rattle.follow_laws.proofs.Common.{KeyedCall, is_completed, is_refusal, concerns_key, place_of, keyed, AreKeyedCalls, Choice, Keys, IsAlikeAt}
use Rattle.follow_laws.proofs.Common.{left_at, IsLeftAt, IsLeft, HasKeysIn, IsNotTakenAt, answered, KeptPast, FoundAt, AreFound, AreAllKept}
use Rattle.follow_laws.proofs.Common.{IsOpenRead, IsPast, Call, Get, Insert, Remove, Scan, Replace}
use Rattle.follow_laws.proofs.EventLemmas.{IsShown, beside, middle}
use Rattle.follow_laws.proofs.OrderLemmas.{same_call}

-- ---- calls of one key

-- a call of one key concerns only this key
pub one_key : (call : Call) (key : ℕ) → low_key call ≡ high_key call → concerns_key call key ≡ true → low_key call ≡ key
one_key (Get own) key one concerned = eqb-true own key concerned
one_key (Insert own value) key one concerned = eqb-true own key concerned
one_key (Remove own) key one concerned = eqb-true own key concerned
one_key (Scan low high) key one concerned =
    let parts = and_parts (nat_le low key) (nat_le key high) concerned in
    let first : low ≤ key = leb-true low key parts.0 in
    let second : key ≤ high = leb-true key high parts.1 in
    let same : low ≡ high = one in
    omega (arith, first, second, same)
one_key (Replace own old value) key one concerned = eqb-true own key concerned

-- a call of one key concerns that key
pub has_its_key : (call : Call) → low_key call ≡ high_key call → concerns_key call (low_key call) ≡ true
has_its_key (Get own) one = eq-eqb own own refl
has_its_key (Insert own value) one = eq-eqb own own refl
has_its_key (Remove own) one = eq-eqb own own refl
has_its_key (Scan low high) one =
    let same : low ≡ high = one in
    let first : low ≤ low = omega arith in
    let second : low ≤ high = omega (arith, same) in
    and_from (nat_le low low) (nat_le low high) (le-leb low low first) (le-leb low high second)
has_its_key (Replace own old value) one = eq-eqb own own refl

-- ---- the parts of a past

-- all that is known of an operation that is left
pub record IsFit (keys : Keys) (calls : List KeyedCall) (past : Choice) (o : Operation) : Type 0 where
  pub own : (a : KeyedCall) → Contains calls a → a.inv ≡ o.inv → (key : ℕ) → a.concerns key ≡ true → concerns_key o.call key ≡ true
  pub within : HasKeysIn keys o
  pub point : o.response ≡ None → low_key o.call ≡ high_key o.call
  pub untaken : (key : ℕ) → keys key ≡ true → past.taken o.inv key ≡ false

-- each call that was taken at these keys concerns the key at which it was
abbrev pub AreKnown : Keys → Choice → List KeyedCall → Type 0
AreKnown keys past calls =
    (inv key : ℕ) → keys key ≡ true → past.taken inv key ≡ true → (a : KeyedCall) × Contains calls a × (a.inv ≡ inv) × (a.concerns key ≡ true)

pub fit_of : (keys : Keys) (calls : List KeyedCall) (kept : KeptPast) (past : Choice) → IsPast keys calls kept past → (o : Operation)
    → Contains kept.left o → IsFit keys calls past o
fit_of keys calls kept past is o o_in = record {
  own = λ a a_in same key concerned. is.own o a o_in a_in same key concerned;
  within = All-contains (HasKeysIn keys) kept.left o is.within o_in;
  point = All-contains (λ p. (p.response ≡ None) → low_key p.call ≡ high_key p.call) kept.left o is.points o_in;
  untaken = λ key here. is.untaken o key o_in here;
}

pub left_of : (keys : Keys) (calls : List KeyedCall) (kept : KeptPast) (past : Choice) → IsPast keys calls kept past
    → IsLeft keys past 0 calls kept.pairs kept.left
left_of keys calls kept past is = record {
  alike = is.alike;
  owned = is.owned;
  whole = λ a a_in early. absurd (omega arith);
  agrees = is.agrees;
}

pub past_from : (keys : Keys) (calls : List KeyedCall) (kept : KeptPast) (past : Choice) → IsLeft keys past 0 calls kept.pairs kept.left
    → AreAllKept keys past calls kept.left → ((o : Operation) → Contains kept.left o → IsFit keys calls past o) → AreKnown keys past calls
    → AreFound keys past calls kept.found → IsPast keys calls kept past
past_from keys calls kept past left whole fit known found = record {
  alike = left.alike;
  owned = left.owned;
  whole = whole;
  agrees = left.agrees;
  own = λ o a o_in a_in. (fit o o_in).own a a_in;
  within = All-from_contains (HasKeysIn keys) kept.left (λ o o_in. (fit o o_in).within);
  points = All-from_contains (λ p. (p.response ≡ None) → low_key p.call ≡ high_key p.call) kept.left (λ o o_in. (fit o o_in).point);
  untaken = λ o key o_in. (fit o o_in).untaken key;
  known = known;
  found = found;
}

-- ---- one call

-- a pending call was not taken, if the past has nothing that it found
pub found_is_free : (keys : Keys) (calls : List KeyedCall) (past : Choice) (found : List FoundAt) (o : Operation)
    → AreFound keys past calls found → Contains calls (keyed o) → o.response ≡ None → ((f : FoundAt) → Contains found f → f.inv ≢ o.inv)
    → IsNotTakenAt keys past o.inv
found_is_free keys calls past found o are o_in pending none key is = false_from_ne_true (past.taken o.inv key) (λ taken.
    let (f, f_in, named, at) = are.whole (keyed o) key o_in (ap (λ (r : Option Response). is_some (place_of r)) pending) is taken in
    none f f_in named)

-- a call that was taken at a key of these concerns it
pub taken_concerns : (keys : Keys) (calls : List KeyedCall) (past : Choice) (o : Operation) → AreKeyedCalls calls → AreKnown keys past calls
    → Contains calls (keyed o) → (key : ℕ) → keys key ≡ true → past.taken o.inv key ≡ true → concerns_key o.call key ≡ true
taken_concerns keys calls past o apart known o_in key is taken =
    let (a, a_in, named, concerned) = known o.inv key is taken in
    subst (λ (z : KeyedCall). z.concerns key ≡ true) (same_call calls a (keyed o) apart.distinct a_in o_in named) concerned

-- ---- a pending call is answered

-- for each call there is one of its name and of its keys, if one call is another now
pub other_of : (front back : List KeyedCall) (a b : KeyedCall) → a.inv ≡ b.inv → ((key : ℕ) → a.concerns key ≡ b.concerns key) → (c : KeyedCall)
    → Contains (front ++ a ∷ back) c
    → (d : KeyedCall) × Contains (front ++ b ∷ back) d × (c.inv ≡ d.inv) × ((key : ℕ) → c.concerns key ≡ d.concerns key)
other_of front back a b inv concerns c c_in =
    ⊎_elim
    (λ same. (
      b,
      middle front b back,
      sym (ap (λ (z : KeyedCall). z.inv) same) ∙ inv,
      λ key. sym (ap (λ (z : KeyedCall). z.concerns key) same) ∙ concerns key,
    ))
    (λ rest. (c, beside front b back c rest, refl, λ key. refl))
    (Contains-around front a back c c_in)

module _ (keys : Keys) (front back : List KeyedCall) (past : Choice) (o : Operation) (response : Response) where
  pub fit_on : (p : Operation) → IsFit keys (front ++ keyed o ∷ back) past p → IsFit keys (front ++ keyed (answered response o) ∷ back) past p
  fit_on p fit = record {
    own = λ a a_in same key concerned.
        let (b, b_in, named, concerns) = other_of front back (keyed (answered response o)) (keyed o) refl (λ key. refl) a a_in in
        fit.own b b_in (sym named ∙ same) key (sym (concerns key) ∙ concerned);
    within = fit.within;
    point = fit.point;
    untaken = fit.untaken;
  }

  -- the operation itself has an answer then
  pub fit_now : IsFit keys (front ++ keyed o ∷ back) past o → IsFit keys (front ++ keyed (answered response o) ∷ back) past (answered response o)
  fit_now fit = record {
    own = (fit_on o fit).own;
    within = fit.within;
    point = λ none. let never : Some response ≡ None = none in cc;
    untaken = fit.untaken;
  }

  pub known_on : AreKnown keys past (front ++ keyed o ∷ back) → AreKnown keys past (front ++ keyed (answered response o) ∷ back)
  known_on known inv key is taken =
      let (a, a_in, same, concerned) = known inv key is taken in
      let (b, b_in, named, concerns) = other_of front back (keyed o) (keyed (answered response o)) refl (λ key. refl) a a_in in
      (b, b_in, sym named ∙ same, sym (concerns key) ∙ concerned)

  -- calls that are pending were so, and are others
  pub pending_before : (a : KeyedCall) → Contains (front ++ keyed (answered response o) ∷ back) a → is_completed a ≡ false
      → Contains (front ++ back) a
  pending_before a a_in pending =
      ⊎_elim
      (λ same. let never : true ≡ false = subst (λ (z : KeyedCall). is_completed z ≡ false) (sym same) pending in cc)
      (λ rest. rest)
      (Contains-around front (keyed (answered response o)) back a a_in)

  pub found_on : (found : List FoundAt) → AreFound keys past (front ++ keyed o ∷ back) found
      → AreFound keys past (front ++ keyed (answered response o) ∷ back) found
  found_on found are = record {
    right = are.right;
    whole = λ a key a_in pending is taken.
        are.whole a key (beside front (keyed o) back a (pending_before a a_in pending)) pending is taken;
  }

  pub whole_on : (left nexts : List Operation)
      → ((c : KeyedCall) (p : Operation) → Contains (front ++ back) c → Contains left p → IsAlikeAt keys (left_at keys past c) (keyed p)
      → Contains nexts p)
      → (is_refusal response.reply ≡ false → IsLeftAt keys past (keyed (answered response o))
      → IsShown keys past nexts (keyed (answered response o)))
      → AreAllKept keys past (front ++ keyed o ∷ back) left → AreAllKept keys past (front ++ keyed (answered response o) ∷ back) nexts
  whole_on left nexts on itself whole a a_in =
      ⊎_elim
      (λ same. subst (λ (z : KeyedCall). z.refused ≡ false → IsLeftAt keys past z → IsShown keys past nexts z ⊎ IsOpenRead z) same
      (λ accepted some. inl (itself accepted some)))
      (λ rest accepted some. ⊎_elim
      (λ shown. let (p, p_in, alike) = shown in inl (p, on a p rest p_in alike, alike))
      (λ read. inr read)
      (whole a (beside front (keyed o) back a rest) accepted some))
      (Contains-around front (keyed (answered response o)) back a a_in)

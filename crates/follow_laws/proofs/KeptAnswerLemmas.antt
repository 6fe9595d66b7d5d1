-- Parts that are kept, as calls are answered. `all_become`: the pasts of the first part become
-- others, each on its own.
use Rattle.follow_laws.proofs.Common.{◌≡◌, ℕ, suc, ◌<◌, true, false, not, List, [], ◌∷◌, ◌++◌, map, Option, None, Some, append-nil, inl, inr, sym, ap}
use Rattle.follow_laws.proofs.Common.{◌∙◌, subst, ⊎_elim, arith, ◌≢◌, AllPairs, Contains, AllZip, and_parts, append_assoc, All-nil, All-cons}
use Rattle.follow_laws.proofs.Common.{All-head, All-tail, All-append, All-weaker, All-contains, Contains-append_left, Contains-append_right}
use Rattle.follow_laws.proofs.Common.{Contains-append_cases, none-some, AllPairs-weaker, All-from_contains, Contains-around, Operation, Response}
use Rattle.follow_laws.proofs.Common.{low_key, may_change, Contents, value_at, KeyedCall, concerns_key, is_refusal, keyed, AreKeyedCalls, HasForm}
use Rattle.follow_laws.proofs.Common.{Choice, Keys, AreApart, Part, Represent, HasSomeKeyIn, HasKeysIn, HasNoKeyIn, answered, KeptPast, FoundAt}
use Rattle.follow_laws.proofs.Common.{IsPast, IsLeftOrFound, KeptPart, AreCallsBefore, IsOfCalls, IsOwn, IsKeptAs, ChangesAreAnswered}
use Rattle.follow_laws.proofs.Common.{ReadsAreAnswered, IsLeftWithAnswer, IsLeftNoMore, FoundAsAnswered, FoundOtherwise, IsAfterAnswer}
use Rattle.follow_laws.proofs.Common.{AreAfterAnswer, IsWithRead}
use Rattle.follow_laws.proofs.EventLemmas.{not_both, beside, middle, differ}
use Rattle.follow_laws.proofs.OrderLemmas.{same_call}
use Rattle.follow_laws.proofs.DropLemmas.{pasts_in_any_order}
use Rattle.follow_laws.proofs.OnePastLemmas.{taken_concerns}
use Rattle.follow_laws.proofs.PastEventLemmas.{answered_calls_are_kept, answered_reads_are_kept, others_are_answered, refused_calls_are_not_kept}
use Rattle.follow_laws.proofs.TakenLemmas.{taken_calls_agree, taken_calls_disagree}
use Rattle.follow_laws.proofs.KeptCallLemmas.{one_key_of, form_of, has_low_key, calls_answered, keyed_around}
use Rattle.follow_laws.proofs.KeptPartLemmas.{keys_in, no_key_in, IsKeptFirst, first_of, from_first, others_apart, stand_after, IsKeptPast}
use Rattle.follow_laws.proofs.KeptPartLemmas.{AreKeptPasts, pasts_go, parts_go}

-- ---- pasts that become others

-- a first past may be replaced by some
abbrev pub Becomes : (ℕ → Option ℕ) → ℕ → List Operation → Keys → List Part → Choice → List KeptPast → Type 0
Becomes held place more keys rest past nexts =
    (others : List Choice) → Represent held place (map keyed more) (record { keys = keys; pasts = past ∷ others } ∷ rest)
    → (news : List Choice) × AreKeptPasts keys more nexts news
    × Represent held place (map keyed more) (record { keys = keys; pasts = news ++ others } ∷ rest)

-- each past, one after another, becomes some
abbrev pub EachBecomes : (KeptPast → List KeptPast → Type 0) → List KeptPast → List KeptPast → Type 0
EachBecomes R [] nexts = nexts ≡ []
EachBecomes R (past ∷ pasts) nexts =
    (first : List KeptPast) × (more : List KeptPast) × (nexts ≡ first ++ more) × R past first × EachBecomes R pasts more

-- a past that is kept in another way
pub one_becomes : (held : ℕ → Option ℕ) (place : ℕ) (more : List Operation) (keys : Keys) (rest : List Part) (next : KeptPast) (past : Choice)
    (nexts : List KeptPast) → IsKeptPast keys more next past → nexts ≡ next ∷ [] → Becomes held place more keys rest past nexts
one_becomes held place more keys rest next past nexts known same others stand = (
  past ∷ [],
  subst (λ (z : List KeptPast). AreKeptPasts keys more z (past ∷ [])) (sym same)
      ((known.is, tt), All-cons (IsOwn keys more) next [] known.own (All-nil (IsOwn keys more))),
  stand,
)

pub zip_append : {A B : Type 0} (R : A → B → Type 0) (xs ys : List A) (us vs : List B) → AllZip R xs us → AllZip R ys vs → AllZip R (xs ++ ys) (us ++ vs)
zip_append R [] ys [] vs first second = second
zip_append R [] ys (u ∷ us) vs first second = absurd first
zip_append R (x ∷ xs) ys [] vs first second = absurd first
zip_append R (x ∷ xs) ys (u ∷ us) vs first second = (first.0, zip_append R xs ys us vs first.1 second)

moved : {X : Type 0} (xs ys zs : List X) (x : X) → Contains (xs ++ (ys ++ zs)) x → Contains (ys ++ (xs ++ zs)) x
moved xs ys zs x x_in =
    ⊎_elim
    (λ first. Contains-append_right ys (xs ++ zs) x (Contains-append_left xs zs x first))
    (λ rest. ⊎_elim
    (λ second. Contains-append_left ys (xs ++ zs) x second)
    (λ third. Contains-append_right ys (xs ++ zs) x (Contains-append_right xs zs x third))
    (Contains-append_cases ys zs x rest))
    (Contains-append_cases xs (ys ++ zs) x x_in)

swapped : (held : ℕ → Option ℕ) (place : ℕ) (calls : List KeyedCall) (keys : Keys) (rest : List Part) (xs ys zs : List Choice)
    → Represent held place calls (record { keys = keys; pasts = xs ++ (ys ++ zs) } ∷ rest)
    → Represent held place calls (record { keys = keys; pasts = ys ++ (xs ++ zs) } ∷ rest)
swapped held place calls keys rest xs ys zs stand =
    pasts_in_any_order held place calls keys (xs ++ (ys ++ zs)) (ys ++ (xs ++ zs)) rest (moved xs ys zs) (moved ys xs zs) stand

module _ (held : ℕ → Option ℕ) (place : ℕ) (calls more : List Operation) (keys : Keys) (rest : List Part)
    (R : KeptPast → List KeptPast → Type 0)
    (step : (kept : KeptPast) (past : Choice) (nexts : List KeptPast) → R kept nexts → IsKeptPast keys calls kept past
    → Becomes held place more keys rest past nexts) where
  these_become : (kept : List KeptPast) (pasts : List Choice) (nexts : List KeptPast) → EachBecomes R kept nexts
      → AreKeptPasts keys calls kept pasts → (others : List Choice)
      → Represent held place (map keyed more) (record { keys = keys; pasts = pasts ++ others } ∷ rest)
      → (news : List Choice) × AreKeptPasts keys more nexts news
      × Represent held place (map keyed more) (record { keys = keys; pasts = news ++ others } ∷ rest)
  these_become [] [] nexts none are others stand =
      ([], subst (λ (z : List KeptPast). AreKeptPasts keys more z []) (sym none) (tt, All-nil (IsOwn keys more)), stand)
  these_become [] (past ∷ pasts) nexts none are others stand = absurd are.0
  these_become (one ∷ kept) [] nexts each are others stand = absurd are.0
  these_become (one ∷ kept) (past ∷ pasts) nexts (first, further, same, here, each) are others stand =
      let (now, now_are, now_stand) = step one past first here
      (record { is = are.0.0; own = All-head (IsOwn keys calls) one kept are.1 }) (pasts ++ others) stand in
      let (later, later_are, later_stand) = these_become kept pasts further each (are.0.1, All-tail (IsOwn keys calls) one kept are.1)
      (now ++ others) (swapped held place (map keyed more) keys rest now pasts others now_stand) in (
        now ++ later,
        subst (λ (z : List KeptPast). AreKeptPasts keys more z (now ++ later)) (sym same) (
          zip_append (IsPast keys (map keyed more)) first further now later now_are.0 later_are.0,
          All-append (IsOwn keys more) first further now_are.1 later_are.1,
        ),
        subst (λ (all : List Choice). Represent held place (map keyed more) (record { keys = keys; pasts = all } ∷ rest))
            (sym (append_assoc now later others)) (swapped held place (map keyed more) keys rest later now others later_stand),
      )

  pub all_become : (kept : List KeptPast) (pasts : List Choice) (nexts : List KeptPast) → EachBecomes R kept nexts
      → AreKeptPasts keys calls kept pasts → Represent held place (map keyed more) (record { keys = keys; pasts = pasts } ∷ rest)
      → (news : List Choice) × AreKeptPasts keys more nexts news
      × Represent held place (map keyed more) (record { keys = keys; pasts = news } ∷ rest)
  all_become kept pasts nexts each are stand =
      let (news, news_are, news_stand) = these_become kept pasts nexts each are []
      (subst (λ (all : List Choice). Represent held place (map keyed more) (record { keys = keys; pasts = all } ∷ rest)) (sym (append-nil pasts)) stand)
      in (
        news,
        news_are,
        subst (λ (all : List Choice). Represent held place (map keyed more) (record { keys = keys; pasts = all } ∷ rest)) (append-nil news) news_stand,
      )

-- ---- a pending call is answered

-- nothing of a call is kept
pub record IsFree (o : Operation) (kept : KeptPast) : Type 0 where
  pub left : (p : Operation) → Contains kept.left p → p.inv ≢ o.inv
  pub found : (f : FoundAt) → Contains kept.found f → f.inv ≢ o.inv

-- less is kept
pub own_fewer : (calls : List Operation) (kept next : KeptPast) → ((p : Operation) → Contains next.left p → Contains kept.left p)
    → ((f : FoundAt) → Contains next.found f → Contains kept.found f) → IsOfCalls calls kept → IsOfCalls calls next
own_fewer calls kept next left found own = record {
  left = All-from_contains (Contains calls) next.left (λ p p_in. All-contains (Contains calls) kept.left p own.left (left p p_in));
  changes = All-from_contains (λ p. p.response ≡ None → may_change p.call ≡ true) next.left (λ p p_in.
      All-contains (λ q. q.response ≡ None → may_change q.call ≡ true) kept.left p own.changes (left p p_in));
  found = λ f f_in. own.found f (found f f_in);
}

module _ (place : ℕ) (front back : List Operation) (o : Operation) (response : Response) (pending : o.response ≡ None)
    (are : AreCallsBefore place (front ++ o ∷ back)) where
  -- a past, by the calls around the one that is answered
  pub around : (keys : Keys) (kept : KeptPast) (past : Choice) → IsPast keys (map keyed (front ++ o ∷ back)) kept past
      → IsPast keys (map keyed front ++ keyed o ∷ map keyed back) kept past
  around keys kept past is = subst (λ (calls : List KeyedCall). IsPast keys calls kept past) (keyed_around front back o) is

  pub from_around : (keys : Keys) (kept : KeptPast) (past : Choice)
      → IsPast keys (map keyed front ++ keyed (answered response o) ∷ map keyed back) kept past
      → IsPast keys (map keyed (front ++ answered response o ∷ back)) kept past
  from_around keys kept past is =
      subst (λ (calls : List KeyedCall). IsPast keys calls kept past) (sym (keyed_around front back (answered response o))) is

  pub apart_around : AreKeyedCalls (map keyed front ++ keyed o ∷ map keyed back)
  apart_around = subst (λ (calls : List KeyedCall). AreKeyedCalls calls) (keyed_around front back o) are.grown.apart

  -- a call of its name is it
  pub one_call : (a : Operation) → Contains (front ++ o ∷ back) a → a.inv ≡ o.inv → o ≡ a
  one_call a a_in same =
      ⊎_elim
      (λ is. is)
      (λ rest. absurd (differ (λ (c : Operation). c.inv) front o back
      (AllPairs-weaker (λ x y. x.inv < y.inv) (λ x y. x.inv ≢ y.inv) (front ++ o ∷ back) (λ x y x_in y_in less one. omega arith) are.rising)
      a rest same))
      (Contains-around front o back a a_in)

  -- the others are calls of the stream still
  pub still_call : (a : Operation) → Contains (front ++ o ∷ back) a → a.inv ≢ o.inv → Contains (front ++ answered response o ∷ back) a
  still_call a a_in other =
      ⊎_elim
      (λ same. absurd (other (ap (λ (c : Operation). c.inv) (sym same))))
      (λ rest. beside front (answered response o) back a rest)
      (Contains-around front o back a a_in)

  -- what is kept of the others is so still
  pub own_still : (kept : KeptPast) → IsFree o kept → IsOfCalls (front ++ o ∷ back) kept → IsOfCalls (front ++ answered response o ∷ back) kept
  own_still kept free own = record {
    left = All-from_contains (Contains (front ++ answered response o ∷ back)) kept.left (λ p p_in.
        still_call p (All-contains (Contains (front ++ o ∷ back)) kept.left p own.left p_in) (free.left p p_in));
    changes = own.changes;
    found = λ f f_in.
        let (a, a_in, named, none, changes) = own.found f f_in in
        (a, still_call a a_in (λ same. free.found f f_in (sym named ∙ same)), named, none, changes);
  }

  -- the call is left with its answer
  own_with : (pairs : Contents) (before after : List Operation) (found : List FoundAt)
      → IsOfCalls (front ++ answered response o ∷ back) (record { pairs = pairs; left = before ++ after; found = found })
      → IsOfCalls (front ++ answered response o ∷ back) (record { pairs = pairs; left = before ++ answered response o ∷ after; found = found })
  own_with pairs before after found own = record {
    left = All-from_contains (Contains (front ++ answered response o ∷ back)) (before ++ answered response o ∷ after) (λ p p_in. ⊎_elim
        (λ same. subst (λ (q : Operation). Contains (front ++ answered response o ∷ back) q) same (middle front (answered response o) back))
        (λ rest. All-contains (Contains (front ++ answered response o ∷ back)) (before ++ after) p own.left rest)
        (Contains-around before (answered response o) after p p_in));
    changes = All-from_contains (λ p. p.response ≡ None → may_change p.call ≡ true) (before ++ answered response o ∷ after) (λ p p_in. ⊎_elim
        (λ same. subst (λ (q : Operation). q.response ≡ None → may_change q.call ≡ true) same
        (λ none. let never : Some response ≡ None = none in cc))
        (λ rest. All-contains (λ q. q.response ≡ None → may_change q.call ≡ true) (before ++ after) p own.changes rest)
        (Contains-around before (answered response o) after p p_in));
    found = own.found;
  }

  -- each call that may change the map is still left, or what it found is kept, if that holds of all
  -- others
  pub whole_still : (keys : Keys) (kept next : KeptPast) → ((p : Operation) → p.inv ≢ o.inv → IsLeftOrFound kept p → IsLeftOrFound next p)
      → IsOwn keys (front ++ o ∷ back) kept → (p : Operation) → Contains (front ++ answered response o ∷ back) p → p.response ≡ None
      → may_change p.call ≡ true → keys (low_key p.call) ≡ true → IsLeftOrFound next p
  whole_still keys kept next on own p p_in none changes here = ⊎_elim
      (λ same. absurd (none-some response (sym none ∙ ap (λ (q : Operation). q.response) (sym same))))
      (λ rest. on p
      (differ (λ (c : Operation). c.inv) front o back
      (AllPairs-weaker (λ x y. x.inv < y.inv) (λ x y. x.inv ≢ y.inv) (front ++ o ∷ back) (λ x y x_in y_in less one. omega arith) are.rising) p rest)
      (own.whole p (beside front o back p rest) none changes here))
      (Contains-around front (answered response o) back p p_in)

  -- ---- if it has no key

  other_free : (keys : Keys) (kept : KeptPast) (past : Choice) → HasNoKeyIn keys o
      → IsPast keys (map keyed front ++ keyed o ∷ map keyed back) kept past → IsFree o kept
  other_free keys kept past out is = record {
    left = λ p p_in same.
        let (a, a_in, accepted, some, alike) = is.owned p p_in in
        let one : a ≡ keyed o = same_call (map keyed front ++ keyed o ∷ map keyed back) a (keyed o) apart_around.distinct a_in
        (middle (map keyed front) (keyed o) (map keyed back)) (sym alike.inv ∙ same) in
        let concerned : a.concerns some.0 ≡ true = (and_parts (not (past.taken a.inv some.0)) (a.concerns some.0) some.2).1 in
        not_both (concerns_key o.call some.0) (subst (λ (z : KeyedCall). z.concerns some.0 ≡ true) one concerned) (out some.0 some.1);
    found = λ f f_in same.
        let at = is.found.right f f_in in
        not_both (concerns_key o.call f.key)
        (taken_concerns keys (map keyed front ++ keyed o ∷ map keyed back) past o apart_around is.known
        (middle (map keyed front) (keyed o) (map keyed back)) f.key at.0 (subst (λ (n : ℕ). past.taken n f.key ≡ true) same at.1))
        (out f.key at.0);
  }

  pub other_then : (keys : Keys) (kept : KeptPast) (past : Choice) → HasNoKeyIn keys o → IsKeptPast keys (front ++ o ∷ back) kept past
      → IsKeptPast keys (front ++ answered response o ∷ back) kept past
  other_then keys kept past out known = record {
    is = from_around keys kept past
        (others_are_answered keys (map keyed front) (map keyed back) kept past o response apart_around out (around keys kept past known.is));
    own = record {
      of_calls = own_still kept (other_free keys kept past out (around keys kept past known.is)) known.own.of_calls;
      whole = whole_still keys kept kept (λ p other h. h) known.own;
    };
  }

  -- ---- if it is a read

  pub read_free : (kept : KeptPast) → may_change o.call ≡ false → IsOfCalls (front ++ o ∷ back) kept → IsFree o kept
  read_free kept read own = record {
    left = λ p p_in same.
        let one : o ≡ p = one_call p (All-contains (Contains (front ++ o ∷ back)) kept.left p own.left p_in) same in
        let changes : may_change p.call ≡ true =
        All-contains (λ q. q.response ≡ None → may_change q.call ≡ true) kept.left p own.changes p_in
        (subst (λ (q : Operation). q.response ≡ None) one pending) in
        not_both (may_change o.call) (subst (λ (q : Operation). may_change q.call ≡ true) (sym one) changes) read;
    found = λ f f_in same.
        let (a, a_in, named, none, changes) = own.found f f_in in
        let one : o ≡ a = one_call a a_in (named ∙ same) in
        not_both (may_change o.call) (subst (λ (q : Operation). may_change q.call ≡ true) (sym one) changes) read;
  }

  pub read_then : (keys : Keys) (kept next : KeptPast) (past : Choice) → may_change o.call ≡ false → is_refusal response.reply ≡ false
      → HasForm o.call (Some response) → HasSomeKeyIn keys o → HasKeysIn keys o → IsWithRead (answered response o) kept next
      → IsKeptPast keys (front ++ o ∷ back) kept past → IsKeptPast keys (front ++ answered response o ∷ back) next past
  read_then keys kept next past read accepted form concerned inside (before, after, left_is, earlier, later, next_is) known =
      subst (λ (z : KeptPast). IsKeptPast keys (front ++ answered response o ∷ back) z past) (sym next_is) (record {
        is = from_around keys (record { pairs = kept.pairs; left = before ++ answered response o ∷ after; found = kept.found }) past
            (answered_reads_are_kept keys (map keyed front) (map keyed back) kept.pairs before after kept.found past o response apart_around pending
            accepted form concerned inside free.found earlier later
            (subst (λ (left : List Operation). IsPast keys (map keyed front ++ keyed o ∷ map keyed back)
            (record { pairs = kept.pairs; left = left; found = kept.found }) past) left_is (around keys kept past known.is)));
        own = record {
          of_calls = own_with kept.pairs before after kept.found (subst (λ (left : List Operation). IsOfCalls (front ++ answered response o ∷ back)
              (record { pairs = kept.pairs; left = left; found = kept.found })) left_is (own_still kept free known.own.of_calls));
          whole = whole_still keys kept (record { pairs = kept.pairs; left = before ++ answered response o ∷ after; found = kept.found })
              (λ p other. ⊎_elim
              (λ left. inl (beside before (answered response o) after p (subst (λ (some : List Operation). Contains some p) left_is left)))
              (λ found. inr found)) known.own;
        };
      })
    where
      free : IsFree o kept
      free = read_free kept read known.own.of_calls

  -- ---- if it may change the map

  -- without a call that was left, a past has nothing of that call
  left_free : (keys : Keys) (kept : KeptPast) (past : Choice) (before after : List Operation) → kept.left ≡ before ++ o ∷ after
      → IsPast keys (map keyed front ++ keyed o ∷ map keyed back) kept past
      → IsFree o (record { pairs = kept.pairs; left = before ++ after; found = kept.found })
  left_free keys kept past before after left_is is = record {
    left = λ p p_in same.
        differ (λ (c : Operation). c.inv) before o after
        (subst (λ (left : List Operation). AllPairs (λ x y. x.inv ≢ y.inv) left) left_is
        (AllPairs-weaker (λ x y. x.inv < y.inv) (λ x y. x.inv ≢ y.inv) kept.left (λ x y x_in y_in less one. omega arith) is.alike.rising))
        p p_in same;
    found = λ f f_in same.
        let at = is.found.right f f_in in
        not_both (past.taken o.inv f.key) (subst (λ (n : ℕ). past.taken n f.key ≡ true) same at.1)
        (is.untaken o f.key (subst (λ (left : List Operation). Contains left o) (sym left_is) (middle before o after)) at.0);
  }

  left_own : (keys : Keys) (kept : KeptPast) (past : Choice) (before after : List Operation) → kept.left ≡ before ++ o ∷ after
      → IsKeptPast keys (front ++ o ∷ back) kept past
      → IsOfCalls (front ++ answered response o ∷ back) (record { pairs = kept.pairs; left = before ++ after; found = kept.found })
  left_own keys kept past before after left_is known =
      own_still (record { pairs = kept.pairs; left = before ++ after; found = kept.found })
      (left_free keys kept past before after left_is (around keys kept past known.is))
      (own_fewer (front ++ o ∷ back) kept (record { pairs = kept.pairs; left = before ++ after; found = kept.found })
      (λ p p_in. subst (λ (left : List Operation). Contains left p) (sym left_is) (beside before o after p p_in)) (λ f f_in. f_in) known.own.of_calls)

  -- the others are left still
  left_else : (kept : KeptPast) (before after : List Operation) → kept.left ≡ before ++ o ∷ after → (p : Operation) → p.inv ≢ o.inv
      → Contains kept.left p → Contains (before ++ after) p
  left_else kept before after left_is p other p_in = ⊎_elim
      (λ same. absurd (other (ap (λ (c : Operation). c.inv) (sym same))))
      (λ rest. rest)
      (Contains-around before o after p (subst (λ (some : List Operation). Contains some p) left_is p_in))

  left_around : (keys : Keys) (kept : KeptPast) (past : Choice) (left : List Operation) → kept.left ≡ left
      → IsKeptPast keys (front ++ o ∷ back) kept past
      → IsPast keys (map keyed front ++ keyed o ∷ map keyed back) (record { pairs = kept.pairs; left = left; found = kept.found }) past
  left_around keys kept past left left_is known =
      subst (λ (some : List Operation). IsPast keys (map keyed front ++ keyed o ∷ map keyed back)
      (record { pairs = kept.pairs; left = some; found = kept.found }) past) left_is (around keys kept past known.is)

  module _ (held : ℕ → Option ℕ) (keys : Keys) (rest : List Part) (changes : may_change o.call ≡ true) where
    left_becomes : (kept : KeptPast) (past : Choice) (nexts : List KeptPast) → IsLeftWithAnswer o response kept nexts
        → IsKeptPast keys (front ++ o ∷ back) kept past
        → Becomes held (suc place) (front ++ answered response o ∷ back) keys rest past nexts
    left_becomes kept past nexts (before, after, left_is, accepted, next_is) known =
        one_becomes held (suc place) (front ++ answered response o ∷ back) keys rest
        (record { pairs = kept.pairs; left = before ++ answered response o ∷ after; found = kept.found }) past nexts
        (record {
          is = from_around keys (record { pairs = kept.pairs; left = before ++ answered response o ∷ after; found = kept.found }) past
              (answered_calls_are_kept keys (map keyed front) (map keyed back) kept.pairs before after kept.found past o response apart_around
              accepted (form_of o.call (Some response) changes) (left_around keys kept past (before ++ o ∷ after) left_is known));
          own = record {
            of_calls = own_with kept.pairs before after kept.found (left_own keys kept past before after left_is known);
            whole = whole_still keys kept (record { pairs = kept.pairs; left = before ++ answered response o ∷ after; found = kept.found })
                (λ p other. ⊎_elim
                (λ left. inl (beside before (answered response o) after p (left_else kept before after left_is p other left)))
                (λ found. inr found)) known.own;
          };
        })
        next_is

    left_no_more : (kept : KeptPast) (past : Choice) (nexts : List KeptPast) → IsLeftNoMore o response kept nexts
        → IsKeptPast keys (front ++ o ∷ back) kept past
        → Becomes held (suc place) (front ++ answered response o ∷ back) keys rest past nexts
    left_no_more kept past nexts (before, after, left_is, refused, next_is) known =
        one_becomes held (suc place) (front ++ answered response o ∷ back) keys rest
        (record { pairs = kept.pairs; left = before ++ after; found = kept.found }) past nexts
        (record {
          is = from_around keys (record { pairs = kept.pairs; left = before ++ after; found = kept.found }) past
              (refused_calls_are_not_kept keys (map keyed front) (map keyed back) kept.pairs before after kept.found past o response apart_around
              refused (left_around keys kept past (before ++ o ∷ after) left_is known));
          own = record {
            of_calls = left_own keys kept past before after left_is known;
            whole = whole_still keys kept (record { pairs = kept.pairs; left = before ++ after; found = kept.found })
                (λ p other. ⊎_elim (λ left. inl (left_else kept before after left_is p other left)) (λ found. inr found)) known.own;
          };
        })
        next_is

    found_becomes : (kept : KeptPast) (past : Choice) (nexts : List KeptPast) → FoundAsAnswered o response kept nexts
        → IsKeptPast keys (front ++ o ∷ back) kept past
        → Becomes held (suc place) (front ++ answered response o ∷ back) keys rest past nexts
    found_becomes kept past nexts found known =
        one_becomes held (suc place) (front ++ answered response o ∷ back) keys rest next past nexts
        (record {
          is = from_around keys next past
              (taken_calls_agree keys (map keyed front) (map keyed back) kept.pairs kept.left kept.found found.others past o response found.f
              apart_around (one_key_of o.call changes) found.accepted found.is_found found.own found.fits found.each is);
          own = record {
            of_calls = own_still next free
                (own_fewer (front ++ o ∷ back) kept next (λ p p_in. p_in) (λ f f_in. ((found.each f).0 f_in).0) known.own.of_calls);
            whole = whole_still keys kept next (λ p other. ⊎_elim
                (λ left. inl left)
                (λ some.
                let (f, f_in, named, at) = some in
                inr (f, (found.each f).1 (f_in, λ same. other (sym named ∙ same)), named, at))) known.own;
          };
        })
        found.next
      where
        next : KeptPast
        next = record { pairs = kept.pairs; left = kept.left; found = found.others }

        is : IsPast keys (map keyed front ++ keyed o ∷ map keyed back) kept past
        is = around keys kept past known.is

        free : IsFree o (record { pairs = kept.pairs; left = kept.left; found = found.others })
        free = record {
          left = λ p p_in same.
              let at = is.found.right found.f found.is_found in
              not_both (past.taken p.inv found.f.key)
              (subst (λ (n : ℕ). past.taken n found.f.key ≡ true) (found.own ∙ sym same) at.1) (is.untaken p found.f.key p_in at.0);
          found = λ f f_in. ((found.each f).0 f_in).1;
        }

    found_otherwise : (kept : KeptPast) (past : Choice) (nexts : List KeptPast) → FoundOtherwise o response kept nexts
        → IsKeptPast keys (front ++ o ∷ back) kept past
        → Becomes held (suc place) (front ++ answered response o ∷ back) keys rest past nexts
    found_otherwise kept past nexts found known others stand = (
      [],
      subst (λ (z : List KeptPast). AreKeptPasts keys (front ++ answered response o ∷ back) z []) (sym found.none)
          (tt, All-nil (IsOwn keys (front ++ answered response o ∷ back))),
      subst (λ (calls : List KeyedCall). Represent held (suc place) calls (record { keys = keys; pasts = others } ∷ rest))
          (sym (keyed_around front back (answered response o)))
          (taken_calls_disagree held (suc place) keys (map keyed front) (map keyed back) kept past others rest o response found.f found.is_found
          found.own found.wrong (around keys kept past known.is)
          (subst (λ (calls : List KeyedCall). Represent held (suc place) calls (record { keys = keys; pasts = past ∷ others } ∷ rest))
          (keyed_around front back (answered response o)) stand)),
    )

    answer_becomes : (kept : KeptPast) (past : Choice) (nexts : List KeptPast) → IsAfterAnswer o response kept nexts
        → IsKeptPast keys (front ++ o ∷ back) kept past
        → Becomes held (suc place) (front ++ answered response o ∷ back) keys rest past nexts
    answer_becomes kept past nexts (inl left) known = left_becomes kept past nexts left known
    answer_becomes kept past nexts (inr (inl refused)) known = left_no_more kept past nexts refused known
    answer_becomes kept past nexts (inr (inr (inl found))) known = found_becomes kept past nexts found known
    answer_becomes kept past nexts (inr (inr (inr otherwise))) known = found_otherwise kept past nexts otherwise known

-- ---- the laws

each_answer : (o : Operation) (response : Response) (pasts nexts : List KeptPast) → AreAfterAnswer o response pasts nexts
    → EachBecomes (IsAfterAnswer o response) pasts nexts
each_answer o response [] nexts none = none
each_answer o response (past ∷ pasts) nexts (first, more, same, here, each) = (first, more, same, here, each_answer o response pasts more each)

-- the other parts stay as they are
pub others_then : (start : Contents) (place : ℕ) (front back : List Operation) (part : KeptPart) (rest : List KeptPart) (o : Operation)
    (response : Response) → o.response ≡ None → HasKeysIn part.keys o
    → (first : IsKeptFirst start place (front ++ o ∷ back) part rest)
    → AllZip (IsKeptAs (front ++ answered response o ∷ back)) rest first.others
others_then start place front back part rest o response pending inside first =
    parts_go (front ++ o ∷ back) (front ++ answered response o ∷ back) (λ keys. HasNoKeyIn keys o)
    (other_then place front back o response pending first.are_calls) rest first.others
    (All-weaker (λ other. AreApart part.keys other.keys) (λ other. HasNoKeyIn other.keys o)
    (λ other apart. no_key_in part.keys other.keys o inside apart) first.others
    (others_apart start place (front ++ o ∷ back) part rest first))
    first.are_others

pub changes_are_answered : ChangesAreAnswered
changes_are_answered start place front back part rest o response nexts pending changes at here answers are =
    let first = first_of start place (front ++ o ∷ back) part rest are in
    let after = calls_answered place front back o response pending at (form_of o.call (Some response) changes) first.are_calls in
    let (news, news_are, stand) =
    all_become (value_at start) (suc place) (front ++ o ∷ back) (front ++ answered response o ∷ back) part.keys first.others
    (IsAfterAnswer o response)
    (answer_becomes place front back o response pending first.are_calls (value_at start) part.keys first.others changes)
    part.pasts first.pasts nexts (each_answer o response part.pasts nexts answers) (first.are_pasts, first.own)
    (stand_after start place (front ++ o ∷ back) (front ++ answered response o ∷ back)
    (record { keys = part.keys; pasts = first.pasts } ∷ first.others) after first.stand) in
    from_first start (suc place) (front ++ answered response o ∷ back) (record { keys = part.keys; pasts = nexts }) rest (record {
      are_calls = after.are_calls;
      pasts = news;
      others = first.others;
      are_pasts = news_are.0;
      own = news_are.1;
      are_others = others_then start place front back part rest o response pending (keys_in part.keys o changes here) first;
      stand = stand;
    })

pub reads_are_answered : ReadsAreAnswered
reads_are_answered start place front back part rest o response nexts pending read accepted at form some here inside each are =
    let first = first_of start place (front ++ o ∷ back) part rest are in
    let after = calls_answered place front back o response pending at form first.are_calls in
    let pasts = pasts_go part.keys (front ++ o ∷ back) (front ++ answered response o ∷ back) (IsWithRead (answered response o))
    (λ kept next past with_read known.
    read_then place front back o response pending first.are_calls part.keys kept next past read accepted form
    (low_key o.call, here, has_low_key o.call some) inside with_read known)
    part.pasts nexts first.pasts each (first.are_pasts, first.own) in
    from_first start (suc place) (front ++ answered response o ∷ back) (record { keys = part.keys; pasts = nexts }) rest (record {
      are_calls = after.are_calls;
      pasts = first.pasts;
      others = first.others;
      are_pasts = pasts.0;
      own = pasts.1;
      are_others = others_then start place front back part rest o response pending inside first;
      stand = stand_after start place (front ++ o ∷ back) (front ++ answered response o ∷ back)
          (record { keys = part.keys; pasts = first.pasts } ∷ first.others) after first.stand;
    })

-- What is kept of a past before any event; and as calls begin, are answered, or are refused.
use Rattle.follow_laws.proofs.Common.{◌≡◌, ℕ, ◌<◌, true, false, not, List, [], ◌∷◌, ◌++◌, Option, None, Some, inl, inr, sym, ap, ◌∙◌, subst, ⊎_elim}
use Rattle.follow_laws.proofs.Common.{arith, ◌⊎◌, All, Contains, is_some, and_parts, false_from_ne_true, All-contains, Contains-append_left}
use Rattle.follow_laws.proofs.Common.{Contains-append_cases, Contains-nil, Contains-cases, Contains-around, Operation, Response, low_key, value_at}
use Rattle.follow_laws.proofs.Common.{KeyedCall, concerns_key, is_refusal, place_of, keyed, Choice, at_first, Keys, IsLeftAt, HasKeysIn, IsNotTakenAt}
use Rattle.follow_laws.proofs.Common.{answered, NothingIsKept, BegunCallsAreKept, OthersBegin, AnsweredCallsAreKept, AnsweredReadsAreKept}
use Rattle.follow_laws.proofs.Common.{OthersAreAnswered, RefusedCallsAreNotKept, RefusedReadsAreNotKept, KeptPast, AreFound, IsOpenRead, IsPast}
use Rattle.follow_laws.proofs.EventLemmas.{IsShown, not_both, beside, middle, differ, own_alike, begun_calls_are_left, other_calls_begin}
use Rattle.follow_laws.proofs.EventLemmas.{other_calls_are_answered, answered_calls_are_left}
use Rattle.follow_laws.proofs.AnswerLemmas.{nothing_is_left, answered_reads_are_left, refused_calls_are_not_left}
use Rattle.follow_laws.proofs.OnePastLemmas.{one_key, has_its_key, IsFit, AreKnown, fit_of, left_of, past_from, found_is_free, taken_concerns, fit_on}
use Rattle.follow_laws.proofs.OnePastLemmas.{fit_now, known_on, found_on, whole_on}

-- ---- before any event

pub nothing_is_kept : NothingIsKept
nothing_is_kept pairs rises =
    past_from (λ key. true) [] (record { pairs = pairs; left = []; found = [] }) (at_first (value_at pairs))
    (nothing_is_left (λ key. true) 0 pairs rises (λ key never. let no : true ≡ false = never in cc))
    (λ a a_in. absurd (Contains-nil a a_in))
    (λ o o_in. absurd (Contains-nil o o_in))
    (λ inv key is taken. let never : false ≡ true = taken in cc)
    (record {
      right = λ f f_in. absurd (Contains-nil f f_in);
      whole = λ a key a_in. absurd (Contains-nil a a_in);
    })

-- ---- a call begins

last_or_old : {X : Type 0} (xs : List X) (x z : X) → Contains (xs ++ x ∷ []) z → Contains xs z ⊎ (x ≡ z)
last_or_old xs x z h =
    ⊎_elim (λ old. inl old) (λ new. ⊎_elim (λ same. inr same) (λ never. absurd (Contains-nil z never)) (Contains-cases x [] z new))
    (Contains-append_cases xs (x ∷ []) z h)

-- all that is known of the calls so far; the new one is none of them
module _ (keys : Keys) (calls : List KeyedCall) (kept : KeptPast) (past : Choice) (o : Operation) (later : All (λ a. a.inv < o.inv) calls)
    (is : IsPast keys calls kept past) where
  new_name : (a : KeyedCall) → Contains calls a → a.inv ≡ o.inv → ⊥
  new_name a a_in same = let less : a.inv < o.inv = All-contains (λ b. b.inv < o.inv) calls a later a_in in omega (arith, less, same)

  -- the new call was not taken
  new_free : IsNotTakenAt keys past o.inv
  new_free key here = false_from_ne_true (past.taken o.inv key) (λ taken.
      let (a, a_in, same, concerned) = is.known o.inv key here taken in
      new_name a a_in same)

  -- nothing is left of the call yet
  not_left_yet : (p : Operation) → Contains kept.left p → p.inv ≡ o.inv → ⊥
  not_left_yet p p_in same =
      let (a, a_in, accepted, some, alike) = is.owned p p_in in
      new_name a a_in (sym alike.inv ∙ same)

  known_then : AreKnown keys past (calls ++ keyed o ∷ [])
  known_then inv key here taken =
      let (a, a_in, same, concerned) = is.known inv key here taken in
      (a, Contains-append_left calls (keyed o ∷ []) a a_in, same, concerned)

  found_then : AreFound keys past (calls ++ keyed o ∷ []) kept.found
  found_then = record {
    right = is.found.right;
    whole = λ a key a_in is_pending here taken. ⊎_elim
        (λ old. is.found.whole a key old is_pending here taken)
        (λ same. absurd (not_both (past.taken o.inv key)
        (subst (λ (z : KeyedCall). past.taken z.inv key ≡ true) (sym same) taken) (new_free key here)))
        (last_or_old calls (keyed o) a a_in);
  }

  fit_then : (p : Operation) → Contains kept.left p → IsFit keys (calls ++ keyed o ∷ []) past p
  fit_then p p_in =
      let fit : IsFit keys calls past p = fit_of keys calls kept past is p p_in in record {
        own = λ a a_in same key concerned. ⊎_elim
            (λ old. fit.own a old same key concerned)
            (λ new. absurd (not_left_yet p p_in (sym same ∙ sym (ap (λ (z : KeyedCall). z.inv) new))))
            (last_or_old calls (keyed o) a a_in);
        within = fit.within;
        point = fit.point;
        untaken = fit.untaken;
      }

pub begun_calls_are_kept : BegunCallsAreKept
begun_calls_are_kept keys calls pairs left found past o later pending one here is =
    past_from keys (calls ++ keyed o ∷ []) (record { pairs = pairs; left = left ++ o ∷ []; found = found }) past
    (begun_calls_are_left keys past 0 calls pairs left o (low_key o.call) later pending (has_its_key o.call one) inside free
    (left_of keys calls kept past is))
    (λ a a_in. ⊎_elim
    (λ old accepted some. ⊎_elim
    (λ shown. let (p, p_in, alike) = shown in inl (p, Contains-append_left left (o ∷ []) p p_in, alike))
    (λ read. inr read)
    (is.whole a old accepted some))
    (λ same. subst (λ (z : KeyedCall). z.refused ≡ false → IsLeftAt keys past z → IsShown keys past (left ++ o ∷ []) z ⊎ IsOpenRead z) same
    (λ accepted some. inl (o, middle left o [], own_alike keys past o inside free)))
    (last_or_old calls (keyed o) a a_in))
    (λ p p_in. ⊎_elim
    (λ old. fit_then keys calls kept past o later is p old)
    (λ same. subst (λ (q : Operation). IsFit keys (calls ++ keyed o ∷ []) past q) same itself)
    (last_or_old left o p p_in))
    (known_then keys calls kept past o later is)
    (found_then keys calls kept past o later is)
  where
    kept : KeptPast
    kept = record { pairs = pairs; left = left; found = found }

    inside : HasKeysIn keys o
    inside key concerned = subst (λ (k : ℕ). keys k ≡ true) (one_key o.call key one concerned) here

    free : IsNotTakenAt keys past o.inv
    free = new_free keys calls (record { pairs = pairs; left = left; found = found }) past o later is

    itself : IsFit keys (calls ++ keyed o ∷ []) past o
    itself = record {
      own = λ a a_in same key concerned. ⊎_elim
          (λ old. absurd (new_name keys calls (record { pairs = pairs; left = left; found = found }) past o later is a old same))
          (λ new. subst (λ (z : KeyedCall). z.concerns key ≡ true) (sym new) concerned)
          (last_or_old calls (keyed o) a a_in);
      within = inside;
      point = λ none. one;
      untaken = free;
    }

pub others_begin : OthersBegin
others_begin keys calls kept past o later pending idle is =
    past_from keys (calls ++ keyed o ∷ []) kept past
    (other_calls_begin keys past 0 calls kept.pairs kept.left o pending
    (⊎_elim (λ out. inl out) (λ read. inr (read, omega arith)) idle) (left_of keys calls kept past is))
    (λ a a_in. ⊎_elim
    (λ old. is.whole a old)
    (λ same. subst (λ (z : KeyedCall). z.refused ≡ false → IsLeftAt keys past z → IsShown keys past kept.left z ⊎ IsOpenRead z) same
    (λ accepted some. ⊎_elim
    (λ out. absurd (not_both (concerns_key o.call some.0)
    (and_parts (not (past.taken o.inv some.0)) (concerns_key o.call some.0) some.2).1 (out some.0 some.1)))
    (λ read. inr (ap (λ (r : Option Response). is_some (place_of r)) pending, read))
    idle))
    (last_or_old calls (keyed o) a a_in))
    (fit_then keys calls kept past o later is)
    (known_then keys calls kept past o later is)
    (found_then keys calls kept past o later is)

-- ---- a call is answered

pub answered_calls_are_kept : AnsweredCallsAreKept
answered_calls_are_kept keys front back pairs before after found past o response apart accepted form is =
    past_from keys (front ++ keyed (answered response o) ∷ back)
    (record { pairs = pairs; left = before ++ answered response o ∷ after; found = found }) past
    (answered_calls_are_left keys past 0 front back pairs before after o response apart accepted form itself.within itself.untaken
    (left_of keys (front ++ keyed o ∷ back) kept past is))
    (whole_on keys front back past o response (before ++ o ∷ after) (before ++ answered response o ∷ after)
    (λ c p c_in p_in alike. ⊎_elim
    (λ same. absurd (differ (λ (a : KeyedCall). a.inv) front (keyed o) back apart.distinct c c_in
    (sym alike.inv ∙ ap (λ (q : Operation). q.inv) (sym same))))
    (λ rest. beside before (answered response o) after p rest)
    (Contains-around before o after p p_in))
    (λ told some. (
      answered response o,
      middle before (answered response o) after,
      own_alike keys past (answered response o) itself.within itself.untaken,
    ))
    is.whole)
    (λ p p_in. ⊎_elim
    (λ same. subst (λ (q : Operation). IsFit keys (front ++ keyed (answered response o) ∷ back) past q) same
    (fit_now keys front back past o response itself))
    (λ rest. fit_on keys front back past o response p
    (fit_of keys (front ++ keyed o ∷ back) kept past is p (beside before o after p rest)))
    (Contains-around before (answered response o) after p p_in))
    (known_on keys front back past o response is.known)
    (found_on keys front back past o response found is.found)
  where
    kept : KeptPast
    kept = record { pairs = pairs; left = before ++ o ∷ after; found = found }

    itself : IsFit keys (front ++ keyed o ∷ back) past o
    itself = fit_of keys (front ++ keyed o ∷ back) (record { pairs = pairs; left = before ++ o ∷ after; found = found }) past is o
        (middle before o after)

pub answered_reads_are_kept : AnsweredReadsAreKept
answered_reads_are_kept keys front back pairs before after found past o response apart pending accepted form concerned inside none earlier later is =
    past_from keys (front ++ keyed (answered response o) ∷ back)
    (record { pairs = pairs; left = before ++ answered response o ∷ after; found = found }) past
    (answered_reads_are_left keys past 0 front back pairs before after o response concerned.0 accepted form concerned.2 inside free earlier later
    (left_of keys (front ++ keyed o ∷ back) kept past is))
    (whole_on keys front back past o response (before ++ after) (before ++ answered response o ∷ after)
    (λ c p c_in p_in alike. beside before (answered response o) after p p_in)
    (λ told some. (
      answered response o,
      middle before (answered response o) after,
      own_alike keys past (answered response o) inside free,
    ))
    is.whole)
    (λ p p_in. ⊎_elim
    (λ same. subst (λ (q : Operation). IsFit keys (front ++ keyed (answered response o) ∷ back) past q) same itself)
    (λ rest. fit_on keys front back past o response p (fit_of keys (front ++ keyed o ∷ back) kept past is p rest))
    (Contains-around before (answered response o) after p p_in))
    (known_on keys front back past o response is.known)
    (found_on keys front back past o response found is.found)
  where
    kept : KeptPast
    kept = record { pairs = pairs; left = before ++ after; found = found }

    free : IsNotTakenAt keys past o.inv
    free = found_is_free keys (front ++ keyed o ∷ back) past found o is.found (middle front (keyed o) back) pending none

    itself : IsFit keys (front ++ keyed (answered response o) ∷ back) past (answered response o)
    itself = record {
      own = λ a a_in same key there. ⊎_elim
          (λ one. subst (λ (z : KeyedCall). z.concerns key ≡ true) (sym one) there)
          (λ rest. absurd (differ (λ (c : KeyedCall). c.inv) front (keyed o) back apart.distinct a rest same))
          (Contains-around front (keyed (answered response o)) back a a_in);
      within = inside;
      point = λ open_still. let never : Some response ≡ None = open_still in cc;
      untaken = free;
    }

pub others_are_answered : OthersAreAnswered
others_are_answered keys front back kept past o response apart out is =
    past_from keys (front ++ keyed (answered response o) ∷ back) kept past
    (other_calls_are_answered keys past 0 front back kept.pairs kept.left o response out
    (λ key here taken. absurd (not_both (concerns_key o.call key)
    (taken_concerns keys (front ++ keyed o ∷ back) past o apart is.known (middle front (keyed o) back) key here taken) (out key here)))
    (left_of keys (front ++ keyed o ∷ back) kept past is))
    (whole_on keys front back past o response kept.left kept.left (λ c p c_in p_in alike. p_in)
    (λ told some. absurd (not_both (concerns_key o.call some.0)
    (and_parts (not (past.taken o.inv some.0)) (concerns_key o.call some.0) some.2).1 (out some.0 some.1)))
    is.whole)
    (λ p p_in. fit_on keys front back past o response p (fit_of keys (front ++ keyed o ∷ back) kept past is p p_in))
    (known_on keys front back past o response is.known)
    (found_on keys front back past o response kept.found is.found)

-- ---- a call is refused

pub refused_calls_are_not_kept : RefusedCallsAreNotKept
refused_calls_are_not_kept keys front back pairs before after found past o response apart refused is =
    past_from keys (front ++ keyed (answered response o) ∷ back) (record { pairs = pairs; left = before ++ after; found = found }) past
    ((refused_calls_are_not_left keys past 0 front back pairs before after o response refused free).0 apart
    (left_of keys (front ++ keyed o ∷ back) kept past is))
    (whole_on keys front back past o response (before ++ o ∷ after) (before ++ after)
    (λ c p c_in p_in alike. ⊎_elim
    (λ same. absurd (differ (λ (a : KeyedCall). a.inv) front (keyed o) back apart.distinct c c_in
    (sym alike.inv ∙ ap (λ (q : Operation). q.inv) (sym same))))
    (λ rest. rest)
    (Contains-around before o after p p_in))
    (λ told some. absurd (not_both (is_refusal response.reply) refused told))
    is.whole)
    (λ p p_in. fit_on keys front back past o response p
    (fit_of keys (front ++ keyed o ∷ back) kept past is p (beside before o after p p_in)))
    (known_on keys front back past o response is.known)
    (found_on keys front back past o response found is.found)
  where
    kept : KeptPast
    kept = record { pairs = pairs; left = before ++ o ∷ after; found = found }

    free : IsNotTakenAt keys past o.inv
    free key here = is.untaken o key (middle before o after) here

pub refused_reads_are_not_kept : RefusedReadsAreNotKept
refused_reads_are_not_kept keys front back kept past o response pending refused none none_found is =
    past_from keys (front ++ keyed (answered response o) ∷ back) kept past
    ((refused_calls_are_not_left keys past 0 front back kept.pairs [] kept.left o response refused
    (found_is_free keys (front ++ keyed o ∷ back) past kept.found o is.found (middle front (keyed o) back) pending none_found)).1 none
    (left_of keys (front ++ keyed o ∷ back) kept past is))
    (whole_on keys front back past o response kept.left kept.left (λ c p c_in p_in alike. p_in)
    (λ told some. absurd (not_both (is_refusal response.reply) refused told))
    is.whole)
    (λ p p_in. fit_on keys front back past o response p (fit_of keys (front ++ keyed o ∷ back) kept past is p p_in))
    (known_on keys front back past o response is.known)
    (found_on keys front back past o response kept.found is.found)

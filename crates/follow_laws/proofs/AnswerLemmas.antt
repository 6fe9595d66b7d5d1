-- What is left at some keys before any event; and as a call is answered that was not left, or is refused.
use Rattle.follow_laws.proofs.Common.{◌≡◌, ℕ, ◌<◌, true, false, List, ◌∷◌, ◌++◌, inl, inr, refl, sym, ap, ◌∙◌, subst, ⊎_elim, arith, ◌≢◌, ◌⊎◌, All}
use Rattle.follow_laws.proofs.Common.{AllPairs, Contains, All-nil, All-cons, All-tail, All-append, All-contains, Contains-append_cases, AllPairs-cons}
use Rattle.follow_laws.proofs.Common.{AllPairs-weaker, AllPairs-nil, AllPairs-tail, AllPairs-append, AllPairs-front, AllPairs-back, AllPairs-across}
use Rattle.follow_laws.proofs.Common.{All-front, All-back, All-from_contains, Contains-nil, Contains-around, Operation, value_at, KeyedCall}
use Rattle.follow_laws.proofs.Common.{IsNoEffect, keyed, HasForm, HaveForms, Choice, at_first, Keys, AgreesAt, left_at, IsNotTakenAt, answered}
use Rattle.follow_laws.proofs.Common.{NothingIsLeft, AnsweredReadsAreLeft, RefusedCallsAreNotLeft}
use Rattle.follow_laws.proofs.DeadLemmas.{bool_cases}
use Rattle.follow_laws.proofs.EffectRestLemmas.{none_or}
use Rattle.follow_laws.proofs.GrowLemmas.{formed}
use Rattle.follow_laws.proofs.PartLemmas.{none_left_out}
use Rattle.follow_laws.proofs.EventLemmas.{IsKnown, IsOf, left_instead, not_both, beside, middle, differ, own_alike, own_known}

pub nothing_is_left : NothingIsLeft
nothing_is_left keys limit pairs rises nothing = record {
  alike = record {
    rises = rises;
    same = λ key is. refl;
    nothing = nothing;
    rising = AllPairs-nil (λ o p. o.inv < p.inv);
    forms = All-nil (λ o. HasForm o.call o.response);
    there = λ a a_in. absurd (Contains-nil a a_in);
    back = λ o o_in. absurd (Contains-nil o o_in);
  };
  owned = λ o o_in. absurd (Contains-nil o o_in);
  whole = λ a a_in. absurd (Contains-nil a a_in);
  agrees = All-nil (AgreesAt keys (at_first (value_at pairs)));
}

-- ---- a call becomes left when it is answered

pub answered_reads_are_left : AnsweredReadsAreLeft
answered_reads_are_left keys past limit front back pairs before after o response key accepted form concerned inside free earlier later is =
    left_instead keys past limit front back pairs (keyed o) (keyed (answered response o)) (before ++ after)
    (before ++ answered response o ∷ after) rising forms
    (own_known keys past limit (before ++ answered response o ∷ after) (answered response o) (middle before (answered response o) after) inside free)
    (λ c p c_in p_in alike. beside before (answered response o) after p p_in)
    (λ p p_in. ⊎_elim
    (λ same. inl (subst (λ (q : Operation). IsOf keys past (keyed (answered response o)) q) same
    (accepted, (key, inside key concerned, rw (free key (inside key concerned)) concerned), own_alike keys past (answered response o) inside free)))
    (λ rest. inr (rest, other_name p rest))
    (Contains-around before (answered response o) after p p_in))
    is
  where
    other_name : (p : Operation) → Contains (before ++ after) p → p.inv ≢ o.inv
    other_name p p_in same =
        ⊎_elim
        (λ first. let less : p.inv < o.inv = All-contains (λ q. q.inv < o.inv) before p earlier first in omega (arith, less, same))
        (λ second. let less : o.inv < p.inv = All-contains (λ q. o.inv < q.inv) after p later second in omega (arith, less, same))
        (Contains-append_cases before after p p_in)

    rising : AllPairs (λ p q. p.inv < q.inv) (before ++ answered response o ∷ after)
    rising =
        AllPairs-append (λ p q. p.inv < q.inv) before (answered response o ∷ after)
        (AllPairs-front (λ p q. p.inv < q.inv) before after is.alike.rising)
        (AllPairs-cons (λ p q. p.inv < q.inv) (answered response o) after later (AllPairs-back (λ p q. p.inv < q.inv) before after is.alike.rising))
        (All-from_contains (λ p. All (λ q. p.inv < q.inv) (answered response o ∷ after)) before (λ p p_in.
        All-cons (λ q. p.inv < q.inv) (answered response o) after (All-contains (λ q. q.inv < o.inv) before p earlier p_in)
        (All-contains (λ q. All (λ r. q.inv < r.inv) after) before p
        (AllPairs-across (λ q r. q.inv < r.inv) before after is.alike.rising) p_in)))

    forms : HaveForms (before ++ answered response o ∷ after)
    forms =
        All-append (λ p. HasForm p.call p.response) before (answered response o ∷ after)
        (All-front (λ p. HasForm p.call p.response) before after is.alike.forms)
        (All-cons (λ p. HasForm p.call p.response) (answered response o) after form
        (All-back (λ p. HasForm p.call p.response) before after is.alike.forms))

-- ---- a call is refused

-- nothing is left of it
refused_known : (keys : Keys) (past : Choice) (limit : ℕ) (left : List Operation) (o : Operation) → (keyed o).refused ≡ true
    → IsNotTakenAt keys past o.inv → IsKnown keys past limit left (keyed o)
refused_known keys past limit left o refused free = record {
  there = inl (λ key. by_key key (bool_cases (keys key)));
  whole = λ early accepted some. absurd (not_both (keyed o).refused refused accepted);
  agrees = record {
    accepted = λ key is taken. absurd (not_both (past.taken o.inv key) taken (free key is));
    fits = λ key is taken. ((formed o).refusal refused key).fits (past.found o.inv key);
  };
}
  where
    by_key : (key : ℕ) → (keys key ≡ true) ⊎ (keys key ≡ false) → IsNoEffect ((left_at keys past (keyed o)).effect key)
    by_key key (inl is) = rw is (none_or (past.taken o.inv key) ((keyed o).effect key) ((formed o).refusal refused key))
    by_key key (inr out) = none_left_out keys past (keyed o) key out

-- pairs without one in the middle
without_middle : {X : Type 0} (R : X → X → Type 0) (front : List X) (x : X) (back : List X) → AllPairs R (front ++ x ∷ back)
    → AllPairs R (front ++ back)
without_middle R front x back pairs =
    AllPairs-append R front back (AllPairs-front R front (x ∷ back) pairs) (AllPairs-tail R x back (AllPairs-back R front (x ∷ back) pairs))
    (All-from_contains (λ z. All (R z) back) front (λ z z_in.
    All-tail (R z) x back (All-contains (λ y. All (R y) (x ∷ back)) front z (AllPairs-across R front (x ∷ back) pairs) z_in)))

pub refused_calls_are_not_left : RefusedCallsAreNotLeft
refused_calls_are_not_left keys past limit front back pairs before after o response refused free = (
  λ calls is.
      left_instead keys past limit front back pairs (keyed o) (keyed (answered response o)) (before ++ o ∷ after) (before ++ after)
      (without_middle (λ p q. p.inv < q.inv) before o after is.alike.rising)
      (All-from_contains (λ p. HasForm p.call p.response) (before ++ after) (λ p p_in.
      All-contains (λ q. HasForm q.call q.response) (before ++ o ∷ after) p is.alike.forms (beside before o after p p_in)))
      (refused_known keys past limit (before ++ after) (answered response o) refused free)
      (λ c p c_in p_in alike. ⊎_elim
      (λ same. absurd (differ (λ (a : KeyedCall). a.inv) front (keyed o) back calls.distinct c c_in
      (sym alike.inv ∙ ap (λ (q : Operation). q.inv) (sym same))))
      (λ rest. rest)
      (Contains-around before o after p p_in))
      (λ p p_in. inr (beside before o after p p_in, λ same. differ (λ (q : Operation). q.inv) before o after (names is.alike.rising) p p_in same))
      is,
  λ others is.
      left_instead keys past limit front back pairs (keyed o) (keyed (answered response o)) (before ++ after) (before ++ after) is.alike.rising
      is.alike.forms (refused_known keys past limit (before ++ after) (answered response o) refused free) (λ c p c_in p_in alike. p_in)
      (λ p p_in. inr (p_in, others p p_in)) is,
)
  where
    names : AllPairs (λ p q. p.inv < q.inv) (before ++ o ∷ after) → AllPairs (λ p q. p.inv ≢ q.inv) (before ++ o ∷ after)
    names rising =
        AllPairs-weaker (λ p q. p.inv < q.inv) (λ p q. p.inv ≢ q.inv) (before ++ o ∷ after) (λ p q p_in q_in less same. absurd (omega arith)) rising

-- A past with only one call left becomes the past after this call.
use Rattle.follow_cuts.proofs.Common.{◌≡◌, ℕ, ◌<◌, ◌≤◌, Bool, false, not, cond, List, [], ◌∷◌, length, map, Option, Some, None, inl, refl, sym, subst}
use Rattle.follow_cuts.proofs.Common.{⊎_elim, arith, ap, ◌∙◌, eq-eqb, All, AllPairs, Any, Contains, slice_get, le-ltb, none-some, same_Some, All-nil}
use Rattle.follow_cuts.proofs.Common.{All-head, All-cons, AllPairs-nil, Any-first, Contains-nil, Contains-first, Contains-cases, Operation, Response}
use Rattle.follow_cuts.proofs.Common.{is_before, precedes, NonePrecedesItself, Contents, IsLegalCall, after_call, place_of, without_call, FoundAt}
use Rattle.follow_cuts.proofs.Common.{KeptPast, IsPastAfter, found_by, Leads, IsMadeOf, found_at, kept_of, AreCut, IsCutAt, AreNexts, EndsFirst}
use Rattle.follow_cuts.proofs.Common.{IsNextAt, BecomesAfter, Branching, Found, Past}
use Rattle.follow_cuts.proofs.LeadLemmas.{becomes_leads}
use Rattle.follow_cuts.proofs.LeftLemmas.{made_itself, made_after}
use Rattle.follow_cuts.proofs.MadeLemmas.{IsShaped}
use Rattle.follow_cuts.proofs.StepLemmas.{before_some, branch_becomes}

-- a list of one element
pub only_one : {X : Type 0} (xs : List X) (x : X) → length xs ≡ 1 → slice_get xs 0 ≡ Some x → xs ≡ x ∷ []
only_one [] x one here = absurd (none-some x here)
only_one (y ∷ []) x one here = ap (λ z. z ∷ []) (same_Some y x here)
only_one (y ∷ z ∷ xs) x one here = absurd (omega (arith, one))

-- an answer does not come before itself
not_before_itself : (r : Option Response) (answered : ℕ) → place_of r ≡ Some answered → is_before r answered ≡ false
not_before_itself None answered is = refl
not_before_itself (Some response) answered is =
    let same : response.res ≡ answered = same_Some response.res answered is in le-ltb response.res answered (omega (arith, same))

-- nothing is kept of what an answered call found
none_found : (pairs : Contents) (o : Operation) (r : Option Response) (answered : ℕ) → place_of r ≡ Some answered → found_by pairs o r ≡ []
none_found pairs o None answered is = absurd (none-some answered is)
none_found pairs o (Some response) answered is = refl

none_left : (o : Operation) → without_call o.inv (o ∷ []) ≡ []
none_left o = ap (λ (b : Bool). cond (not b) (o ∷ []) []) (eq-eqb o.inv o.inv refl)

module _ (past next : Past) (o : Operation) (moment answered : ℕ) (only : past.calls.items ≡ o ∷ []) (shaped : IsShaped past)
    (is_answered : place_of o.response ≡ Some answered) (early : answered < moment) (legal : IsLegalCall past.map o.call o.response)
    (pairs : next.map ≡ after_call past.map o.call o.response) (empty : next.calls.items ≡ []) (found : next.found.items ≡ past.found.items) where
  abbrev kept : KeptPast
  kept = record { pairs = past.map; left = o ∷ []; found = map found_at past.found.items }

  abbrev after : KeptPast
  after = record { pairs = next.map; left = []; found = map found_at past.found.items }

  was_kept : kept_of past ≡ kept
  was_kept = ap (λ (l : List Operation). record { pairs = past.map; left = l; found = map found_at past.found.items }) only

  is_after : kept_of next ≡ after
  is_after =
      ap (λ (l : List Operation). record { pairs = next.map; left = l; found = map found_at next.found.items }) empty
      ∙ ap (λ (f : List Found). record { pairs = next.map; left = []; found = map found_at f }) found

  same_call : (q : Operation) → Contains (o ∷ []) q → o ≡ q
  same_call q q_in = ⊎_elim (λ same. same) (λ none. absurd (Contains-nil q none)) (Contains-cases o [] q q_in)

  comes_after : IsPastAfter kept o after
  comes_after = record {
    pairs = pairs;
    left = sym (none_left o);
    found = λ f. (
      λ h. inl h,
      λ h. ⊎_elim
          (λ was. was)
          (λ new. absurd (Contains-nil f (subst (λ (l : List FoundAt). Contains l f) (none_found past.map o o.response answered is_answered) new)))
          h,
    );
  }

  first : EndsFirst answered (o ∷ []) o
  first = record {
    is_left = Contains-first o [];
    answer = is_answered;
    first = λ q q_in. subst (λ (p : Operation). is_before p.response answered ≡ false) (same_call q q_in)
        (not_before_itself o.response answered is_answered);
  }

  apart : precedes o o ≡ false
  apart = All-head (λ (a : Operation). precedes a a ≡ false) o [] (subst NonePrecedesItself only shaped.1)

  is_next : IsNextAt answered kept o
  is_next = record {
    is_left = Contains-first o [];
    early = before_some o.response answered o.inv is_answered apart;
    legal = legal;
  }

  abbrev at_all : Branching
  at_all = record { answered = answered; keys = None }

  nexts : AreNexts at_all kept (after ∷ [])
  nexts = record {
    forth = λ q q_next has. (
      after,
      Contains-first after [],
      subst (λ (p : Operation). IsPastAfter kept p after) (same_call q q_next.is_left) comes_after,
    );
    back = λ p p_in. (
      o,
      is_next,
      subst (IsPastAfter kept o)
          (⊎_elim (λ same. same) (λ none. absurd (Contains-nil p none)) (Contains-cases after [] p p_in)) comes_after,
    );
  }

  becomes : BecomesAfter answered kept (after ∷ [])
  becomes = branch_becomes at_all kept (after ∷ []) (record { ended = o; first = first; at_keys = tt }) nexts

  made : IsMadeOf kept after
  made =
      made_after kept kept after o (subst (AllPairs (λ (a b : Operation). a.inv < b.inv)) only shaped.0) (made_itself kept)
      (Contains-first o []) comes_after

  pub alone_cut : AreCut moment 1 (past ∷ []) (next ∷ [])
  alone_cut = record {
    leads =
        subst (λ (k : KeptPast). Leads moment (k ∷ []) (kept_of next ∷ [])) (sym was_kept)
        (subst (λ (k : KeptPast). Leads moment (kept ∷ []) (k ∷ [])) (sym is_after)
        (becomes_leads moment (kept ∷ []) (after ∷ []) (becomes moment early)));
    made_of =
        All-cons (λ (k : KeptPast). Any (λ old. IsMadeOf old k) (kept_of past ∷ [])) (kept_of next) []
        (Any-first (λ (old : KeptPast). IsMadeOf old (kept_of next)) (kept_of past) []
        (subst (λ (k : KeptPast). IsMadeOf k (kept_of next)) (sym was_kept) (subst (IsMadeOf kept) (sym is_after) made)))
        (All-nil (λ (k : KeptPast). Any (λ old. IsMadeOf old k) (kept_of past ∷ [])));
    cut =
        All-cons (λ (p : Past). IsCutAt moment (kept_of p)) next []
        (subst (All (λ (q : Operation). is_before q.response moment ≡ false)) (sym empty)
        (All-nil (λ (q : Operation). is_before q.response moment ≡ false)))
        (All-nil (λ (p : Past). IsCutAt moment (kept_of p)));
    shaped =
        All-cons IsShaped next [] (
          subst (AllPairs (λ (a b : Operation). a.inv < b.inv)) (sym empty) (AllPairs-nil (λ (a b : Operation). a.inv < b.inv)),
          subst NonePrecedesItself (sym empty) (All-nil (λ (a : Operation). precedes a a ≡ false)),
        )
        (All-nil IsShaped);
    few = omega arith;
  }

-- as many pasts are allowed as there are, or more
pub more_allowed : (moment most : ℕ) (pasts made : List Past) → 1 ≤ most → AreCut moment 1 pasts made → AreCut moment most pasts made
more_allowed moment most pasts made less are = record {
  leads = are.leads;
  made_of = are.made_of;
  cut = are.cut;
  shaped = are.shaped;
  few = omega (arith, less, are.few);
}

-- Parts that are kept before any event, and as calls begin.
use Rattle.follow_laws.proofs.Common.{◌≡◌, ℕ, suc, ◌<◌, true, false, List, [], ◌∷◌, ◌++◌, map, None, inl, inr, refl, sym, subst, ⊎_elim, ◌⊎◌, All}
use Rattle.follow_laws.proofs.Common.{Contains, All-nil, All-cons, All-append, All-weaker, Contains-append_left, All-from_contains, Contains-nil}
use Rattle.follow_laws.proofs.Common.{Operation, low_key, may_change, value_at, KeyedCall, concerns_key, keyed, Choice, at_first, Keys, AreApart}
use Rattle.follow_laws.proofs.Common.{IsRead, HasNoKeyIn, KeptPast, IsPast, IsLeftOrFound, AreCallsBefore, IsOfCalls, IsOwn, at_rest, AllIsKept}
use Rattle.follow_laws.proofs.Common.{ChangesBegin, ReadsBegin, with_begun}
use Rattle.follow_laws.proofs.EventLemmas.{not_both, middle}
use Rattle.follow_laws.proofs.StepLemmas.{parts_begin}
use Rattle.follow_laws.proofs.PastEventLemmas.{nothing_is_kept, begun_calls_are_kept, others_begin}
use Rattle.follow_laws.proofs.KeptCallLemmas.{one_key_of, has_low_key, low_is_not_above, reads_leave, last_or_old, no_calls, calls_begun, keyed_begun}
use Rattle.follow_laws.proofs.KeptPartLemmas.{keys_in, no_key_in, own_at_rest, first_of, from_first, others_apart, stand_after, IsKeptPast, pasts_go}
use Rattle.follow_laws.proofs.KeptPartLemmas.{zip_map, parts_go}

pub all_is_kept : AllIsKept
all_is_kept start rises = record {
  are_calls = no_calls;
  parts = record { keys = λ key. true; pasts = at_first (value_at start) ∷ [] } ∷ [];
  are_parts = (
    record {
      keys = refl;
      pasts = (nothing_is_kept start rises, tt);
      own = All-cons (IsOwn (λ key. true) []) (at_rest start) []
          (record { of_calls = own_at_rest [] start; whole = λ o o_in pending changes here. absurd (Contains-nil o o_in) })
          (All-nil (IsOwn (λ key. true) []));
    },
    tt,
  );
  stand = parts_begin (value_at start);
}

-- ---- a call begins

module _ (place : ℕ) (calls : List Operation) (o : Operation) (at : o.inv ≡ place) (pending : o.response ≡ None)
    (are : AreCallsBefore place calls) where
  begun_earlier : All (λ a. a.inv < o.inv) (map keyed calls)
  begun_earlier = subst (λ (n : ℕ). All (λ (a : KeyedCall). a.inv < n) (map keyed calls)) (sym at) are.grown.begun

  of_calls_then : (kept : KeptPast) → IsOfCalls calls kept → IsOfCalls (calls ++ o ∷ []) kept
  of_calls_then kept own = record {
    left = All-weaker (Contains calls) (Contains (calls ++ o ∷ [])) (λ p p_in. Contains-append_left calls (o ∷ []) p p_in) kept.left own.left;
    changes = own.changes;
    found = λ f f_in.
        let (a, a_in, same, none, changes) = own.found f f_in in (a, Contains-append_left calls (o ∷ []) a a_in, same, none, changes);
  }

  -- if each call before is left, or what it found is known, each is so after one more call
  whole_then : (keys : Keys) (kept next : KeptPast) → ((p : Operation) → IsLeftOrFound kept p → IsLeftOrFound next p)
      → (may_change o.call ≡ true → keys (low_key o.call) ≡ true → IsLeftOrFound next o) → IsOwn keys calls kept
      → (p : Operation) → Contains (calls ++ o ∷ []) p → p.response ≡ None → may_change p.call ≡ true → keys (low_key p.call) ≡ true
      → IsLeftOrFound next p
  whole_then keys kept next on own_one own p p_in none changes here = ⊎_elim
      (λ old. on p (own.whole p old none changes here))
      (λ same. subst (IsLeftOrFound next) same
      (own_one (subst (λ (q : Operation). may_change q.call ≡ true) (sym same) changes)
      (subst (λ (q : Operation). keys (low_key q.call) ≡ true) (sym same) here)))
      (last_or_old calls o p p_in)

  -- if the call has no key of a part, or is a read, the part stays as it is
  other_then : (keys : Keys) (kept : KeptPast) (past : Choice) → HasNoKeyIn keys o ⊎ (may_change o.call ≡ false) → IsKeptPast keys calls kept past
      → IsKeptPast keys (calls ++ o ∷ []) kept past
  other_then keys kept past idle known = record {
    is = subst (λ (more : List KeyedCall). IsPast keys more kept past) (sym (keyed_begun calls o))
        (others_begin keys (map keyed calls) kept past o begun_earlier pending (no_change idle)
        known.is);
    own = record {
      of_calls = of_calls_then kept known.own.of_calls;
      whole = whole_then keys kept kept (λ p h. h) (λ changes here. absurd (never changes here idle)) known.own;
    };
  }
    where
      no_change : HasNoKeyIn keys o ⊎ (may_change o.call ≡ false) → HasNoKeyIn keys o ⊎ IsRead (keyed o)
      no_change (inl out) = inl out
      no_change (inr read) = inr (reads_leave o read)

      never : may_change o.call ≡ true → keys (low_key o.call) ≡ true → HasNoKeyIn keys o ⊎ (may_change o.call ≡ false) → ⊥
      never changes here (inl out) =
          not_both (concerns_key o.call (low_key o.call)) (has_low_key o.call (low_is_not_above o.call changes)) (out (low_key o.call) here)
      never changes here (inr read) = not_both (may_change o.call) changes read

  -- a call that may change the map, and has its key in the part, is left there
  change_then : (keys : Keys) (kept : KeptPast) (past : Choice) → may_change o.call ≡ true → keys (low_key o.call) ≡ true
      → IsKeptPast keys calls kept past → IsKeptPast keys (calls ++ o ∷ []) (with_begun o kept) past
  change_then keys kept past changes here known =
      let before = of_calls_then kept known.own.of_calls in record {
        is = subst (λ (more : List KeyedCall). IsPast keys more (with_begun o kept) past) (sym (keyed_begun calls o))
            (begun_calls_are_kept keys (map keyed calls) kept.pairs kept.left kept.found past o begun_earlier pending (one_key_of o.call changes)
            here known.is);
        own = record {
          of_calls = record {
            left = All-append (Contains (calls ++ o ∷ [])) kept.left (o ∷ []) before.left
                (All-cons (Contains (calls ++ o ∷ [])) o [] (middle calls o []) (All-nil (Contains (calls ++ o ∷ []))));
            changes = All-append (λ p. p.response ≡ None → may_change p.call ≡ true) kept.left (o ∷ []) before.changes
                (All-cons (λ p. p.response ≡ None → may_change p.call ≡ true) o [] (λ none. changes)
                (All-nil (λ p. p.response ≡ None → may_change p.call ≡ true)));
            found = before.found;
          };
          whole = whole_then keys kept (with_begun o kept)
              (λ p. ⊎_elim (λ left. inl (Contains-append_left kept.left (o ∷ []) p left)) (λ found. inr found))
              (λ changes here. inl (middle kept.left o [])) known.own;
        };
      }

pub reads_begin : ReadsBegin
reads_begin start place calls parts o at pending read are =
    let after = calls_begun place calls o at pending are.are_calls in record {
      are_calls = after.are_calls;
      parts = are.parts;
      are_parts = parts_go calls (calls ++ o ∷ []) (λ keys. HasNoKeyIn keys o ⊎ (may_change o.call ≡ false))
          (other_then place calls o at pending are.are_calls) parts are.parts
          (All-from_contains (λ part. HasNoKeyIn part.keys o ⊎ (may_change o.call ≡ false)) are.parts (λ part part_in. inr read))
          are.are_parts;
      stand = stand_after start place calls (calls ++ o ∷ []) are.parts after are.stand;
    }

pub changes_begin : ChangesBegin
changes_begin start place calls part rest o at pending changes here are =
    let first = first_of start place calls part rest are in
    let after = calls_begun place calls o at pending first.are_calls in
    let pasts = pasts_go part.keys calls (calls ++ o ∷ []) (λ kept next. with_begun o kept ≡ next)
    (λ kept next past same known. subst (λ (z : KeptPast). IsKeptPast part.keys (calls ++ o ∷ []) z past) same
    (change_then place calls o at pending first.are_calls part.keys kept past changes here known))
    part.pasts (map (with_begun o) part.pasts) first.pasts
    (zip_map (λ kept next. with_begun o kept ≡ next) (with_begun o) part.pasts (λ kept. refl)) (first.are_pasts, first.own) in
    from_first start (suc place) (calls ++ o ∷ []) (record { keys = part.keys; pasts = map (with_begun o) part.pasts }) rest (record {
      are_calls = after.are_calls;
      pasts = first.pasts;
      others = first.others;
      are_pasts = pasts.0;
      own = pasts.1;
      are_others = parts_go calls (calls ++ o ∷ []) (λ keys. HasNoKeyIn keys o ⊎ (may_change o.call ≡ false))
          (other_then place calls o at pending first.are_calls) rest first.others
          (All-weaker (λ other. AreApart part.keys other.keys) (λ other. HasNoKeyIn other.keys o ⊎ (may_change o.call ≡ false))
          (λ other apart. inl (no_key_in part.keys other.keys o (keys_in part.keys o changes here) apart)) first.others
          (others_apart start place calls part rest first))
          first.are_others;
      stand = stand_after start place calls (calls ++ o ∷ []) (record { keys = part.keys; pasts = first.pasts } ∷ first.others) after first.stand;
    })

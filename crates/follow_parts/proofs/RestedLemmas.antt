-- A part with one past, of which only one call is left, at a moment after the answer of this call: all keys are at rest (`all_rested`),
-- and the part moves on (`comes_to_rest`).
use Rattle.follow_parts.proofs.Common.{◌≡◌, ℕ, ◌+◌, ◌<◌, Bool, true, false, cond, not, List, [], ◌∷◌, append-nil, length, map, Option, None, Some, inl}
use Rattle.follow_parts.proofs.Common.{inr, refl, sym, ap, ◌∙◌, subst, ⊎_elim, arith, ◌⊎◌, All, Any, Contains, AllZip, false≢true, and_parts}
use Rattle.follow_parts.proofs.Common.{eq-eqb, none-some, same_Some, All-nil, All-cons, All-head, All-contains, Any-first, Contains-nil}
use Rattle.follow_parts.proofs.Common.{Contains-first, Contains-cases, slice_get, is_some, Operation, Response, is_before, precedes}
use Rattle.follow_parts.proofs.Common.{NonePrecedesItself, Contents, IsLegalCall, HasKeysIn, KeptPast, FoundAt, IsPast, IsPastShaped}
use Rattle.follow_parts.proofs.Common.{AreKept, at_rest, pasts_move_on, kept_of, found_at, Found, Past, covered, kept_part, past_of}
use Rattle.follow_parts.proofs.Common.{Vec, Global, Part, OpenRead, AreBegunAfter, MovesOn}
use Rattle.follow_parts.proofs.MovedLemmas.{reads_began}
use Rattle.std.proofs.lemmas.Bool.{ltb-true}
use Rattle.orders.specs.Orders.{after_call}
use Rattle.follow_laws.specs.Choices.{Choice}
use Rattle.follow_laws.specs.Growth.{HaveGrown}
use Rattle.follow_laws.specs.KeyedCalls.{KeyedCall, is_completed, place_of}
use Rattle.follow_laws.proofs.OrderLemmas.{same_call}
use Rattle.follow_laws.specs.Operations.{HasSomeKeyIn, OperationMayCome, without_call}
use Rattle.follow_laws.specs.Parts.{Represent}
use Rattle.follow_laws.specs.Leads.{IsMadeOf, Leads, Setting, Stand}
use Rattle.follow_laws.specs.Pasts.{IsNameKept, IsPastAfter, OpenReadsBeganAfter, found_by}
use Rattle.follow_laws.proofs.KeptNextLemmas.{pasts_come_next}
use Rattle.follow_parts.specs.Settled.{AreAtRestThen}

-- a list of one element
pub only_one : {X : Type 0} (xs : List X) (x : X) → length xs ≡ 1 → slice_get xs 0 ≡ Some x → xs ≡ x ∷ []
only_one [] x one here = absurd (none-some x here)
only_one (y ∷ []) x one here = ap (λ z. z ∷ []) (same_Some y x here)
only_one (y ∷ z ∷ xs) x one here = absurd (omega (arith, one))

none_left : (o : Operation) → without_call o.inv (o ∷ []) ≡ []
none_left o = ap (λ (b : Bool). cond (not b) (o ∷ []) []) (eq-eqb o.inv o.inv refl)

module _ (pairs : Contents) (o : Operation) (response : Response) (is_answered : o.response ≡ Some response) (apart : precedes o o ≡ false)
    (legal : IsLegalCall pairs o.call o.response) (moment : ℕ) (early : response.res < moment) where
  abbrev kept : KeptPast
  kept = record { pairs = pairs; left = o ∷ []; found = [] }

  abbrev after : KeptPast
  after = at_rest (after_call pairs o.call o.response)

  same_operation : (q : Operation) → Contains (o ∷ []) q → o ≡ q
  same_operation q q_in = ⊎_elim (λ same. same) (λ none. absurd (Contains-nil q none)) (Contains-cases o [] q q_in)

  same_past : (p : KeptPast) → Contains (after ∷ []) p → after ≡ p
  same_past p p_in = ⊎_elim (λ same. same) (λ none. absurd (Contains-nil p none)) (Contains-cases after [] p p_in)

  answered_at : place_of o.response ≡ Some response.res
  answered_at = ap place_of is_answered

  comes_after : IsPastAfter kept o after
  comes_after = record {
    pairs = refl;
    left = sym (none_left o);
    found = λ f. (
      λ h. inl h,
      λ h. ⊎_elim
          (λ was. was)
          (λ new. subst (λ (r : Option Response). Contains (found_by pairs o r) f) is_answered new)
          h,
    );
  }

  made : IsMadeOf kept after
  made = record {
    left = λ q h. absurd (Contains-nil q h);
    found = All-nil (λ (f : FoundAt). Contains kept.found f
        ⊎ ((p : Operation) × Contains kept.left p × (p.inv ≡ f.inv) × (p.response ≡ None)));
    stay = λ f h. h;
    whole = λ q q_in pending.
        absurd (none-some response (sym pending ∙ (ap (λ (p : Operation). p.response) (sym (same_operation q q_in)) ∙ is_answered)));
  }

  -- the part among others
  module _ (s : Setting) (past : Choice) (is : IsPast s.keys s.calls kept past) (grown : HaveGrown s.place s.calls s.calls) where
    some_key : HasSomeKeyIn s.keys o
    some_key =
        let (a, a_in, accepted, some, alike) = is.owned o (Contains-first o []) in
        let concerned : a.concerns some.0 ≡ true = (and_parts (not (past.taken a.inv some.0)) (a.concerns some.0) some.2).1 in
        (some.0, some.1, is.own o a (Contains-first o []) a_in (sym alike.inv) some.0 concerned)

    may_come : OperationMayCome s.keys pairs (o ∷ []) o
    may_come = record {
      concerned = some_key;
      legal = legal;
      first = λ q q_in some. subst (λ (p : Operation). precedes p o ≡ false) (same_operation q q_in) apart;
    }

    not_named : (a : KeyedCall) → Contains s.calls a → is_completed a ≡ false → IsNameKept kept a → ⊥
    not_named a a_in pending (inr (f, f_in, named, here)) = Contains-nil f f_in
    not_named a a_in pending (inl (p, p_in, named)) =
        let (b, b_in, accepted, some, alike) = is.owned o (Contains-first o []) in
        let own : o.inv ≡ a.inv = ap (λ (q : Operation). q.inv) (same_operation p p_in) ∙ named in
        let one : b ≡ a = same_call s.calls b a grown.apart.distinct b_in a_in (sym alike.inv ∙ own) in
        let done : is_completed a ≡ true =
        ap is_completed (sym one) ∙ (ap is_some (sym alike.res) ∙ ap is_some answered_at) in
        false≢true (sym pending ∙ done)

    reads_after : OpenReadsBeganAfter s.keys moment s.calls kept → OpenReadsBeganAfter s.keys moment s.calls after
    reads_after late a key a_in pending here concerned = ⊎_elim
        (λ began. inl began)
        (λ there. absurd (not_named a a_in pending.0 there))
        (late a key a_in pending here concerned)

    reads_before : OpenReadsBeganAfter s.keys moment s.calls kept → OpenReadsBeganAfter s.keys (response.res + 1) s.calls kept
    reads_before late a key a_in pending here concerned = ⊎_elim
        (λ began. inl (omega (arith, began, early)))
        (λ there. inr there)
        (late a key a_in pending here concerned)

    stands : Represent s.held s.place s.calls (record { keys = s.keys; pasts = past ∷ [] } ∷ s.rest)
        → OpenReadsBeganAfter s.keys moment s.calls kept → Stand moment s (after ∷ [])
    stands stand late =
        let (news, news_are, new_stand) =
        pasts_come_next s.held s.place response.res s.calls s.keys s.keys kept past [] s.rest (after ∷ []) o grown.apart grown.formed
        (λ key here. here) (Contains-first o []) answered_at some_key
        (λ q q_in before some. All-contains (HasKeysIn s.keys) (o ∷ []) q is.within q_in) (reads_before late) is
        (λ q q_in may. (after, Contains-first after [], subst (λ (p : Operation). IsPastAfter kept p after) (same_operation q q_in) comes_after))
        (λ next next_in. (o, Contains-first o [], may_come, subst (IsPastAfter kept o) (same_past next next_in) comes_after))
        stand in (
          news,
          news_are,
          subst (λ (cs : List Choice). Represent s.held s.place s.calls (record { keys = s.keys; pasts = cs } ∷ s.rest)) (append-nil news) new_stand,
          All-cons (OpenReadsBeganAfter s.keys moment s.calls) after [] (reads_after late) (All-nil (OpenReadsBeganAfter s.keys moment s.calls)),
        )

  leads : Leads moment (kept ∷ []) (after ∷ [])
  leads s grown (pasts, pasts_are, stand, reads) =
      by_pasts pasts pasts_are stand
    where
      by_pasts : (pasts : List Choice) → AllZip (IsPast s.keys s.calls) (kept ∷ []) pasts
          → Represent s.held s.place s.calls (record { keys = s.keys; pasts = pasts } ∷ s.rest) → Stand moment s (after ∷ [])
      by_pasts [] each stand = absurd each
      by_pasts (past ∷ []) each stand =
          stands s past each.0 grown stand (All-head (OpenReadsBeganAfter s.keys moment s.calls) kept [] reads)
      by_pasts (past ∷ other ∷ more) each stand = absurd each.1

  pub one_rested : (part : Part) → (kept_part part).pasts ≡ kept ∷ [] → AreAtRestThen moment part (after_call pairs o.call o.response)
  one_rested part one start now calls more began are =
      pasts_move_on start now moment calls (covered part.ranges.items) (kept ∷ []) (after ∷ []) more began leads
      (All-cons (λ (k : KeptPast). Any (λ old. IsMadeOf old k) (kept ∷ [])) after []
      (Any-first (λ (old : KeptPast). IsMadeOf old after) kept [] made) (All-nil (λ (k : KeptPast). Any (λ old. IsMadeOf old k) (kept ∷ []))))
      (subst (λ (ps : List KeptPast). AreKept start now calls (record { keys = covered part.ranges.items; pasts = ps } ∷ more)) one are)

-- what is kept of the pasts of a part
abbrev pasts_with : Contents → List Operation → List Found → List Past → List KeptPast
pasts_with start calls found others = record { pairs = start; left = calls; found = map found_at found } ∷ map kept_of others

pub all_rested : (part : Part) (o : Operation) (pairs : Contents) (moment : ℕ) → part.first.calls ≡ o ∷ [] → part.found.items ≡ []
    → part.others.items ≡ [] → is_before o.response moment ≡ true → IsLegalCall part.first.start o.call o.response
    → pairs ≡ after_call part.first.start o.call o.response → All IsPastShaped (kept_part part).pasts → AreAtRestThen moment part pairs
all_rested part o pairs moment only none alone early legal is shaped = by_response o.response refl early
  where
    one : (kept_part part).pasts ≡ pasts_with part.first.start (o ∷ []) [] []
    one =
        ap (λ (l : List Operation). pasts_with part.first.start l part.found.items part.others.items) only
        ∙ (ap (λ (f : List Found). pasts_with part.first.start (o ∷ []) f part.others.items) none
        ∙ ap (λ (ps : List Past). pasts_with part.first.start (o ∷ []) [] ps) alone)

    first : IsPastShaped (past_of part.first part.found.items)
    first = All-head IsPastShaped (past_of part.first part.found.items) (map kept_of part.others.items) shaped

    apart : precedes o o ≡ false
    apart = All-head (λ (a : Operation). precedes a a ≡ false) o [] (subst NonePrecedesItself only first.apart)

    by_response : (r : Option Response) → o.response ≡ r → is_before r moment ≡ true → AreAtRestThen moment part pairs
    by_response None unanswered before = absurd (false≢true before)
    by_response (Some response) answered before =
        subst (AreAtRestThen moment part) (sym is)
        (one_rested part.first.start o response answered apart legal moment (ltb-true response.res moment before) part one)

-- the part moves on: nothing is left of it
pub comes_to_rest : (now : ℕ) (reads : List OpenRead) (part : Part) (moment : ℕ) (pairs : Vec (ℕ × ℕ) Global)
    → AreBegunAfter part.ranges.items reads moment → AreAtRestThen moment part pairs.items
    → MovesOn now reads part (record { pairs = pairs; left = None })
comes_to_rest now reads part moment pairs after rest = record {
  shaped = tt;
  leads = λ start calls more are_reads are. (
    rest start now calls more (reads_began part.ranges.items reads moment calls after are_reads) are,
    tt,
  );
}

-- The segment of all calls of a history that belong to one: its orders and its fronts, by numbers.
use Rattle.cli_explain.proofs.Common.{◌≡◌, ℕ, ◌+◌, ◌<◌, true, List, [], ◌∷◌, ◌++◌, length, Option, Some, None, refl, sym, ap, ap₂, ◌∙◌, subst, arith}
use Rattle.cli_explain.proofs.Common.{IsTrue, IsSomeAnd, slice_get, slice_index, All, Contains, or_left, length-append, All-head, All-tail}
use Rattle.cli_explain.proofs.Common.{All-contains, Contains-get_or, same_Some, slice_get_within, Operation, may_change, is_completed, belongs}
use Rattle.cli_explain.proofs.Common.{precedes, Contains-map, All-from_contains, Contains-at, Contents, within, after_call, after_calls, calls_at}
use Rattle.cli_explain.proofs.Common.{IsLegalCall, IsLegalOrder, IsCompletedAt, IsOrder, IsLinearizable, at_places, place_of, slice_get-at_place}
use Rattle.cli_explain.proofs.Common.{calls_at-at_places, IsLegalOrder-numbers, IsCompletedAt-place, Contains-place, SegmentView, NamesKeysWithin}
use Rattle.cli_explain.proofs.Common.{IsSegmentView, BelongsAt-below, All-calls_at, RangesSuffice}
use Rattle.memo.specs.Fronts.{PrecedesAt, IsFront}
use Rattle.memo.proofs.FrontLemmas.{IsFront-push}
use Rattle.orders.specs.Cuts.{BelongsAt}
use Rattle.orders.specs.SegmentOrders.{HasNoOrder}
use Rattle.orders.specs.WholeSegments.{IsWholeSegment}
use Rattle.orders.proofs.RangeLemmas.{IsInside, within-after_call, IsLegalCall-within}

-- a completed call belongs to a segment
pub completed_belongs : (o : Option Operation) → IsSomeAnd o (λ a. IsTrue (is_completed a)) → IsSomeAnd o (λ a. IsTrue (belongs a))
completed_belongs None h = h
completed_belongs (Some a) h = or_left (is_completed a) (may_change a.call) h

inside_of : (low high : ℕ) (a : Operation) → NamesKeysWithin low high a.call → IsInside low high a.call
inside_of low high a h = record { low_inside = h.low_within; high_inside = h.high_within }

-- calls within a range leave the pairs of the range as they do all
after_within : (low high : ℕ) (m : Contents) (calls : List Operation) → All (λ a. NamesKeysWithin low high a.call) calls
    → within low high (after_calls m calls) ≡ after_calls (within low high m) calls
after_within low high m [] h = refl
after_within low high m (a ∷ calls) h =
    let keys = λ (b : Operation). NamesKeysWithin low high b.call in
    after_within low high (after_call m a.call a.response) calls (All-tail keys a calls h)
    ∙ ap (λ (n : Contents). after_calls n calls)
    (within-after_call low high m a.call a.response (inside_of low high a (All-head keys a calls h)))

module _ (start : Contents) (calls : List Operation) (s : SegmentView) (whole : IsWholeSegment start calls s) (view : IsSegmentView s) where
  known : All (λ n. n < length calls) s.numbers
  known = All-from_contains (λ n. n < length calls) s.numbers (λ n is. BelongsAt-below calls n ((whole.members n).0 is))

  its_calls : s.calls ≡ calls_at calls s.numbers
  its_calls = ap (λ (v : SegmentView). v.calls) whole.view

  its_start : s.start ≡ within s.lo s.hi start
  its_start =
      ap (λ (v : SegmentView). v.start) whole.view
      ∙ ap₂ (λ lo hi. within lo hi start) (ap (λ (v : SegmentView). v.lo) (sym whole.view))
      (ap (λ (v : SegmentView). v.hi) (sym whole.view))

  -- if all calls have no order, it has none
  pub whole_has_no_order : RangesSuffice → (IsLinearizable start calls → ⊥) → HasNoOrder s
  whole_has_no_order suffice refuted (places, h) =
      let order : IsOrder start s.calls places =
      (suffice s.lo s.hi start s.calls places view.keys).1 (subst (λ (m : Contents). IsOrder m s.calls places) its_start h) in
      let legal = subst (λ (taken : List Operation). IsLegalOrder start taken places) its_calls order.legal_order in
      refuted (
        at_places s.numbers places,
        record {
          legal_order = IsLegalOrder-numbers start calls s.numbers places known whole.rising legal;
          complete = λ n completed.
              let (place, below, is) = place_of s.numbers n ((whole.members n).1 (completed_belongs (slice_get calls n) completed)) in
              let here = IsCompletedAt-place calls s.numbers place known below (subst (IsCompletedAt calls) (sym is) completed) in
              let taken = order.complete place (subst (λ (l : List Operation). IsCompletedAt l place) (sym its_calls) here) in
              subst (Contains (at_places s.numbers places)) is (Contains-map (λ place. slice_index s.numbers place) places place taken);
        },
      )

  -- a front of it goes on with a call that belongs, is not taken, and that no call left precedes,
  -- where it is legal after the front
  pub whole_front_goes_on : (places : List ℕ) → IsFront s.start s.calls places → (n : ℕ) (a : Operation) → slice_get calls n ≡ Some a
      → belongs a ≡ true → (Contains (at_places s.numbers places) n → ⊥)
      → ((k : ℕ) → BelongsAt calls k → PrecedesAt calls k n → Contains (at_places s.numbers places) k)
      → IsLegalCall (after_calls start (calls_at calls (at_places s.numbers places))) a.call a.response
      → (other : List ℕ) × IsFront s.start s.calls other × (length other ≡ length places + 1)
  whole_front_goes_on places h n a a_at a_belongs out preceded legal =
      let belongs_here : BelongsAt calls n = rw a_at a_belongs in
      let (place, below, is) = place_of s.numbers n ((whole.members n).1 belongs_here) in
      let at_place : (p : ℕ) → p < length s.numbers → slice_get s.calls p ≡ slice_get calls (slice_index s.numbers p) =
      λ p p_below. ap (λ (l : List Operation). slice_get l p) its_calls ∙ slice_get-at_place calls s.numbers p known p_below in
      let here : slice_get s.calls place ≡ Some a = at_place place below ∙ (ap (slice_get calls) is ∙ a_at) in
      let all_within : All (λ p. p < length s.numbers) places = subst (λ size. All (λ p. p < size) places) view.one_call_each h.known in
      let taken = calls_at s.calls places in
      let same_taken : taken ≡ calls_at calls (at_places s.numbers places) =
      ap (λ (l : List Operation). calls_at l places) its_calls ∙ calls_at-at_places calls s.numbers places known all_within in
      let keys = λ (b : Operation). NamesKeysWithin s.lo s.hi b.call in
      let same_pairs : within s.lo s.hi (after_calls start (calls_at calls (at_places s.numbers places))) ≡ after_calls s.start taken =
      ap (λ (l : List Operation). within s.lo s.hi (after_calls start l)) (sym same_taken)
      ∙ (after_within s.lo s.hi start taken (All-calls_at keys s.calls places view.keys)
      ∙ ap (λ (m : Contents). after_calls m taken) (sym its_start)) in
      let inside = inside_of s.lo s.hi a (All-contains keys s.calls a view.keys (Contains-at s.calls place a here)) in
      let front = IsFront-push s.start s.calls places place a h here
      (λ there. out (subst (Contains (at_places s.numbers places)) is (Contains-map (λ p. slice_index s.numbers p) places place there)))
      (λ m before.
      let (b, d, b_at, d_at, earlier) = before in
      let m_below : m < length s.numbers = subst (λ size. m < size) view.one_call_each (slice_get_within s.calls m b b_at) in
      let k = slice_index s.numbers m in
      let among : Contains s.numbers k = Contains-get_or s.numbers m 0 m_below in
      let b_there : slice_get calls k ≡ Some b = sym (at_place m m_below) ∙ b_at in
      let same : d ≡ a = same_Some d a (sym d_at ∙ here) in
      Contains-place s.numbers places m whole.rising all_within m_below
      (preceded k ((whole.members k).0 among) (b, a, b_there, a_at, subst (λ (o : Operation). precedes b o ≡ true) same earlier)))
      (subst (λ (m : Contents). IsLegalCall m a.call a.response) same_pairs
      ((IsLegalCall-within s.lo s.hi (after_calls start (calls_at calls (at_places s.numbers places)))
      a.call a.response inside).0 legal)) in (
        places ++ place ∷ [],
        front,
        omega (arith, length-append places (place ∷ [])),
      )

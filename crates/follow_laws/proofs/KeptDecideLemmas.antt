-- The calls so far have an order exactly if each part goes on (`kept_parts_decide`).
use Rattle.follow_laws.proofs.Common.{◌≡◌, ℕ, ◌<◌, true, false, not, ◌&&◌, List, [], ◌∷◌, map, inl, inr, sym, subst, ⊎_elim, ◌⊎◌, ◌↔◌, All, Any}
use Rattle.follow_laws.proofs.Common.{Contains, AllZip, and_parts, false_from_ne_true, All-nil, All-cons, All-head, All-tail, All-contains}
use Rattle.follow_laws.proofs.Common.{Contains-nil, Contains-first, Contains-later, Contains-cases, Operation, value_at, IsLinearizable, KeyedCall}
use Rattle.follow_laws.proofs.Common.{keyed, Choice, rest_of, Keys, IsWithin, Part, IsAt, IsOneOf, ShareKeys, GoesOnAt, SomePastGoesOn, IsOfOnePart}
use Rattle.follow_laws.proofs.Common.{AreOfOnePart, IsLeftAt, KeptPast, IsOpenRead, IsPast, KeptPart, AreCallsBefore, IsKeptAs, PartGoesOn}
use Rattle.follow_laws.proofs.Common.{KeptPartsDecide, operations}
use Rattle.follow_laws.proofs.BridgeLemmas.{keyed_orders}
use Rattle.follow_laws.proofs.DeadLemmas.{bool_cases}
use Rattle.follow_laws.proofs.DecideLemmas.{parts_decide}
use Rattle.follow_laws.proofs.EventLemmas.{not_both}
use Rattle.follow_laws.proofs.KnownLemmas.{calls_are_known}
use Rattle.follow_laws.proofs.OperationLemmas.{operations_decide}
use Rattle.follow_laws.proofs.PastLemmas.{zip_forth, zip_back}
use Rattle.follow_laws.proofs.KeptStepLemmas.{rising_calls, any_to}

-- ---- each call is of one part, as far as it is left

-- some part has something of a call left, or none has
some_part : (P : Part → Type 0) (parts : List Part) → ((part : Part) → Contains parts part → P part ⊎ (P part → ⊥))
    → ((part : Part) × Contains parts part × P part) ⊎ ((part : Part) → Contains parts part → P part → ⊥)
some_part P [] known = inr (λ part part_in is. Contains-nil part part_in)
some_part P (one ∷ parts) known =
    by_first (known one (Contains-first one parts)) (some_part P parts (λ part part_in. known part (Contains-later one parts part part_in)))
  where
    by_first : P one ⊎ (P one → ⊥) → ((part : Part) × Contains parts part × P part) ⊎ ((part : Part) → Contains parts part → P part → ⊥)
        → ((part : Part) × Contains (one ∷ parts) part × P part) ⊎ ((part : Part) → Contains (one ∷ parts) part → P part → ⊥)
    by_first (inl is) rest = inl (one, Contains-first one parts, is)
    by_first (inr never) (inl (part, part_in, is)) = inl (part, Contains-later one parts part part_in, is)
    by_first (inr never) (inr none) = inr (λ part part_in is. ⊎_elim
        (λ same. never (subst P (sym same) is))
        (λ later. none part later is)
        (Contains-cases one parts part part_in))

-- if something of a call is left at the keys of a past, and it is no pending read, all that is left of it is there
left_within : (keys : Keys) (calls : List KeyedCall) (kept : KeptPast) (past w : Choice) (a : KeyedCall) → IsPast keys calls kept past
    → IsAt keys past w → Contains calls a → a.refused ≡ false → IsLeftAt keys w a → IsOpenRead a ⊎ IsWithin keys (rest_of w a)
left_within keys calls kept past w a is same a_in accepted (key, here, some) = ⊎_elim
    (λ shown.
    let (o, o_in, alike) = shown in
    inr (λ other out. false_from_ne_true ((rest_of w a).concerns other) (λ concerned.
    not_both (keys other)
    (All-contains (λ (p : Operation). (k : ℕ) → (keyed p).concerns k ≡ true → keys k ≡ true) kept.left o is.within o_in other
    (is.own o a o_in a_in (sym alike.inv) other (and_parts (not (w.taken a.inv other)) (a.concerns other) concerned).1))
    out)))
    (λ open_read. inl open_read)
    (is.whole a a_in accepted
    (key, here, subst (λ (t : _). (not t && a.concerns key) ≡ true) (same.taken a.inv key here) some))

of_one_part : (place : ℕ) (calls : List Operation) (kept : List KeptPart) (parts : List Part) → AreCallsBefore place calls
    → AllZip (IsKeptAs calls) kept parts → ShareKeys parts → AreOfOnePart parts (map keyed calls)
of_one_part place calls kept parts are each shared w a w_is a_in = by_refusal (bool_cases a.refused)
  where
    begun : a.inv < place
    begun = All-contains (λ b. b.inv < place) (map keyed calls) a are.grown.begun a_in

    known : a.refused ≡ false → (part : Part) → IsLeftAt part.keys w a ⊎ (IsLeftAt part.keys w a → ⊥)
    known accepted part = ⊎_elim
        (λ left. inl left)
        (λ none. inr (λ left. not_both ((rest_of w a).concerns left.0) left.2 (none left.0 left.1)))
        (calls_are_known part.keys place w calls a a_in begun accepted)

    by_part : a.refused ≡ false → (part : Part) → Contains parts part → IsLeftAt part.keys w a → IsOfOnePart parts w a
    by_part accepted part part_in left =
        let (past, past_in, at) = All-contains (λ other. IsOneOf other.keys other.pasts w) parts part w_is part_in in
        let (one, one_in, is) = zip_back (IsKeptAs calls) kept parts each part part_in in
        let (kept_so, kept_in, past_is) = zip_back (IsPast one.keys (map keyed calls)) one.pasts part.pasts is.pasts past past_in in
        ⊎_elim
        (λ open_read. inr (inl open_read))
        (λ within. inr (inr (part, part_in, within)))
        (left_within part.keys (map keyed calls) kept_so past w a
        (subst (λ (keys : Keys). IsPast keys (map keyed calls) kept_so past) (sym is.keys) past_is) at a_in accepted left)

    by_refusal : (a.refused ≡ true) ⊎ (a.refused ≡ false) → IsOfOnePart parts w a
    by_refusal (inl refused) = inl refused
    by_refusal (inr accepted) = ⊎_elim
        (λ some. let (part, part_in, left) = some in by_part accepted part part_in left)
        (λ none.
        let (first, first_in, first_is) = shared.every 0 in
        inr (inr (
          first,
          first_in,
          λ key out.
              let (part, part_in, here) = shared.every key in
              false_from_ne_true ((rest_of w a).concerns key) (λ concerned. none part part_in (key, here, concerned)),
        )))
        (some_part (λ part. IsLeftAt part.keys w a) parts (λ part part_in. known accepted part))

-- ---- a part goes on exactly if some of its pasts does

any_from : {X : Type 0} (P : X → Type 0) (xs : List X) (x : X) → Contains xs x → P x → Any P xs
any_from P xs x x_in is = (x_in.0, x, x_in.1, x_in.2, is)

module _ (place : ℕ) (calls : List Operation) (are : AreCallsBefore place calls) where
  past_decides : (keys : Keys) (kept : KeptPast) (past : Choice) → IsPast keys (map keyed calls) kept past
      → GoesOnAt keys past (map keyed calls) ↔ IsLinearizable kept.pairs kept.left
  past_decides keys kept past is =
      let decide = operations_decide keys past (map keyed calls) kept.pairs kept.left are.grown.apart (rising_calls place calls are) is.alike in
      (λ goes_on. decide.0 goes_on.1, λ order. (is.agrees, decide.1 order))

  part_decides : (kept : KeptPart) (part : Part) → IsKeptAs calls kept part → SomePastGoesOn (map keyed calls) part ↔ PartGoesOn kept
  part_decides kept part is = (
    λ some.
        let (past, past_in, goes_on) = some in
        let (one, one_in, one_is) = zip_back (IsPast kept.keys (map keyed calls)) kept.pasts part.pasts is.pasts past past_in in
        any_from (λ z. IsLinearizable z.pairs z.left) kept.pasts one one_in
        ((past_decides kept.keys one past one_is).0 (subst (λ (keys : Keys). GoesOnAt keys past (map keyed calls)) is.keys goes_on)),
    λ some.
        let (one, one_in, order) = any_to (λ z. IsLinearizable z.pairs z.left) kept.pasts some in
        let (past, past_in, past_is) = zip_forth (IsPast kept.keys (map keyed calls)) kept.pasts part.pasts is.pasts one one_in in (
          past,
          past_in,
          subst (λ (keys : Keys). GoesOnAt keys past (map keyed calls)) (sym is.keys) ((past_decides kept.keys one past past_is).1 order),
        ),
  )

  all_decide : (kept : List KeptPart) (parts : List Part) → AllZip (IsKeptAs calls) kept parts
      → All (SomePastGoesOn (map keyed calls)) parts ↔ All PartGoesOn kept
  all_decide [] [] each = (λ some. All-nil PartGoesOn, λ some. All-nil (SomePastGoesOn (map keyed calls)))
  all_decide [] (part ∷ parts) each = absurd each
  all_decide (one ∷ kept) [] each = absurd each
  all_decide (one ∷ kept) (part ∷ parts) each = (
    λ some.
        All-cons PartGoesOn one kept ((part_decides one part each.0).0 (All-head (SomePastGoesOn (map keyed calls)) part parts some))
        ((all_decide kept parts each.1).0 (All-tail (SomePastGoesOn (map keyed calls)) part parts some)),
    λ some.
        All-cons (SomePastGoesOn (map keyed calls)) part parts ((part_decides one part each.0).1 (All-head PartGoesOn one kept some))
        ((all_decide kept parts each.1).1 (All-tail PartGoesOn one kept some)),
  )

pub kept_parts_decide : KeptPartsDecide
kept_parts_decide start events place kept rises are =
    let orders = keyed_orders start events rises in
    let decide =
    parts_decide (value_at start) place (map keyed (operations events)) are.parts are.are_calls.grown
    (rising_calls place (operations events) are.are_calls)
    (of_one_part place (operations events) kept are.parts are.are_calls are.are_parts are.stand.shared) are.stand in
    let each = all_decide place (operations events) are.are_calls kept are.parts are.are_parts in (
      λ order. each.0 (decide.0 (orders.0 order).1),
      λ some. orders.1 (are.are_calls.forms, decide.1 (each.1 some)),
    )

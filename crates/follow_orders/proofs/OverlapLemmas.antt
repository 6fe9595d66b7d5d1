-- Calls that do not overlap lead to one configuration more than there are calls, at most.
use Rattle.follow_orders.proofs.Common.{◌≡◌, ◌≢◌, ℕ, ◌+◌, ◌<◌, ◌≤◌, List, Some, length, map, refl, sym, ap, ◌∙◌, subst, arith, ⊎_elim, cases_order}
use Rattle.follow_orders.proofs.Common.{All, AllPairs, slice_get, get_or, slice_get-get_or, slice_get_within, length-map}
use Rattle.follow_orders.proofs.Common.{Operation, Contents, IsFront, PrecedesAt, All-at, AllPairs-at, AllPairs-from_at, Contains-at}
use Rattle.follow_orders.proofs.Common.{place_before-Contains, slice_get-below}
use Rattle.std.specs.Prelude.{zero, suc}
use Rattle.std.proofs.lemmas.Grind.{same_number_lists}
use Rattle.std.proofs.lemmas.List.Elements.{All-map}
use Rattle.events.proofs.FilterLemmas.{AllPairs-map}
use Rattle.events.proofs.Lists.{length-distinct_below}
use Rattle.memo.specs.Configurations.{Configuration, IsReachable, LeadsTo}
use Rattle.memo.specs.Counts.{ReachesMoreThan}
use Rattle.memo.proofs.ConfigurationLemmas.{configuration_unique}
use Rattle.search.proofs.EarliestLemmas.{length-taken}
use Rattle.follow_orders.specs.Answers.{HaveNoOverlap}

-- of calls by rising invocation that do not overlap, each precedes all later ones
precedes_later : (calls : List Operation) (i j : ℕ) → AllPairs (λ a b. a.inv < b.inv) calls → HaveNoOverlap calls → i < j → j < length calls
    → PrecedesAt calls i j
precedes_later calls i j rising apart before within =
    let (a, first) = slice_get-below calls i (omega (arith, before, within)) in
    let (b, second) = slice_get-below calls j within in (
      a,
      b,
      first,
      second,
      apart a b (Contains-at calls i a first) (Contains-at calls j b second)
          (AllPairs-at (λ a b. a.inv < b.inv) calls i j a b rising before first second),
    )

-- a call of a front is at its own place if the calls before it are
at_own : (start : Contents) (calls : List Operation) (front : List ℕ) (i m : ℕ) → AllPairs (λ a b. a.inv < b.inv) calls → HaveNoOverlap calls
    → IsFront start calls front → slice_get front i ≡ Some m → ((j k : ℕ) → j < i → slice_get front j ≡ Some k → k ≡ j) → m ≡ i
at_own start calls front i m rising apart is here earlier =
    ⊎_elim (λ same. same) (λ other. ⊎_elim (λ before. absurd (no_earlier before)) (λ later. absurd (no_later later)) other) (cases_order m i)
  where
    no_earlier : m < i → ⊥
    no_earlier before =
        let there = slice_get-get_or front m 0 (omega (arith, before, slice_get_within front i m here)) in
        AllPairs-at (λ m n. m ≢ n) front m i m m is.distinct before
        (there ∙ ap Some (earlier m (get_or front m 0) before there)) here refl

    no_later : i < m → ⊥
    no_later later =
        let known = All-at (λ n. n < length calls) front i m is.known here in
        let (j, before, there) = place_before-Contains front i i
        (is.closed i i m here (precedes_later calls i m rising apart later known)) in
        absurd (omega (arith, before, earlier j i before there))

-- so each call of a front is
at_own_place : (start : Contents) (calls : List Operation) (front : List ℕ) → AllPairs (λ a b. a.inv < b.inv) calls → HaveNoOverlap calls
    → IsFront start calls front → (bound i m : ℕ) → i < bound → slice_get front i ≡ Some m → m ≡ i
at_own_place start calls front rising apart is zero i m less here = absurd (omega (arith, less))
at_own_place start calls front rising apart is (suc bound) i m less here =
    at_own start calls front i m rising apart is here
    (λ j k before there. at_own_place start calls front rising apart is bound j k (omega (arith, before, less)) there)

-- so two fronts with as many calls are one
one_front : (start : Contents) (calls : List Operation) (front other : List ℕ) → AllPairs (λ a b. a.inv < b.inv) calls → HaveNoOverlap calls
    → IsFront start calls front → IsFront start calls other → length front ≡ length other → front ≡ other
one_front start calls front other rising apart is is_too long =
    same_number_lists front other long
    (λ k within. own front is k within ∙ sym (own other is_too k (omega (arith, within, long))))
  where
    own : (f : List ℕ) → IsFront start calls f → (k : ℕ) → k < length f → get_or f k 0 ≡ k
    own f by k within = at_own_place start calls f rising apart by (k + 1) k (get_or f k 0) (omega arith) (slice_get-get_or f k 0 within)

-- so few configurations are reachable
pub reached_without_overlap : (start : Contents) (calls : List Operation) (n : ℕ) → AllPairs (λ a b. a.inv < b.inv) calls
    → HaveNoOverlap calls → ReachesMoreThan start calls n → n ≤ length calls
reached_without_overlap start calls n rising apart h =
    let sizes = map (λ c. length c.taken) h.reached in
    omega (arith, h.above, length-map h.reached (λ c. length c.taken), length-distinct_below sizes (length calls + 1) distinct below)
  where
    size : Configuration → ℕ
    size c = length c.taken

    small : (c : Configuration) → IsReachable start calls c → size c < length calls + 1
    small c (front, is, by) =
        omega (arith, length-taken start calls front c is by, length-distinct_below front (length calls) is.distinct is.known)

    one : (c d : Configuration) → IsReachable start calls c → IsReachable start calls d → size c ≡ size d → c ≡ d
    one c d (front, is, by) (other, is_too, by_too) same =
        let long : length front ≡ length other = sym (length-taken start calls front c is by) ∙ same
        ∙ length-taken start calls other d is_too by_too in
        configuration_unique start calls front c d by
        (subst (λ f. LeadsTo start calls f d) (sym (one_front start calls front other rising apart is is_too long)) by_too)

    below : All (λ k. k < length calls + 1) (map size h.reached)
    below = All-map (λ k. k < length calls + 1) size h.reached (λ i d within. small (get_or h.reached i d) (h.each i d within))

    distinct : AllPairs (λ a b. a ≢ b) (map size h.reached)
    distinct =
        AllPairs-map (λ a b. a ≢ b) size h.reached
        (AllPairs-from_at (λ c d. size c ≢ size d) h.reached
        (λ i j c d before first second. λ same. AllPairs-at (λ c d. c ≢ d) h.reached i j c d h.distinct before first second
        (one c d (All-at (IsReachable start calls) h.reached i c h.each first) (All-at (IsReachable start calls) h.reached j d h.each second) same)))

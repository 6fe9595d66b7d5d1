-- There is one longest front that a search meets.
use Rattle.search.proofs.Common.{◌≡◌, ℕ, ◌≤◌, true, List, [], ◌∷◌, ◌++◌, length, sym, ap, ◌∙◌, subst, ⊎_elim, arith, ◌≢◌, Contains, length-append}
use Rattle.search.proofs.Common.{get_or_default, All-contains, Contains-push_cases, all_pairs_push, Operation, NonePrecedesItself, Contents}
use Rattle.search.proofs.Common.{Configuration, All-from_contains, length-distinct, SegmentView, numbers_at, is_at_or_before, HasMetEnough}
use Rattle.search.proofs.Common.{IsMetInTurn, IsLongestFront}
use Rattle.search.proofs.CountLemmas.{counted_within}
use Rattle.search.proofs.EarliestLemmas.{length-taken}
use Rattle.search.proofs.ExistsLemmas.{has_count}
use Rattle.search.proofs.LeastOrderLemmas.{is_at_or_before-total, is_at_or_before-antisym}
use Rattle.search.proofs.MemoLemmas.{visited_or_not}

module _ (start : Contents) (calls : List Operation) (budget : ℕ) where
  -- take two lists of configurations met: what is only in one came after all of the other
  all_before : (met others : List Configuration) → HasMetEnough start calls budget met → HasMetEnough start calls budget others
      → (c : Configuration)
      → Contains met c → (Contains others c → ⊥) → (d : Configuration) → Contains others d → Contains met d
  all_before met others h k c within out d there =
      let one = All-contains (IsMetInTurn start calls met) met c h.in_turn within in
      let other = All-contains (IsMetInTurn start calls others) others d k.in_turn there in
      ⊎_elim
      (λ (before : is_at_or_before one.front other.front ≡ true). absurd (out (other.earlier one.front c one.is_front before one.leads)))
      (λ (behind : is_at_or_before other.front one.front ≡ true). one.earlier other.front d other.is_front behind other.leads)
      (is_at_or_before-total one.front other.front)

  -- two searches met the same
  same_met : NonePrecedesItself calls → (met others : List Configuration) → HasMetEnough start calls budget met
      → HasMetEnough start calls budget others
      → (c : Configuration) → Contains met c → Contains others c
  same_met apart met others h k c within = ⊎_elim (λ is. is)
      (λ out.
      let (count, has) = has_count start calls apart in
      let more = others ++ c ∷ [] in
      let distinct =
      all_pairs_push (λ a b. a ≢ b) others c k.distinct (λ i d below same. out (i, below, get_or_default others i _ d below ∙ same)) in
      let longer = length-distinct more met distinct (All-from_contains (Contains met) more (λ d there. ⊎_elim
      (λ earlier. all_before met others h k c within out d earlier)
      (λ is. subst (Contains met) is within) (Contains-push_cases others c d there))) in
      absurd (omega (
        arith,
        longer,
        length-append others (c ∷ []),
        h.few,
        k.enough count has,
        counted_within start calls count met has
            h.distinct h.each,
      )))
      (visited_or_not others c)

-- the longest fronts of two searches are equally long
no_longer : (budget : ℕ) (segment : SegmentView) (a b : List ℕ) → NonePrecedesItself segment.calls → (h : IsLongestFront budget segment a)
    → (k : IsLongestFront budget segment b) → length h.places ≤ length k.places
no_longer budget segment a b apart h k =
    let (c, within, leads) = h.reached in
    let there = same_met segment.start segment.calls budget apart h.met k.met h.enough k.enough c within in
    omega (
      arith,
      length-taken segment.start segment.calls h.places c h.is_front leads,
      All-contains
          (λ c. length c.taken ≤ length k.places) k.met c k.most there,
    )

pub one_longest_front : (budget : ℕ) (segment : SegmentView) (a b : List ℕ) → NonePrecedesItself segment.calls
    → IsLongestFront budget segment a
    → IsLongestFront budget segment b → a ≡ b
one_longest_front budget segment a b apart h k =
    let at_most = no_longer budget segment a b apart h k in
    let at_least = no_longer budget segment b a apart k h in
    let same : h.places ≡ k.places =
    is_at_or_before-antisym h.places k.places (h.least k.places k.is_front (omega (arith, at_most, at_least)))
    (k.least h.places h.is_front (omega (arith, at_most, at_least))) in
    h.is ∙ ap (numbers_at segment) same ∙ sym k.is

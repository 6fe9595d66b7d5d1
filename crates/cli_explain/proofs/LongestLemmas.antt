-- No front is longer than the longest that a search of all configurations meets.
use Rattle.cli_explain.proofs.Common.{ℕ, ◌≤◌, List, [], ◌∷◌, ◌++◌, length, ◌∙◌, subst, ⊎_elim, arith, ◌≢◌, Contains, length-append, get_or_default}
use Rattle.cli_explain.proofs.Common.{All-contains, All-weaker, Contains-push_cases, Operation, NonePrecedesItself, All-from_contains, Contents}
use Rattle.cli_explain.proofs.Common.{as_long_as, NoFrontIsLonger}
use Rattle.std.proofs.lemmas.List.Quantifiers.{all_pairs_push}
use Rattle.memo.specs.Configurations.{Configuration, IsReachable}
use Rattle.memo.specs.Counts.{ReachesMoreThan}
use Rattle.memo.proofs.ConfigurationLemmas.{LeadsTo-exists}
use Rattle.search.specs.LeastCounts.{IsCounted}
use Rattle.search.specs.LongestFront.{HasMetEnough}
use Rattle.search.proofs.CountLemmas.{IsReachable-from_counted, counted_within}
use Rattle.search.proofs.EarliestLemmas.{length-taken}
use Rattle.search.proofs.ExistsLemmas.{has_count}
use Rattle.search.proofs.MemoLemmas.{visited_or_not}

module _ (start : Contents) (calls : List Operation) (budget : ℕ) (apart : NonePrecedesItself calls)
    (within : ReachesMoreThan start calls budget → ⊥) where
  -- a search met each configuration that counts
  met_all : (met : List Configuration) → HasMetEnough start calls budget met → (c : Configuration) → IsCounted start calls c
      → Contains met c
  met_all met h c counted = ⊎_elim (λ is. is)
      (λ out.
      let (count, has) = has_count start calls apart in
      let more = met ++ c ∷ [] in
      let distinct =
      all_pairs_push (λ a b. a ≢ b) met c h.distinct (λ i d below same. out (i, below, get_or_default met i _ d below ∙ same)) in
      let each = All-from_contains (IsCounted start calls) more (λ d there. ⊎_elim
      (λ earlier. All-contains (IsCounted start calls) met d h.each earlier)
      (λ is. subst (IsCounted start calls) is counted) (Contains-push_cases met c d there)) in
      let fewer = counted_within start calls count more has distinct each in
      absurd (within (record {
        reached = met;
        distinct = h.distinct;
        each = All-weaker (IsCounted start calls) (IsReachable start calls) (IsReachable-from_counted start calls) met h.each;
        above = omega (arith, fewer, length-append met (c ∷ []), h.enough count has);
      })))
      (visited_or_not met c)

pub no_front_is_longer : NoFrontIsLonger
no_front_is_longer budget segment front other apart none within h is_front =
    let (c, leads) = LeadsTo-exists segment.start segment.calls other is_front.known in
    let counted : IsCounted segment.start segment.calls c = record {
      front = other;
      is_front = is_front;
      leads = leads;
      at_or_before = λ order is. absurd (none (order, is));
    } in
    let there = met_all segment.start segment.calls budget apart within h.met h.enough c counted in
    omega (
      arith,
      length-taken segment.start segment.calls other c is_front leads,
      All-contains (λ d. length d.taken ≤ length h.places) h.met c h.most there,
      as_long_as segment front h.places h.is,
    )

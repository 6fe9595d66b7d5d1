-- A history of one call has few configurations, so that each budget of two or more decides it.
use Rattle.judge.proofs.Common.{◌≡◌, ℕ, ◌<◌, ◌≤◌, List, [], ◌∷◌, length, refl, ap, subst, inl, inr, ⊎_elim, arith, ◌⊎◌, All, Contains, All-weaker}
use Rattle.judge.proofs.Common.{All-head, Operation, Contents, calls_at, after_calls, Contains-first, Contains-later, length-distinct}
use Rattle.judge.proofs.Common.{length-distinct_below}
use Rattle.memo.specs.Fronts.{IsFront}
use Rattle.memo.specs.Configurations.{Configuration, LeadsTo, IsReachable}
use Rattle.memo.specs.Counts.{ReachesMoreThan}
use Rattle.memo.proofs.ConfigurationLemmas.{configuration_of, configuration_unique, LeadsTo-nil}

-- at most one number below one
short_cases : (front : List ℕ) → length front ≤ 1 → All (λ n. n < 1) front → (front ≡ []) ⊎ (front ≡ 0 ∷ [])
short_cases [] short below = inl refl
short_cases (n ∷ []) short below = let first = All-head (λ n. n < 1) n [] below in let is : n ≡ 0 = omega arith in inr (ap (λ m. m ∷ []) is)
short_cases (m ∷ n ∷ rest) short below = absurd (omega arith)

-- a front of one call takes no call or this one
front_of_one_call : (start : Contents) (calls : List Operation) (front : List ℕ) → length calls ≤ 1 → IsFront start calls front
    → (front ≡ []) ⊎ (front ≡ 0 ∷ [])
front_of_one_call start calls front few is =
    short_cases front
    (omega (arith, length-distinct_below front (length calls) is.distinct is.known))
    (All-weaker (λ n. n < length calls) (λ n. n < 1) (λ n below. omega arith) front is.known)

-- one call leads to two configurations at most: that before it and that after it
pub reached_by_one_call : (start : Contents) (calls : List Operation) (n : ℕ) → length calls ≤ 1 → ReachesMoreThan start calls n → n < 2
reached_by_one_call start calls n few h =
    let before = configuration_of [] start in
    let after = configuration_of (0 ∷ []) (after_calls start (calls_at calls (0 ∷ []))) in
    let both = before ∷ after ∷ [] in
    let to_after : LeadsTo start calls (0 ∷ []) after =
    record { rising = λ k within. absurd (omega arith); taken = λ m. (λ h. h, λ h. h); pairs = refl } in
    let among : (c : Configuration) → IsReachable start calls c → Contains both c = λ c (front, is, by). ⊎_elim
    (λ e. subst (Contains both) (configuration_unique start calls [] before c (LeadsTo-nil start calls)
    (subst (λ taken. LeadsTo start calls taken c) e by))
    (Contains-first before (after ∷ [])))
    (λ e. subst (Contains both) (configuration_unique start calls (0 ∷ []) after c to_after
    (subst (λ taken. LeadsTo start calls taken c) e by))
    (Contains-later before (after ∷ []) after (Contains-first after [])))
    (front_of_one_call start calls front few is) in
    omega (
      arith,
      h.above,
      length-distinct h.reached both h.distinct
          (All-weaker (IsReachable start calls) (Contains both) among h.reached h.each),
    )

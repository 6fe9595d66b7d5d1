-- Laws of how many configurations count.
use Rattle.search.proofs.Common.{◌≡◌, ℕ, ◌≤◌, List, length, arith, All, Contains, All-weaker, All-contains_itself, Operation, Contents, Configuration}
use Rattle.search.proofs.Common.{IsReachable, IsCounted, HasCount, CountIsWithin, CountIsAbove, AreDistinct, ReachesMoreThan, length-distinct}

-- a configuration that counts is reachable
pub IsReachable-from_counted : (start : Contents) (calls : List Operation) (c : Configuration) → IsCounted start calls c
    → IsReachable start calls c
IsReachable-from_counted start calls c h = (h.front, h.is_front, h.leads)

-- distinct configurations that count are at most as many as count
pub counted_within : (start : Contents) (calls : List Operation) (n : ℕ) (some : List Configuration) → HasCount start calls n
    → AreDistinct some
    → All (IsCounted start calls) some → length some ≤ n
counted_within start calls n some has distinct each =
    omega (
      arith,
      has.count,
      length-distinct some has.counted distinct
          (All-weaker (IsCounted start calls) (Contains has.counted) (λ c h. (has.exact c).1 h) some each),
    )

-- the count is one number
pub HasCount-unique : (start : Contents) (calls : List Operation) (m n : ℕ) → HasCount start calls m → HasCount start calls n → m ≡ n
HasCount-unique start calls m n has_m has_n =
    omega (
      arith,
      has_m.count,
      has_n.count,
      counted_within start calls n has_m.counted has_n has_m.distinct (each m has_m),
      counted_within start calls m has_n.counted has_m has_n.distinct (each n has_n),
    )
  where
    each : (k : ℕ) (has : HasCount start calls k) → All (IsCounted start calls) has.counted
    each k has = All-weaker (Contains has.counted) (IsCounted start calls) (λ c h. (has.exact c).0 h) has.counted
        (All-contains_itself has.counted)

-- a count is not both within a number and above it
pub CountIsAbove-not_within : (start : Contents) (calls : List Operation) (n : ℕ) → CountIsAbove start calls n
    → CountIsWithin start calls n → ⊥
CountIsAbove-not_within start calls n above (count, has, within) =
    absurd (omega (arith, above.above, counted_within start calls count above.counted has above.distinct above.each))

-- if the count is above a number, more than that many configurations are reachable
pub ReachesMoreThan-from_count : (start : Contents) (calls : List Operation) (n : ℕ) → CountIsAbove start calls n
    → ReachesMoreThan start calls n
ReachesMoreThan-from_count start calls n h = record {
  reached = h.counted;
  distinct = h.distinct;
  each = All-weaker (IsCounted start calls) (IsReachable start calls) (IsReachable-from_counted start calls) h.counted h.each;
  above = h.above;
}

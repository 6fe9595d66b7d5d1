-- A search turn by turn, as its callers see it.
use Rattle.std.specs.Prelude.{◌≡◌, ℕ, ◌+◌, ◌-◌, ◌*◌, ◌<◌, ◌≤◌, List, length, min}
use Rattle.memo.specs.Configurations.{Configuration}
use Rattle.orders.specs.SegmentView.{SegmentView}
use Rattle.search.specs.LeastCounts.{HasCount}
use Rattle.search.specs.declared.standing.Level.{Level}
use Rattle.search.specs.declared.standing.Standing.{Standing}
use Rattle.search.specs.Standing.{untried}

-- a walk: the segment and the budget, how many configurations are counted, and a number that falls
-- at each turn
pub record WalkView : Type 0 where
  pub segment : SegmentView
  pub budget : ℕ
  pub len : ℕ
  pub rest : ℕ

-- the number that falls: for each configuration that the budget still allows the calls of the
-- segment and one, and the calls that are not tried yet
abbrev pub rest_of : ℕ → ℕ → List Level → ℕ → List Configuration → ℕ
rest_of budget size levels next visited = (budget + 1 - length visited) * (size + 1) + untried size levels next

-- what callers see of a walk of a segment in this state
abbrev pub walk_at : SegmentView → ℕ → Standing → WalkView
walk_at segment budget w =
    record {
      segment = segment;
      budget = budget;
      len = length w.memo;
      rest =
          rest_of budget (length segment.calls) w.levels.items w.next w.memo;
    }

-- a walk goes on: at most one configuration more is counted, and the number falls
pub record GoesOn (walk on : WalkView) : Type 0 where
  pub segment : on.segment ≡ walk.segment
  pub budget : on.budget ≡ walk.budget
  pub len : walk.len ≤ on.len
  pub one_more : on.len ≤ walk.len + 1
  pub falls : on.rest < walk.rest

-- a walk has counted enough to end: all configurations that count except one, or as many as the
-- budget except one
abbrev pub HasCountedEnough : WalkView → Type 0
HasCountedEnough walk = (count : ℕ) → HasCount walk.segment.start walk.segment.calls count → min count walk.budget ≤ walk.len + 1

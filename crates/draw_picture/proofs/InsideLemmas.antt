-- Marks stay inside of their bars in a viewport.
use Rattle.draw_picture.proofs.Common.{◌≡◌, ℕ, ◌-◌, ◌<◌, ◌≤◌, Bool, true, false, cond, List, Option, Some, None, refl, arith, nat_lt, nat_le, IfSome}
use Rattle.draw_picture.proofs.Common.{Contains, option_map, and_parts, and_from, le-leb, leb-true, lt-ltb, ltb-true, cut_end, ends_from, rank}
use Rattle.draw_picture.proofs.Common.{MarksStayInside}
use Rattle.draw_picture.proofs.RankLemmas.{ranks_rise}

-- an end after a mark of the viewport is not before the viewport
ends_after : (columns : List ℕ) (from column : ℕ) (end : Option ℕ) → from ≤ rank columns column → Contains columns column
    → IfSome end (λ e. column < e) → ends_from from (option_map (rank columns) end) ≡ true
ends_after columns from column None le is before = refl
ends_after columns from column (Some e) le is before =
    let less = (ranks_rise columns column e).1 is before in le-leb from (rank columns e) (omega arith)

-- an end after a mark, if it is in the viewport, is after the mark there
cut_behind : (columns : List ℕ) (from to column : ℕ) (end : Option ℕ) → from ≤ rank columns column → Contains columns column
    → IfSome end (λ e. column < e) → IfSome (cut_end from to (option_map (rank columns) end)) (λ e. rank columns column - from < e)
cut_behind columns from to column None le is before = tt
cut_behind columns from to column (Some e) le is before =
    let less = (ranks_rise columns column e).1 is before in by_test (nat_lt (rank columns e) to) (omega arith)
  where
    by_test : (b : Bool) → rank columns column - from < rank columns e - from
        → IfSome (cond b (Some (rank columns e - from)) None) (λ t. rank columns column - from < t)
    by_test true less = less
    by_test false less = tt

pub marks_stay_inside : MarksStayInside
marks_stay_inside columns all lanes from to bar mark inside starts stands lane_is within =
    let (low, high) = and_parts (nat_le from (rank columns mark.column)) (nat_lt (rank columns mark.column) to) within in
    let le : from ≤ rank columns mark.column = leb-true from (rank columns mark.column) low in
    let lt : rank columns mark.column < to = ltb-true (rank columns mark.column) to high in
    let begins : rank columns bar.from < rank columns mark.column = (ranks_rise columns bar.from mark.column).1 starts inside.after in (
      and_from (nat_lt (rank columns bar.from) to) (ends_from from (option_map (rank columns) bar.to))
          (lt-ltb (rank columns bar.from) to (omega arith)) (ends_after columns from mark.column bar.to le stands inside.before),
      record {
        lane = rw (inside.lane, lane_is) refl;
        after = omega (arith, begins);
        before = cut_behind columns from to mark.column bar.to le stands inside.before;
      },
    )

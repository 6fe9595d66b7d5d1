use Rattle.search.proofs.Common.{◌≡◌, ℕ, ◌+◌, ◌-◌, ◌<◌, ◌≤◌, [], ◌∷◌, length, refl, sym, subst, ap, ◌∙◌, ⊎_elim, arith, length-append, min, map}
use Rattle.search.proofs.Common.{slice_index, IsOrder, Standing, SegmentView, HasCount, HasMetEnough, places, Stands, HasMoved, IsExhausted, walk_at}
use Rattle.search.proofs.Common.{GoesOn}
use Rattle.search.proofs.CountLemmas.{HasCount-unique}
use Rattle.search.proofs.CursorLemmas.{counted_at_cursor, met_in_turn, CountIsAbove-at_cursor, IsLeastOrder-at_cursor, HasCount-at_order}
use Rattle.search.proofs.walk.make_turn.Goals as goal

-- what was visited is what was met
met : (segment : SegmentView) (w : Standing) (budget : ℕ) → Stands segment.start segment.calls w
    → ((count : ℕ) → HasCount segment.start segment.calls count → min count (budget + 1) ≤ length w.memo)
    → length w.memo ≤ budget + 1 → HasMetEnough segment.start segment.calls budget w.memo
met segment w budget s enough few = record {
  distinct = s.cursor.distinct;
  each = counted_at_cursor segment.start segment.calls (places w.levels.items) w.next w.memo s.cursor;
  in_turn = met_in_turn segment.start segment.calls (places w.levels.items) w.next w.memo s.cursor;
  enough = enough;
  few = few;
}

-- all that counts was visited
all_met : (count budget len : ℕ) → count ≡ len → min count (budget + 1) ≤ len
all_met count budget len is = omega arith

-- all that counts is counted
enough : (count budget len : ℕ) → count ≡ len → min count budget ≤ len + 1
enough count budget len is = omega arith

pub returns-then-len-budget : goal.returns-then-len-budget
returns-then-len-budget c =
    let s = c.requires in
    let w = c.args.standing.now in
    let calls = c.args.segment.now.calls in
    let start = c.args.segment.now.start in
    let above : c.args.budget < length w.memo = omega (arith, c.if-len-budget.true, c.len.ensures.len) in (
      CountIsAbove-at_cursor start calls (places w.levels.items) w.next w.memo s.cursor c.args.budget above,
      λ count has. omega arith,
      met
          c.args.segment.now w c.args.budget s (λ count has. omega arith),
    )

pub make_step-requires : goal.make_step-requires
make_step-requires c =
    let segment = c.calls.ensures.segment in
    let stands = subst (λ from. Stands from c.args.segment.now.calls c.args.standing.now) (sym c.requires.begins) c.requires in
    rw c.calls.ensures.calls (omega (arith, segment.few), (segment.none_precedes_itself, (segment.invocations_rise, stands)))

-- a walk that has moved goes on: a configuration more is one fewer that the budget allows
goes_on : (segment : SegmentView) (budget : ℕ) (old new : Standing) → length old.memo ≤ budget
    → HasMoved segment.start segment.calls old new
    → GoesOn (walk_at segment budget old) (walk_at segment budget new)
goes_on segment budget old new within h = ⊎_elim
    (λ tried. let same = ap length tried.0 in record {
      segment = refl;
      budget = refl;
      len = omega (arith, same);
      one_more = omega (arith, same);
      falls = rw same (omega (arith, tried.1));
    })
    (λ visited.
    let one_more : length new.memo ≡ length old.memo + 1 = ap length visited.1 ∙ length-append old.memo (visited.0 ∷ []) in
    let allowed : budget + 1 - length old.memo ≡ (budget + 1 - length new.memo) + 1 = omega (arith, one_more, within) in
    record {
      segment = refl;
      budget = refl;
      len = omega (arith, one_more);
      one_more = omega (arith, one_more);
      falls = rw allowed (omega (arith, visited.3));
    })
    h.progress

pub returns-in-Made : goal.returns-in-Made
returns-in-Made c =
    let segment = c.args.segment.now in
    let s = c.requires in
    let old = c.args.standing.now in
    let new = c.make_step.new.standing in
    let within : length old.memo ≤ c.args.budget = omega (arith, c.if-len-budget.false, c.len.ensures.len) in
    let step = rw c.in-Made.is at c.in_ok-make_step.ensures in
    let moved = subst (λ from. HasMoved from segment.calls old new) s.begins (rw c.calls.ensures.calls at step) in
    (moved, goes_on segment c.args.budget old new within moved, within)

pub returns-in_ok-order-in-Order : goal.returns-in_ok-order-in-Order
returns-in_ok-order-in-Order c =
    let s = c.requires in
    let w = c.args.standing.now in
    let calls = c.args.segment.now.calls in
    let start = c.args.segment.now.start in
    let within : length w.memo ≤ c.args.budget = omega (arith, c.if-len-budget.false, c.len.ensures.len) in
    let step = rw c.in-Order.is at c.in_ok-make_step.ensures in
    let is_order = subst (λ from. IsOrder from calls (places w.levels.items)) s.begins (rw c.calls.ensures.calls at step.1) in
    let numbers = c.args.segment.now.numbers in
    let order_is : c.in_ok-order-in-Order.order.items ≡ map (λ place. slice_index numbers place) (places w.levels.items) =
    c.in_ok-order-in-Order.ensures ∙ ap (λ ns. map (λ place. slice_index ns place) (places c.make_step.new.standing.levels.items))
    c.numbers.ensures.numbers
    ∙ ap (λ (t : Standing). map (λ place. slice_index numbers place) (places t.levels.items)) step.0 in
    let least = IsLeastOrder-at_cursor start calls (places w.levels.items) w.next w.memo s.cursor is_order in
    let count = HasCount-at_order start calls (places w.levels.items) w.next w.memo s.cursor is_order in (
      ((places w.levels.items, order_is, least), (length w.memo, count, within)),
      λ n has. enough n c.args.budget (length w.memo) (HasCount-unique start calls n (length w.memo) has count),
      met c.args.segment.now w c.args.budget s
          (λ n has. all_met n c.args.budget (length w.memo) (HasCount-unique start calls n (length w.memo) has count)),
    )

pub returns-in-NoOrder : goal.returns-in-NoOrder
returns-in-NoOrder c =
    let s = c.requires in
    let w = c.args.standing.now in
    let calls = c.args.segment.now.calls in
    let start = c.args.segment.now.start in
    let within : length w.memo ≤ c.args.budget = omega (arith, c.if-len-budget.false, c.len.ensures.len) in
    let step = rw c.in-NoOrder.is at c.in_ok-make_step.ensures in
    let done = subst (λ from. IsExhausted from calls w.memo) s.begins (rw c.calls.ensures.calls at step) in (
      (done.none, (length w.memo, done.count, within)),
      λ n has. enough n c.args.budget (length w.memo) (HasCount-unique start calls n (length w.memo) has done.count),
      met c.args.segment.now w c.args.budget s
          (λ n has. all_met n c.args.budget (length w.memo) (HasCount-unique start calls n (length w.memo) has done.count)),
    )

use Rattle.std.proofs.Common.{List, ◌≡◌, ℕ, ◌<◌, ◌≤◌, ◌+◌, ◌-◌, length, ⊎_elim, arith}
use Rattle.events.specs.declared.operation.Operation.{Operation}
use Rattle.events.proofs.Lists.{All-from_contains}
use Rattle.map_object.specs.MapObject.{Contents}
use Rattle.memo.specs.Configurations.{IsReachable}
use Rattle.search_choices.specs.Standing.{HasMoved, rest_of}
use Rattle.search_choices.specs.declared.branch.CallSearch.{CallSearch}
use Rattle.reduced_search.proofs.searching.search_on.Goals as goal

-- a search that has moved has less to do: each new configuration leaves one fewer that the budget
-- allows
falls : (start : Contents) (calls : List Operation) (budget : ℕ) (old new : CallSearch) → length old.memo ≤ budget
    → HasMoved start calls old new
    → rest_of budget (length calls) new < rest_of budget (length calls) old
falls start calls budget old new within h = ⊎_elim
    (λ tried. rw tried.0 (omega (arith, tried.1)))
    (λ found.
    let allowed : budget + 1 - length old.memo ≡ (budget + 1 - length new.memo) + 1 = omega (arith, found.0, within) in
    rw allowed (omega (arith, found.1)))
    h.progress

pub returns-then-len-budget : goal.returns-then-len-budget
returns-then-len-budget g c =
    let w = c.loop-alloc.standing in
    record {
      reached = w.memo;
      distinct = c.len.ensures.distinct;
      each = All-from_contains (IsReachable g.start c.args.calls.now) w.memo c.loop-alloc.invariant.0.reached;
      above = omega (arith, c.if-len-budget.true, c.len.ensures.len);
    }

pub loop-alloc-smaller : goal.loop-alloc-smaller
loop-alloc-smaller g c =
    falls g.start c.args.calls.now c.args.budget c.loop-alloc.standing c.make_step.new.standing
    (omega (arith, c.if-len-budget.false, c.len.ensures.len)) (rw c.in-Made-2.is at c.in_ok-make_step.ensures)

pub look_on-requires : goal.look_on-requires
look_on-requires g c = (c.requires.0, (c.requires.1.0, (c.requires.1.1.0, (c.requires.1.1.1.0, c.requires.1.1.1.1))))

pub make_step-requires : goal.make_step-requires
make_step-requires g c = (c.requires.0, (c.requires.1.0, (c.requires.1.1.0, (c.requires.1.1.1.0, c.loop-alloc.invariant))))

pub loop-alloc-preserved : goal.loop-alloc-preserved
loop-alloc-preserved g c = (rw c.in-Made-2.is at c.in_ok-make_step.ensures).stands

use Rattle.follow_cuts.proofs.Common.{◌++◌, map, length, ap, ◌∙◌, arith, into_iter_items, nil_from_length, kept_in}
use Rattle.follow_cuts.proofs.WalkLemmas.{level_all, level_begins, level_more}
use Rattle.follow_cuts.proofs.levels.next_level.Goals as goal

pub loop-position-init : goal.loop-position-init
loop-position-init c = record {
  level = level_begins c.args.pasts.now c.args.moment c.args.level.items (into_iter_items c.into_iter-position-iterator.result)
      c.new-next.result.items c.args.ended.now.items c.into_iter-position-iterator.ensures.into_iter_gives.0 c.new-next.ensures.items
      c.requires.from_past c.requires.are_ended;
  all = omega (
    arith,
    ap length c.into_iter-position-iterator.ensures.into_iter_gives.0,
    c.into_iter-position-iterator.ensures.into_iter_gives.1,
    c.args.level.ok.0,
  );
}

pub loop-position-preserved : goal.loop-position-preserved
loop-position-preserved c =
    let before = map (kept_in c.args.pasts.now) (c.args.level.items ++ c.args.ended.now.items) in
    let all = into_iter_items c.loop-position.position-iterator in
    let rest = into_iter_items c.next.new.self in
    let step = c.in-Some.ensures.steps in
    record {
      level = level_more c.args.pasts.now c.args.moment before c.in-Some.position all rest c.loop-position.next.items c.loop-position.ended.items
          c.go_on.new.next.items c.go_on.new.ended.items step.0 c.loop-position.invariant.level c.in_ok-go_on.ensures;
      all = omega (arith, step.1, ap length step.0, c.loop-position.invariant.all);
    }

pub returns : goal.returns
returns c =
    let rest = into_iter_items c.loop-position.position-iterator in
    level_all c.args.pasts.now c.args.moment (map (kept_in c.args.pasts.now) (c.args.level.items ++ c.args.ended.now.items)) rest
    c.loop-position.next.items c.loop-position.ended.items
    (nil_from_length rest (c.loop-position.invariant.all ∙ c.in-None.ensures.steps.0)) c.loop-position.invariant.level

use Rattle.art_schedules.proofs.optimistic_runs.InstanceLemmas.{optimistic-is-linearizable}
use Rattle.art_schedules.proofs.laws.optimistic_runs.optimistic_is_linearizable.Goals as goal

pub returns : goal.returns
returns c =
    optimistic-is-linearizable (record {
      kept_trees_follow = c.kept_trees_follow.ensures;
      work_begins = c.work_begins.ensures;
      workers_hold_reached = c.workers_hold_reached.ensures;
      leavers_hold_reached = c.leavers_hold_reached.ensures;
      others_keep_work = c.others_keep_work.ensures;
      others_keep_ends = c.others_keep_ends.ensures;
      workers_step = c.workers_step.ensures;
      leavers_step = c.leavers_step.ensures;
      effects_bring_theirs = c.effects_bring_theirs.ensures;
      fresh_is_claimed = c.fresh_is_claimed.ensures;
      ways_begin = c.ways_begin.ensures;
      other_steps_keep_ways = c.other_steps_keep_ways.ensures;
      own_steps_go_on = c.own_steps_go_on.ensures;
      own_findings_stay = c.own_findings_stay.ensures;
      quiet_steps_keep_trees = c.quiet_steps_keep_trees.ensures;
      scans_store_nothing = c.scans_store_nothing.ensures;
      answered_scans_have_points = c.answered_scans_have_points.ensures;
    }) c.starts_are_at_rest.ensures c.stories_give_orders.ensures

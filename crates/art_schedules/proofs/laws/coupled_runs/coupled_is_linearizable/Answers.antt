use Rattle.art_schedules.proofs.coupled_runs.ClosingLemmas.{coupled-runs-are-linearizable}
use Rattle.art_schedules.proofs.laws.coupled_runs.coupled_is_linearizable.Goals as goal

pub returns : goal.returns
returns c =
    coupled-runs-are-linearizable (record {
      kept_trees_follow = c.kept_trees_follow.ensures;
      starts_are_at_rest = c.starts_are_at_rest.ensures;
      stories_give_orders = c.stories_give_orders.ensures;
      calls_begin = c.calls_begin.ensures;
      calls_go_on = c.calls_go_on.ensures;
      calls_stay = c.calls_stay.ensures;
      found_is_answered = c.found_is_answered.ensures;
      seekers_are_not_answered = c.seekers_are_not_answered.ensures;
      others_leave_ways = c.others_leave_ways.ensures;
      ways_take_live = c.calls_take_live.ensures.way;
      ways_take_reached = c.ways_take_reached.ensures;
      good_rows_stay = c.good_rows_stay.ensures;
      others_leave_good = c.others_leave_good.ensures;
      obsolete_rows_leave = c.obsolete_rows_leave.ensures.next;
      rests_have_none = c.obsolete_rows_leave.ensures.first;
      work_begins = c.work_begins.ensures;
      workers_may_have_no_mark = c.workers_may_have_no_mark.ensures;
      others_keep_marked = c.others_keep_marked.ensures;
      workers_go_on = c.workers_go_on.ensures;
      obsolete_rows_hang = c.obsolete_rows_hang.ensures;
      workers_only_work = c.workers_only_work.ensures;
      others_keep_ends = c.others_keep_ends.ensures;
      enders_go_on = c.enders_go_on.ensures;
      scans_begin = c.scans_begin.ensures;
      scans_come_on = c.scans_come_on.ensures;
      walked_scans_find = c.walked_scans_find.ensures;
      found_scans_stay = c.found_scans_stay.ensures;
      found_scans_answer = c.found_scans_answer.ensures;
      walking_scans_ask = c.walking_scans_ask.ensures;
      scans_take_live = c.scans_take_live.ensures;
      scans_take_reached = c.scans_take_reached.ensures;
      others_leave_scans = c.others_leave_scans.ensures;
      others_leave_trees = c.others_leave_trees.ensures;
    })

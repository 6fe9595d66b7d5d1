-- The values read so far are those of the items, which may be in a schedule.
use Rattle.plan_text.proofs.Common.{◌≡◌, map, take, IsTrue, list_all, view, is_item, item_data}
use Rattle.plan_text.proofs.schedules.items_among.Given as goal

abbrev pub invariant-loop-value : goal.invariant-loop-value
invariant-loop-value l = record {
  spelled : map view (take l.value-index l.items) ≡ map item_data l.found.items;
  standing : IsTrue (list_all is_item l.found.items);
}

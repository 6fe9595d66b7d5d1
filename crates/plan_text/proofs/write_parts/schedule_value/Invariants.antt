-- The values so far are those of the items.
use Rattle.plan_text.proofs.Common.{◌≡◌, map, take, view, item_data}
use Rattle.plan_text.proofs.write_parts.schedule_value.Given as goal

abbrev pub invariant-loop-item : goal.invariant-loop-item
invariant-loop-item l = map view l.items.items ≡ map item_data (take l.item-index l.schedule)

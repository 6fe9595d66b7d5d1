-- The values read so far are those of the calls, which may be in a script.
use Rattle.plan_text.proofs.Common.{◌≡◌, map, take, IsTrue, view, call_data, is_script}
use Rattle.plan_text.proofs.read_scripts.calls_among.Given as goal

abbrev pub invariant-loop-item : goal.invariant-loop-item
invariant-loop-item l = record {
  spelled : map view (take l.item-index l.items) ≡ map call_data l.calls.items;
  standing : IsTrue (is_script l.may_replace l.calls.items);
}

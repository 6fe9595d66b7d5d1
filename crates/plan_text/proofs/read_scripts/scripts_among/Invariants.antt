-- The values read so far are those of the scripts, whose calls may be there.
use Rattle.plan_text.proofs.Common.{◌≡◌, map, take, IsTrue, view, script_data, are_scripts}
use Rattle.plan_text.proofs.read_scripts.scripts_among.Given as goal

abbrev pub invariant-loop-item : goal.invariant-loop-item
invariant-loop-item l = record {
  spelled : map view (take l.item-index l.items) ≡ map script_data (map (λ script. script.items) l.scripts.items);
  standing : IsTrue (are_scripts l.may_replace (map (λ script. script.items) l.scripts.items));
}

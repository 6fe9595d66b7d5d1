-- Scripts on a tree within the limits are a plan, and a machine that was opened with them has turns to make.
use Rattle.replays.proofs.Common.{◌≡◌, ℕ, List, length, arith, ◌∙◌, length-replicate, IsPlan, opened, idle, Machine, plan_of, IsOpened}
use Rattle.events.specs.declared.event.Call.{Call}
use Rattle.art_rows.specs.Table.{IsWithinLimits}
use Rattle.art_rows.specs.declared.table.Shape.{Shape}
use Rattle.art_rows.specs.declared.variant.Variant.{Variant}
use Rattle.plans.specs.Plans.{AreScripts}
use Rattle.replays.specs.Turns.{HasTurns}

pub is-plan : (shape : Shape) (variant : Variant) (scripts : List (List Call)) → IsWithinLimits shape → AreScripts scripts
    → IsPlan (plan_of shape variant scripts)
is-plan shape variant scripts within are = record {
  shape = within;
  some_script = are.few.some_script;
  few_scripts = are.few.few_scripts;
  few_calls = are.few.few_calls;
  calls = are.calls;
}

pub has-turns : (shape : Shape) (variant : Variant) (scripts : List (List Call)) (limit : ℕ) (m : Machine) (n : ℕ)
    → IsOpened shape variant scripts limit m → length scripts ≡ n → HasTurns n limit m
has-turns shape variant scripts limit m n o many = record {
  plan = plan_of shape variant scripts;
  state = opened (plan_of shape variant scripts);
  shows = o.shows;
  many = length-replicate (length scripts) idle ∙ many;
  left = omega (arith, o.left);
}

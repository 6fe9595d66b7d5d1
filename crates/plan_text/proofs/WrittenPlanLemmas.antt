-- The value of a plan has no float, nests four deep at most, and spells the plan.
use Rattle.plan_text.proofs.Common.{◌≡◌, ℕ, ◌≤◌, Bool, true, false, not, List, [], ◌∷◌, refl, arith, All, IsTrue, and_parts, All-head, All-tail}
use Rattle.plan_text.proofs.Common.{depth, has_float, Call, is_replace, call_data, IsJson, items_have_float-map, items_depth-map, has_float-call}
use Rattle.plan_text.proofs.Common.{depth-call, is_tree_call, AreTreeCalls, script_data, scripts_data, is_script_call, is_script, are_scripts}
use Rattle.plan_text.proofs.Common.{plan_data, is_plain_script, are_plain_scripts, SpellsPlanAs, SpellsPlan}
use Rattle.plan_text.specs.PlanTexts.{written_data}

has_float-script : (calls : List Call) → has_float (script_data calls) ≡ false
has_float-script calls = items_have_float-map call_data has_float-call calls

pub has_float-scripts : (scripts : List (List Call)) → has_float (scripts_data scripts) ≡ false
has_float-scripts scripts = items_have_float-map script_data has_float-script scripts

-- a plan has no float
pub has_float-plan : (scripts : List (List Call)) → has_float (written_data scripts) ≡ false
has_float-plan scripts = rw (has_float-scripts scripts) refl

depth-script : (calls : List Call) → depth (script_data calls) ≤ 3
depth-script calls = omega (arith, items_depth-map call_data 2 depth-call calls)

pub depth-scripts : (scripts : List (List Call)) → depth (scripts_data scripts) ≤ 4
depth-scripts scripts = omega (arith, items_depth-map script_data 3 depth-script scripts)

-- a plan nests five deep at most
pub depth-plan : (scripts : List (List Call)) → depth (written_data scripts) ≤ 5
depth-plan scripts = omega (arith, depth-scripts scripts)

abbrev pub IsTreeCall : Call → Type 0
IsTreeCall call = IsTrue (is_tree_call call)

-- a call that a tree can do may be in a text that may hold a replace
any_call : (call : Call) → is_tree_call call ≡ true → is_script_call true call ≡ true
any_call call h = rw (h) refl

any_script : (calls : List Call) → All IsTreeCall calls → is_script true calls ≡ true
any_script [] h = refl
any_script (call ∷ calls) h = rw (
  any_call call (All-head IsTreeCall call calls h),
  any_script calls
      (All-tail IsTreeCall call calls h),
) refl

pub any_scripts : (scripts : List (List Call)) → AreTreeCalls scripts → are_scripts true scripts ≡ true
any_scripts [] h = refl
any_scripts (calls ∷ scripts) h =
    rw (any_script calls (All-head (All IsTreeCall) calls scripts h), any_scripts scripts (All-tail (All IsTreeCall) calls scripts h)) refl

-- a call that is no replace may be in any such text
plain_call : (call : Call) → is_tree_call call ≡ true → not (is_replace call) ≡ true → is_script_call false call ≡ true
plain_call call h plain = rw (h, plain) refl

plain_script : (calls : List Call) → All IsTreeCall calls → is_plain_script calls ≡ true → is_script false calls ≡ true
plain_script [] h plain = refl
plain_script (call ∷ calls) h plain =
    let parts = and_parts (not (is_replace call)) (is_plain_script calls) plain in
    rw (plain_call call (All-head IsTreeCall call calls h) parts.0, plain_script calls (All-tail IsTreeCall call calls h) parts.1) refl

pub plain_scripts : (scripts : List (List Call)) → AreTreeCalls scripts → are_plain_scripts scripts ≡ true → are_scripts false scripts ≡ true
plain_scripts [] h plain = refl
plain_scripts (calls ∷ scripts) h plain =
    let parts = and_parts (is_plain_script calls) (are_plain_scripts scripts) plain in
    rw (
      plain_script calls (All-head (All IsTreeCall) calls scripts h) parts.0,
      plain_scripts scripts
          (All-tail (All IsTreeCall) calls scripts h) parts.1,
    ) refl

-- the text that a plan is written as spells it
pub Spells-written : (text : List ℕ) (scripts : List (List Call)) → AreTreeCalls scripts → IsJson text (written_data scripts)
    → SpellsPlan text scripts
Spells-written text scripts calls json = record {
  value = written_data scripts;
  json = json;
  spelled = either
      (are_plain_scripts scripts) refl;
}
  where
    either : (plain : Bool) → are_plain_scripts scripts ≡ plain → SpellsPlanAs (plan_data (not plain) scripts) scripts
    either true h = record { may_replace = false; value = refl; standing = plain_scripts scripts calls h }
    either false h = record { may_replace = true; value = refl; standing = any_scripts scripts calls }

-- A script with a replace is among them.
use Rattle.plan_text.proofs.Common.{◌≡◌, ◌∙◌, false, get_or, ap, sym, list_all_at, list_all-map, is_plain_script}
use Rattle.plan_text.proofs.write_plans.are_plain_scripts.Goals as goal

pub returns-then-not-is_plain_script : goal.returns-then-not-is_plain_script
returns-then-not-is_plain_script c =
    let scripts = c.args.scripts.now in
    let i = c.loop-script.script-index in
    let a = c.script-item.result in
    let here : is_plain_script (get_or scripts i a).items ≡ false =
    sym (ap (λ script. is_plain_script script.items) c.script-item.is)
    ∙ (sym (ap is_plain_script c.deref.ensures.value) ∙ (sym c.is_plain_script.ensures ∙ c.if-not-is_plain_script.true)) in
    sym (list_all-map is_plain_script (λ script. script.items) scripts
    ∙ list_all_at (λ script. is_plain_script script.items) scripts i a c.loop-script-test.true here)

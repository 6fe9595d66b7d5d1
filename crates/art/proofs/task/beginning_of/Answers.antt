use Rattle.std.proofs.Common.{sym, ◌∙◌}
use Rattle.art_control_states.specs.Settings.{setting_of}
use Rattle.art.proofs.GoingLemmas.{begun_key, begun_scan, keys_of_key, keys_of_scan}
use Rattle.art.proofs.task.beginning_of.Goals as goal

pub returns-in-Scan-clause-at : goal.returns-in-Scan-clause-at
returns-in-Scan-clause-at c =
    begun_scan (setting_of c.args.setting.now) c.in-Scan.low c.in-Scan.high c.begin.result (sym c.in-Scan.is ∙ c.call.ensures)
    c.begin.ensures.low c.begin.ensures.high c.begin.ensures.begins

pub returns-in-Scan-clause-keys : goal.returns-in-Scan-clause-keys
returns-in-Scan-clause-keys c =
    keys_of_scan c.args.setting.now.call c.in-Scan.low c.in-Scan.high _ _ (sym c.in-Scan.is ∙ c.call.ensures) c.begin.ensures.low
    c.begin.ensures.high

pub returns-in_default-clause-at : goal.returns-in_default-clause-at
returns-in_default-clause-at c =
    begun_key (setting_of c.args.setting.now) c.call.result c.begin-in_default.result c.call.ensures c.in_default.not-Scan
    c.begin-in_default.ensures

pub returns-in_default-clause-keys : goal.returns-in_default-clause-keys
returns-in_default-clause-keys c = keys_of_key c.args.setting.now.call c.call.result c.call.ensures c.in_default.not-Scan

use Rattle.art_scan.proofs.Common.{ap, sym, ◌∙◌, bytes_of, row_at, with_held, resume_at, row_begins, setting_of, walk_of}
use Rattle.art_scan.proofs.WayLemmas.{visit_some, visit_none}
use Rattle.art_scan.proofs.walks.visit.Goals as goal

pub returns-then-is_met-clause-step : goal.returns-then-is_met-clause-step
returns-then-is_met-clause-step c =
    c.begin_row.ensures.step
    ∙ (ap (row_begins c.args.row.kind (setting_of c.args.setting.now) c.args.low c.args.high c.args.row) c.meet.ensures.met
    ∙ visit_some (setting_of c.args.setting.now) c.args.low c.args.high c.args.row (with_held c.args.row (walk_of c.args.lists.now))
    (bytes_of c.args.low c.args.high (row_at c.args.row)) (sym c.is_met.ensures ∙ c.if-is_met.true))

pub returns-else-is_met-clause-step : goal.returns-else-is_met-clause-step
returns-else-is_met-clause-step c =
    c.resume.ensures.step
    ∙ (ap (resume_at (setting_of c.args.setting.now) c.args.low c.args.high) c.meet.ensures.met
    ∙ visit_none (setting_of c.args.setting.now) c.args.low c.args.high c.args.row (with_held c.args.row (walk_of c.args.lists.now))
    (bytes_of c.args.low c.args.high (row_at c.args.row)) (sym c.is_met.ensures ∙ c.if-is_met.false))

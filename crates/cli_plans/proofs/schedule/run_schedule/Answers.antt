use Rattle.cli_plans.proofs.Common.{rules, text_limit, IsRun-read, IsScheduleAnswer, IsScheduleRefusal}
use Rattle.cli_plans.proofs.WholeSchedules.{IsScheduleAnswer-whole, IsScheduleRefusal-whole}
use Rattle.cli_plans.proofs.schedule.run_schedule.Goals as goal

pub returns-clause-run : goal.returns-clause-run
returns-clause-run g c =
    IsRun-read (IsScheduleAnswer c.args.shape c.args.variant c.args.limit) (IsScheduleRefusal c.args.shape c.args.variant c.args.limit)
    text_limit (IsScheduleAnswer-whole c.args.shape c.args.variant c.args.limit)
    (IsScheduleRefusal-whole c.args.shape c.args.variant c.args.limit) c.run_text.ensures.run
    (λ text outcome made.
    let shows = made.shows in
    let met = made.says.met in
    search rules)

use Rattle.cli_plans.proofs.Common.{rules, text_limit, IsDriveOf, IsRun-read, IsDriveAnswer, IsDriveRefusal}
use Rattle.cli_plans.proofs.WholePlans.{IsDrivenAnswer-whole, IsDriveRefusal-whole}
use Rattle.cli_plans.proofs.drive.run_drive.Goals as goal

pub returns-clause-run : goal.returns-clause-run
returns-clause-run g c =
    let may = g.J.Subject.may_answer c.args.subject.now in
    IsRun-read (IsDriveAnswer may) IsDriveRefusal text_limit (IsDrivenAnswer-whole (IsDriveOf may)) IsDriveRefusal-whole c.run_text.ensures.run
    (λ text outcome made.
    let shows = made.shows in
    let met = made.says.met in
    search rules)

use Rattle.cli_plans.proofs.Common.{rules, text_limit, IsRun-read, IsTreeDriveAnswer, IsDriveRefusal, WasPassedForPlan}
use Rattle.running.specs.ArenaDrives.{IsArenaDriveOf}
use Rattle.cli_outcome.proofs.Reading.{made-status}
use Rattle.cli_plans.proofs.WholePlans.{IsDrivenAnswer-whole, IsDriveRefusal-whole, planned-whole}
use Rattle.cli_plans.proofs.tree_drive.run_tree_drive.Goals as goal

pub returns-clause-run : goal.returns-clause-run
returns-clause-run g c =
    IsRun-read (IsTreeDriveAnswer c.args.shape c.args.variant c.args.limit) IsDriveRefusal text_limit
    (IsDrivenAnswer-whole (IsArenaDriveOf c.args.shape c.args.variant c.args.limit)) IsDriveRefusal-whole c.run_text.ensures.run
    (λ text outcome made.
    let shows = made.shows in
    let met = made.says.met in
    search rules)

pub returns-clause-passed : goal.returns-clause-passed
returns-clause-passed g c =
    let WasPassed = g.G.Gate.was_passed c.args.gate.now in
    made-status (WasPassedForPlan WasPassed) text_limit (planned-whole WasPassed) c.run_text.ensures.run
    (λ text outcome made.
    let shows = made.shows in
    let met = made.says.met in
    search rules)

use Rattle.std.proofs.Common.{◌+◌, ◌<◌, length, arith, ap}
use Rattle.cli_follow.proofs.RefusalLemmas.{refused_at, later_fault, later_refusal}
use Rattle.cli_follow.proofs.followed.Followed.take_line.Goals as goal

pub returns-in-Err-clause-stopped : goal.returns-in-Err-clause-stopped
returns-in-Err-clause-stopped c = λ known read count followed begins.
    let some : 0 < length read = omega arith in
    refused_at c.args.budget known read c.args.line.now c.args.self (c.args.before + 1) c.in-Err.fault c.refused_line.result followed
    (ap (λ n. n + 1) count)
    (later_fault read c.args.self.version c.args.line.now c.in-Err.fault some c.in-Err.ensures.refused) begins
    (later_refusal read (c.args.before + 1) c.args.line.now c.in-Err.fault c.refused_line.result some c.refused_line.ensures)

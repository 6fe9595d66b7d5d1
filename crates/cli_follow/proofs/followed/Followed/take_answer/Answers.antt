use Rattle.cli_follow.proofs.Common.{subst, IsAnswered}
use Rattle.follow_monitor.specs.declared.answered.Answered.{Answered}
use Rattle.cli_follow.proofs.FollowedLemmas.{answered}
use Rattle.cli_follow.proofs.followed.Followed.take_answer.Goals as goal

pub returns-in-Ok-Going-clause-taken : goal.returns-in-Ok-Going-clause-taken
returns-in-Ok-Going-clause-taken c = λ stream before.
    let taken = subst (λ (a : Answered). IsAnswered stream.start stream.events c.args.self.monitor c.args.process c.args.reply c.args.budget a)
    c.in-Ok-Going.field-0-is (c.in-Ok-Going.ensures stream.start stream.events before.follows) in
    answered stream c.args.self c.in-Ok-Going.monitor c.args.process c.args.reply c.saturating_sub.result before taken.1 c.saturating_sub.ensures

pub returns-in-Ok-Lost-clause-stopped : goal.returns-in-Ok-Lost-clause-stopped
returns-in-Ok-Lost-clause-stopped c = λ stream before.
    subst (λ (a : Answered). IsAnswered stream.start stream.events c.args.self.monitor c.args.process c.args.reply c.args.budget a)
    c.in-Ok-Lost.field-0-is (c.in-Ok-Lost.ensures stream.start stream.events before.follows)

pub returns-in-Ok-Spent-clause-stopped : goal.returns-in-Ok-Spent-clause-stopped
returns-in-Ok-Spent-clause-stopped c = λ stream before.
    subst (λ (a : Answered). IsAnswered stream.start stream.events c.args.self.monitor c.args.process c.args.reply c.args.budget a)
    c.in-Ok-Spent.field-0-is (c.in-Ok-Spent.ensures stream.start stream.events before.follows)

pub returns-in-Ok-Refused-clause-stopped : goal.returns-in-Ok-Refused-clause-stopped
returns-in-Ok-Refused-clause-stopped c = λ stream before other.
    let taken = subst (λ (a : Answered). IsAnswered stream.start stream.events c.args.self.monitor c.args.process c.args.reply c.args.budget a)
    c.in-Ok-Refused.field-0-is (c.in-Ok-Refused.ensures stream.start stream.events before.follows) in taken.0

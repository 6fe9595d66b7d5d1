use Rattle.cli_follow.proofs.JudgedLemmas.{whole_at}
use Rattle.cli_follow.proofs.followed.Followed.finish.Goals as goal

pub returns : goal.returns
returns c = λ known read budget followed lines.
    whole_at budget known read c.args.self.now c.calls.result c.args.self.now.overlap c.yes_outcome.result followed lines
    (c.calls.ensures followed.stream.start followed.stream.events followed.follows) followed.overlap c.yes_outcome.ensures

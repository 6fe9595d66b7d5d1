use Rattle.cli_follow.proofs.Common.{ℕ, List, [], refl, subst, IsFollowing}
use Rattle.cli_follow.proofs.FirstLemmas.{start_alone}
use Rattle.cli_follow.proofs.followed.Followed.from_start.Goals as goal

pub returns-clause-taken : goal.returns-clause-taken
returns-clause-taken c = λ line spelled. record {
  stream = record { start = c.args.start.now; events = [] };
  spelled = start_alone c.args.version line c.args.start.now spelled;
  follows = subst (λ (start : List (ℕ × ℕ)). IsFollowing start [] c.in-Ok.monitor) c.as_slice.ensures
      c.in-Ok.ensures;
  pending = refl;
  overlap = refl;
}

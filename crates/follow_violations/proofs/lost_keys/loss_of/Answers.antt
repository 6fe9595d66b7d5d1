use Rattle.std.specs.Prelude.{map}
use Rattle.follow_cuts.specs.PartCuts.{kept_of}
use Rattle.follow_violations.proofs.LossLemmas.{invoked_in}
use Rattle.follow_violations.proofs.OriginLemmas.{origins_are}
use Rattle.follow_violations.proofs.lost_keys.loss_of.Goals as goal

pub returns-clause-is : goal.returns-clause-is
returns-clause-is c = record {
  distinct = c.in_ok-from.ensures.distinct;
  from = origins_are c.args.puts.now c.args.key (map kept_of c.args.pasts.now) c.in_ok-from.from.items c.in_ok-from.ensures.same;
  rising = c.in_ok-invoked.ensures.rising;
  invoked = λ inv.
      let here = c.in_ok-invoked.ensures.same inv in
      let calls = invoked_in (map kept_of c.args.pasts.now) c.args.spans.now c.args.key inv c.requires in
      (λ inv_in. calls.0 (here.0 inv_in), λ any. here.1 (calls.1 any));
}

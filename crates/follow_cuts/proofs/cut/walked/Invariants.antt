use Rattle.follow_cuts.proofs.Common.{map, kept_of, HaveGoneOn}
use Rattle.follow_cuts.proofs.cut.walked.Given as goal

-- walks from all pasts have gone on
abbrev pub invariant-loop : goal.invariant-loop
invariant-loop l = HaveGoneOn l.pasts l.moment (map kept_of l.pasts) l.next.items l.ended.items

use Rattle.follow_pasts.proofs.SeenLemmas.{is_earlier, none_earlier}
use Rattle.follow_pasts.proofs.open_reads.earlier.Goals as goal

pub returns-in_default : goal.returns-in_default
returns-in_default c = none_earlier c.args.ranges.now c.args.reads.now c.args.first c.in_default.ensures

pub returns-in-Some-first : goal.returns-in-Some-first
returns-in-Some-first c =
    is_earlier c.args.ranges.now c.args.reads.now c.args.first c.in-Some-first.moment c.in-Some.other c.in-Some-first.is c.if-moment-other.true
    c.in-Some.ensures

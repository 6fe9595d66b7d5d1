use Rattle.std.proofs.Common.{◌+◌, List, Option, ℕ, get_or, take, take_all, sym, subst, arith}
use Rattle.follow_pasts.specs.declared.moments.OpenRead.{OpenRead}
use Rattle.follow_pasts.proofs.MomentLemmas.{IsFirst, is_first, was_first, was_none, begun_earlier, begun_of_none, begun_more, beside_more}
use Rattle.follow_pasts.proofs.moments.first_read.Goals as goal
use Rattle.follow_pasts.proofs.moments.first_read.Goals.{then-meet+in-Some, then-meet+in_default, in_default-via-in-Some+else-inv-read, in_default-via-in_default, else-meet}

pub loop-read-preserved : goal.loop-read-preserved
loop-read-preserved c =
    let ranges = c.args.ranges.now in
    let reads = c.args.reads.now in
    let i = c.loop-read.read-index in
    let within = c.loop-read-test.true in
    let d : OpenRead = record { inv = 0; low = 0; high = 0 } in
    let inv = (get_or reads i d).inv in
    elim c.if-meet.branch [
      | then-meet+in-Some w ↦
          is_first ranges (take (i + 1) reads) c.if-meet.first w.in-Some.inv w.first-is
          (begun_more ranges reads i d w.in-Some.inv within
          (was_first ranges (take i reads) c.loop-read.first w.in-Some.inv w.in-Some.is c.loop-read.invariant) (omega (arith, w.if-inv-read.true)))
      | then-meet+in_default w ↦ elim w.in_default.branch [
        | in_default-via-in-Some+else-inv-read v ↦
            is_first ranges (take (i + 1) reads) c.if-meet.first inv w.first-is
            (begun_more ranges reads i d inv within
            (begun_earlier ranges (take i reads) v.in-Some.inv inv
            (was_first ranges (take i reads) c.loop-read.first v.in-Some.inv v.in-Some.is c.loop-read.invariant) v.if-inv-read.false) (omega arith))
        | in_default-via-in_default v ↦
            is_first ranges (take (i + 1) reads) c.if-meet.first inv w.first-is
            (begun_more ranges reads i d inv within
            (begun_of_none ranges (take i reads) inv (was_none ranges (take i reads) c.loop-read.first v.in_default.is c.loop-read.invariant))
            (omega arith))
      ]
      | else-meet w ↦
          subst (λ (o : Option ℕ). IsFirst ranges (take (i + 1) reads) o) (sym w.first-is)
          (beside_more ranges reads i d c.loop-read.first within (c.meet.ensures.none w.if-meet.false) c.loop-read.invariant)
    ]

pub returns : goal.returns
returns c =
    subst (λ (rs : List OpenRead). IsFirst c.args.ranges.now rs c.loop-read.first)
    (take_all c.loop-read.read-index c.args.reads.now c.loop-read-test.false) c.loop-read.invariant

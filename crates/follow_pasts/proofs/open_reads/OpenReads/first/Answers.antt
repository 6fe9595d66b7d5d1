use Rattle.std.proofs.Common.{◌<◌, ℕ, List, sym, subst, arith}
use Rattle.follow_pasts.proofs.MomentLemmas.{IsFirst}
use Rattle.follow_pasts.proofs.SeenLemmas.{seen_all, seen_first, seen_more}
use Rattle.follow_pasts.specs.Lists.{list_count}
use Rattle.follow_pasts.specs.Moments.{IsEarlier}
use Rattle.follow_pasts.specs.declared.moments.OpenRead.{OpenRead}
use Rattle.follow_pasts.proofs.open_reads.OpenReads.first.Goals as goal

pub loop-place-init : goal.loop-place-init
loop-place-init c =
    seen_first c.args.ranges.now c.self.inside.lists.items c.lists_of_ranges-from.result.0 c.index.result.now
    (subst (λ (n : ℕ). 0 < n) (sym c.self.invariant.count) (let e : 0 < list_count = omega arith in e)) c.index.ensures c.first_read-first.result
    (subst (λ (rs : List OpenRead). IsFirst c.args.ranges.now rs c.first_read-first.result) c.deref.ensures.value c.first_read-first.ensures)

pub loop-place-preserved : goal.loop-place-preserved
loop-place-preserved c =
    seen_more c.args.ranges.now c.self.inside.lists.items c.lists_of_ranges-from.result.0 c.loop-place.place c.index-in-loop-place.result.now
    (omega (arith, c.loop-place-test.true, c.lists_of_ranges-from.ensures.there, c.self.invariant.count)) c.index-in-loop-place.ensures
    c.loop-place.first c.earlier-first.result c.loop-place.invariant
    (subst (λ (rs : List OpenRead). IsEarlier c.args.ranges.now rs c.loop-place.first c.earlier-first.result) c.deref-in-loop-place.ensures.value
    c.earlier-first.ensures)

pub returns : goal.returns
returns c =
    rw (← c.self.view_is)
    (seen_all c.args.ranges.now c.self.inside.lists.items c.lists_of_ranges-from.result.0 c.self.invariant c.lists_of_ranges-from.result.1
    c.loop-place.place (omega (arith, c.loop-place-test.false)) c.lists_of_ranges-from.ensures.within c.lists_of_ranges-from.ensures.before
    c.index.result.now c.loop-place.first c.loop-place.invariant)

use Rattle.std.proofs.Common.{◌<◌, ℕ, List, sym, subst, arith}
use Rattle.follow_pasts.specs.Lists.{list_count}
use Rattle.follow_parts.proofs.Common.{AreMet, Part, things_of}
use Rattle.follow_parts.proofs.TableLemmas.{taking_begins, taking_ends, taking_goes_on}
use Rattle.follow_parts.proofs.table.PartTable.take_met.Goals as goal

pub loop-place-init : goal.loop-place-init
loop-place-init c = (
  c.self.inside.lists.items,
  c.self.view_is,
  taking_begins c.args.low c.args.high c.self.inside.lists.items c.lists_within-first.result.0 c.self.invariant c.index_mut.result.now
      c.take_met.new.parts (subst (λ (n : ℕ). 0 < n) (sym c.self.invariant.count) (let e : 0 < list_count = omega arith in e))
      c.index_mut.ensures.value c.lists_within-first.ensures.some c.in_ok-met.met.items c.in_ok-met.ensures,
)

pub loop-place-preserved : goal.loop-place-preserved
loop-place-preserved c =
    let (olds, same, so) = c.loop-place.invariant in (
      olds,
      same,
      taking_goes_on c.args.low c.args.high olds c.lists_within-first.result.0 c.loop-place.lists.items c.loop-place.met.items c.loop-place.place so
          (omega (arith, c.loop-place-test.true, c.lists_within-first.ensures.there, so.listed.count)) c.index_mut-in-loop-place.result.now
          c.take_met-in-loop-place.new.parts c.index_mut-in-loop-place.ensures.value c.in_ok-more.more.items c.in_ok-more.ensures
          c.append.new.self.items c.in_ok-append.ensures.items,
    )

pub invariant_of-result : goal.invariant_of-result
invariant_of-result c = c.loop-place.invariant.2.listed

pub returns : goal.returns
returns c =
    let (olds, same, so) = c.loop-place.invariant in
    subst (λ (ps : List Part). AreMet c.args.low c.args.high ps (things_of c.loop-place.lists.items) c.loop-place.met.items) same
    (taking_ends c.args.low c.args.high olds c.lists_within-first.result.0 c.index_mut.result.now c.loop-place.lists.items c.loop-place.met.items
    c.loop-place.place c.lists_within-first.result.1 so c.loop-place-test.false c.lists_within-first.ensures.within
    c.lists_within-first.ensures.before)

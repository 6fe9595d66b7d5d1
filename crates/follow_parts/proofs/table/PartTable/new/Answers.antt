use Rattle.std.proofs.Common.{arith}
use Rattle.follow_pasts.proofs.ListLemmas.{empty_listed, empty_things}
use Rattle.follow_parts.specs.Table.{part_place}
use Rattle.follow_parts.proofs.table.PartTable.new.Goals as goal

pub invariant_of-result : goal.invariant_of-result
invariant_of-result c =
    empty_listed part_place c.loop.lists.items (omega (arith, c.loop.invariant.0, c.loop-test.false, c.loop.auto.counter-end)) c.loop.invariant.1

pub returns : goal.returns
returns c = empty_things c.loop.lists.items c.loop.invariant.1

use Rattle.std.proofs.Common.{arith}
use Rattle.follow_pasts.proofs.ListLemmas.{empty_listed, empty_things}
use Rattle.follow_pasts.proofs.OpenReadLemmas.{place_of_read}
use Rattle.follow_pasts.proofs.open_reads.OpenReads.new.Goals as goal

pub invariant_of-result : goal.invariant_of-result
invariant_of-result c =
    empty_listed place_of_read c.loop.lists.items (omega (arith, c.loop.invariant.0, c.loop-test.false, c.loop.auto.counter-end)) c.loop.invariant.1

pub returns : goal.returns
returns c = empty_things c.loop.lists.items c.loop.invariant.1

use Rattle.std.proofs.Common.{◌<◌, ℕ, sym, subst}
use Rattle.follow_pasts.proofs.ListLemmas.{put_at}
use Rattle.follow_pasts.proofs.open_reads.OpenReads.put.Goals as goal

pub returns : goal.returns
returns c =
    rw (← c.self.view_is)
    (put_at c.self.inside.lists.items c.list_of.result c.index_mut.result.now c.push.new.self c.args.read
    (subst (λ (n : ℕ). c.list_of.result < n) (sym c.self.invariant.count) c.list_of.ensures.there) c.index_mut.ensures.value
    c.in_ok-push.ensures.items)

use Rattle.std.proofs.Common.{◌<◌, ℕ, sym, subst}
use Rattle.follow_pasts.proofs.OpenReadLemmas.{ended_at, ended_listed}
use Rattle.follow_pasts.proofs.open_reads.OpenReads.end.Goals as goal

pub invariant_of-self : goal.invariant_of-self
invariant_of-self c =
    ended_listed c.self.inside.lists.items c.self.invariant c.list_of.result c.index_mut.result.now c.end_in.new.reads
    (subst (λ (n : ℕ). c.list_of.result < n) (sym c.self.invariant.count) c.list_of.ensures.there) c.index_mut.ensures.value c.args.read
    c.list_of.ensures.place c.end_in.result c.end_in.ensures

pub returns : goal.returns
returns c =
    rw (← c.self.view_is)
    (ended_at c.self.inside.lists.items c.self.invariant c.list_of.result c.index_mut.result.now c.end_in.new.reads
    (subst (λ (n : ℕ). c.list_of.result < n) (sym c.self.invariant.count) c.list_of.ensures.there) c.index_mut.ensures.value c.args.read
    c.list_of.ensures.place c.end_in.result c.end_in.ensures)

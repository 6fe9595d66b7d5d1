-- The leaf is cut, or stays if memory runs out.
use Rattle.packed_map.proofs.Common.{ap, subst, sym, ◌∙◌, AreLeaves, IsLeafOf, entries_of}
use Rattle.packed_map.proofs.LeafLemmas.{rises_at, split_at, unchanged_at}
use Rattle.packed_map.proofs.splitting.split_leaf.Goals as goal

pub cut-requires-clause-rise : goal.cut-requires-clause-rise
cut-requires-clause-rise g c =
    let same = c.in_ok-reserve.ensures.items in
    let are = subst (λ ls. AreLeaves ls) (sym same) c.requires.leaves in
    let place = subst (λ ls. IsLeafOf c.args.key ls c.args.at) (sym same) c.requires.place in
    rises_at c.args.at c.reserve.new.self.items c.index_mut-leaf.result.now are place.there c.index_mut-leaf.ensures.value

pub returns-in_err-next-clause-leaves : goal.returns-in_err-next-clause-leaves
returns-in_err-next-clause-leaves g c =
    let same = c.in_ok-reserve.ensures.items in
    let are = subst (λ ls. AreLeaves ls) (sym same) c.requires.leaves in
    let place = subst (λ ls. IsLeafOf c.args.key ls c.args.at) (sym same) c.requires.place in
    (unchanged_at c.args.key c.args.at c.reserve.new.self.items c.index_mut-leaf.result.now c.cut.new.self are place c.index_mut-leaf.ensures.value
    c.in_err-next.ensures.from c.in_err-next.ensures.err).0

pub returns-in_err-next-clause-same : goal.returns-in_err-next-clause-same
returns-in_err-next-clause-same g c =
    let same = c.in_ok-reserve.ensures.items in
    let are = subst (λ ls. AreLeaves ls) (sym same) c.requires.leaves in
    let place = subst (λ ls. IsLeafOf c.args.key ls c.args.at) (sym same) c.requires.place in
    (unchanged_at c.args.key c.args.at c.reserve.new.self.items c.index_mut-leaf.result.now c.cut.new.self are place c.index_mut-leaf.ensures.value
    c.in_err-next.ensures.from c.in_err-next.ensures.err).1 ∙ ap (λ ls. entries_of ls) same

pub returns-clause-leaves : goal.returns-clause-leaves
returns-clause-leaves g c =
    let same = c.in_ok-reserve.ensures.items in
    let are = subst (λ ls. AreLeaves ls) (sym same) c.requires.leaves in
    let place = subst (λ ls. IsLeafOf c.args.key ls c.args.at) (sym same) c.requires.place in
    rw c.in_ok-insert.ensures.items
    (split_at c.args.key c.args.at c.reserve.new.self.items c.index_mut-leaf.result.now c.cut.new.self c.in_ok-next.next are place
    c.index_mut-leaf.ensures.value c.in_ok-next.ensures.from c.in_ok-next.ensures.cut).0

pub returns-clause-same : goal.returns-clause-same
returns-clause-same g c =
    let same = c.in_ok-reserve.ensures.items in
    let are = subst (λ ls. AreLeaves ls) (sym same) c.requires.leaves in
    let place = subst (λ ls. IsLeafOf c.args.key ls c.args.at) (sym same) c.requires.place in
    rw c.in_ok-insert.ensures.items
    ((split_at c.args.key c.args.at c.reserve.new.self.items c.index_mut-leaf.result.now c.cut.new.self c.in_ok-next.next are place
    c.index_mut-leaf.ensures.value c.in_ok-next.ensures.from c.in_ok-next.ensures.cut).1 ∙ ap (λ ls. entries_of ls) same)

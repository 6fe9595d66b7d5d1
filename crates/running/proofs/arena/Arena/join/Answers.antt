use Rattle.running.proofs.Common.{length, ap, sym, subst, ◌∙◌, arith, merge, Fit, shows}
use Rattle.running.proofs.FitLemmas.{fit-merge}
use Rattle.running.proofs.GatherLemmas.{merge-length}
use Rattle.running.proofs.CloseLemmas.{as-many, same-setup, same-processes}
use Rattle.running.proofs.arena.Arena.join.Goals as goal

pub unreachable-requires : goal.unreachable-requires
unreachable-requires c =
    let a = c.args.self.now in
    let mine = as-many a c.args.group.now c.requires.own in
    let theirs = as-many a c.args.other c.requires.other in
    let same = same-processes a c.args.group.now c.requires.own in
    let both = ap (λ v. length v.processes) c.join.ensures.both in
    let sum = merge-length (shows c.args.group.now).processes (shows c.args.other).processes in
    omega (arith, mine, theirs, same, both, sum, c.look.ensures.few, c.if-len-from.true, c.len.ensures, c.len-2.ensures, c.from.ensures)

pub returns-clause-own : goal.returns-clause-own
returns-clause-own c =
    let a = c.args.self.now in
    let p = c.args.group.now in
    let o = c.args.other in
    let own = c.requires.own.group in
    let fit = subst (λ s. Fit s (shows o).processes o.runners.items) (same-setup a o c.requires.other ∙ sym (same-setup a p c.requires.own))
    c.requires.other.group.fit in
    record {
      place = c.join.ensures.own;
      group = record {
        setup = ap (λ v. v.setup) c.join.ensures.both ∙ own.setup;
        limits = own.limits;
        fit = subst (λ v. Fit p.setup v.processes c.gather.new.runners.items) (sym c.join.ensures.both)
            (subst (Fit p.setup (merge (shows p).processes (shows o).processes)) (sym c.gather.ensures.items)
            (fit-merge p.setup (shows p).processes p.runners.items (shows o).processes o.runners.items own.fit fit));
        some = let s = own.some in let l = c.gather.ensures.long in omega arith;
        room = let r = own.room in let k = c.gather.ensures.capacity in omega arith;
      };
    }

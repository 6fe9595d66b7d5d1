use Rattle.running.proofs.Common.{◌≡◌, ◌-◌, length, take, drop, ap, sym, subst, ◌∙◌, arith, Fit, shows}
use Rattle.running.proofs.FitLemmas.{fit-cut}
use Rattle.running.proofs.CloseLemmas.{as-many}
use Rattle.running.proofs.arena.Arena.split.Goals as goal

pub returns-clause-own : goal.returns-clause-own
returns-clause-own c =
    let p = c.args.group.now in
    let own = c.requires.own.group in
    let xs = (shows p).processes in
    let kept = c.give_last.new.runners in
    let many = as-many c.args.self.now p c.requires.own in
    let cut = fit-cut p.setup xs kept.items c.give_last.new.other.items (subst (Fit p.setup xs) c.give_last.ensures.parts own.fit) in
    let k : length xs - 1 ≡ length kept.items = omega (arith, many, c.give_last.ensures.long, kept.ok.0) in
    let several = c.requires.several in
    let long = c.give_last.ensures.long in
    let room = own.room in
    let more = c.give_last.ensures.capacity in
    record {
      place = c.split-place.ensures.own.0;
      group = record {
        setup = ap (λ v. v.setup) c.split-place.ensures.kept ∙ own.setup;
        limits = own.limits;
        fit = subst (λ v. Fit p.setup v.processes kept.items) (sym c.split-place.ensures.kept)
            (subst (λ n. Fit p.setup (take n xs) kept.items) (sym k) cut.0);
        some = omega (arith, many, several, long);
        room = omega (arith, room, more);
      };
    }

pub returns-clause-given_own : goal.returns-clause-given_own
returns-clause-given_own c =
    let p = c.args.group.now in
    let own = c.requires.own.group in
    let xs = (shows p).processes in
    let kept = c.give_last.new.runners in
    let other = c.give_last.new.other in
    let many = as-many c.args.self.now p c.requires.own in
    let cut = fit-cut p.setup xs kept.items other.items (subst (Fit p.setup xs) c.give_last.ensures.parts own.fit) in
    let k : length xs - 1 ≡ length kept.items = omega (arith, many, c.give_last.ensures.long, kept.ok.0) in
    let more = c.give_last.ensures.other_capacity in
    record {
      place = c.split-place.ensures.own.1;
      group = record {
        setup = ap (λ v. v.setup) c.split-place.ensures.given ∙ own.setup;
        limits = own.limits;
        fit = subst (λ v. Fit p.setup v.processes other.items) (sym c.split-place.ensures.given)
            (subst (λ n. Fit p.setup (drop n xs) other.items) (sym k) cut.1);
        some = c.give_last.ensures.some;
        room = omega (arith, more, c.in_ok-runners.ensures.capacity, c.from.ensures);
      };
    }

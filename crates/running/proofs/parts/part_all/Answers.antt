use Rattle.running.proofs.Common.{◌≡◌, ◌+◌, ◌-◌, length, ap, ◌∙◌, arith, All-push, view, shows, opened_for, IsReady}
use Rattle.std.proofs.Common.{vec_len}
use Rattle.running.proofs.PartLemmas.{first_idle, length-idle, kept-idle, given-idle}
use Rattle.running.proofs.parts.part_all.Goals as goal

pub split-requires-clause-several : goal.split-requires-clause-several
split-requires-clause-several c =
    let kept = c.loop-given.invariant in
    let left = c.args.processes - vec_len c.loop-given.groups in
    omega (arith, ap (λ v. length v.processes) kept.left, length-idle left, kept.many, c.loop-given-test.true)

pub loop-given-preserved : goal.loop-given-preserved
loop-given-preserved c =
    let a = c.args.arena.now in
    let kept = c.loop-given.invariant in
    let m = c.args.processes - vec_len c.loop-given.groups in
    let n = c.args.processes - vec_len c.push.new.self in
    let many = c.in_ok-push.ensures.len in
    let more : m ≡ n + 1 = omega (arith, many, kept.many, c.loop-given-test.true) in
    let old = shows c.loop-given.rest in
    record {
      many = omega (arith, many, kept.many);
      ready = rw c.in_ok-push.ensures.items (All-push (IsReady a) c.loop-given.groups.items c.in_ok-last.last kept.ready (record {
        own = c.in_ok-last.ensures.given_own;
        number = n;
        known = omega (arith, more, c.requires.processes, kept.many, c.loop-given-test.true);
        shown = c.in_ok-last.ensures.given ∙ given-idle (opened_for a) n m more old kept.left;
      }));
      own = c.in_ok-last.ensures.own;
      left = c.in_ok-last.ensures.kept ∙ kept-idle (opened_for a) n m more old kept.left;
    }

pub returns-clause-ready : goal.returns-clause-ready
returns-clause-ready c =
    let a = c.args.arena.now in
    let kept = c.loop-given.invariant in
    let one : c.args.processes - vec_len c.loop-given.groups ≡ 1 = omega (arith, kept.many, c.loop-given-test.false, c.requires.some) in
    rw c.in_ok-push-2.ensures.items (All-push (IsReady a) c.loop-given.groups.items c.loop-given.rest kept.ready (record {
      own = kept.own;
      number = 0;
      known = omega (arith, c.requires.processes, c.requires.some);
      shown = kept.left ∙ ap (λ n. view (opened_for a) (first_idle n)) one;
    }))

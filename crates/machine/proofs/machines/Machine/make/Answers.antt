use Rattle.machine.proofs.Common.{◌≡◌, true, arith, subst, ap, ◌∙◌, IsSomeAnd, err_from_is_err_and, step, finished_count, Shows}
use Rattle.std.proofs.Common.{slice_get}
use Rattle.machine.proofs.RunningLemmas.{turns-more, turns-whole, turns-stopped}
use Rattle.machine.proofs.machines.Machine.make.Goals as goal

pub returns-in_err-turn-clause-stopped : goal.returns-in_err-turn-clause-stopped
returns-in_err-turn-clause-stopped c = λ plan s shows.
    let h = c.turns.invariant.0 plan s shows in
    let was = c.finished_calls-before.ensures plan s shows ∙ ap (λ p. finished_count (slice_get s.processes p)) c.process_of-process.ensures in
    let p = err_from_is_err_and c.from_residual.result c.from_residual.ensures.1 in
    rw (p.1, p.2)
    (turns-stopped plan c.args.item s _ c.turns.made c.process_of-process.result _ c.turns.self c.turn.new.self h
    ((c.wants.ensures plan s h.state h.shows was).0 c.turns-test.true) c.process_of-process.ensures c.turns.invariant.1
    c.in_err-turn.ensures.same_left
    (c.in_err-turn.ensures.kept plan h.state h.shows) (c.in_err-turn.ensures.refused plan h.state h.shows))

pub turns-preserved : goal.turns-preserved
turns-preserved c = (
  λ plan s shows.
      let h = c.turns.invariant.0 plan s shows in
      let was = c.finished_calls-before.ensures plan s shows ∙ ap (λ p. finished_count (slice_get s.processes p)) c.process_of-process.ensures in
      turns-more plan c.args.item s c.turns.made c.turns.self c.turn.new.self h
      ((c.wants.ensures plan s h.state h.shows was).0 c.turns-test.true)
      (subst (λ p. IsSomeAnd (step plan h.state p) (λ t. Shows plan c.turn.new.self t)) c.process_of-process.ensures
      (c.in_ok-turn.ensures.moved plan h.state h.shows)),
  omega (arith, c.in_ok-turn.ensures.left, c.turns.invariant.1),
  c.turn.ensures.same_start ∙ c.turns.invariant.2,
)

pub returns-clause-made : goal.returns-clause-made
returns-clause-made c = λ plan s shows.
    let h = c.turns.invariant.0 plan s shows in
    let was = c.finished_calls-before.ensures plan s shows ∙ ap (λ p. finished_count (slice_get s.processes p)) c.process_of-process.ensures in
    turns-whole plan c.args.item s _ c.turns.made c.turns.self h
    (λ w. let t : c.wants.result ≡ true = (c.wants.ensures plan s h.state h.shows was).1 w in let f = c.turns-test.false in cc)
    c.turns.invariant.1

pub returns-in_err-turn-clause-same_start : goal.returns-in_err-turn-clause-same_start
returns-in_err-turn-clause-same_start c = c.turn.ensures.same_start ∙ c.turns.invariant.2

pub returns-clause-same_start : goal.returns-clause-same_start
returns-clause-same_start c = c.turns.invariant.2

use Rattle.running.proofs.Common.{[], ◌∷◌, ◌++◌, take, sym, ap, ◌∙◌, flat_map, take_more, take_all, flat_map_more, Run}
use Rattle.running.proofs.closing.all_events.Goals as goal

pub loop-runner-preserved : goal.loop-runner-preserved
loop-runner-preserved c =
    let log = λ (r : Run). r.1.log.items in
    let runners = c.args.runners.now in
    let i = c.loop-runner.runner-index in
    let runner = c.runner-item.result in
    c.in_ok-append_log.ensures
    ∙ ((λ j. c.loop-runner.invariant j ++ c.deref.ensures.value j)
    ∙ (flat_map_more log [] (take i runners) runner
    ∙ ap (flat_map log)
    (ap (λ r. take i runners ++ r ∷ []) c.runner-item.is ∙ sym (take_more runners i runner c.loop-runner-test.true))))

pub returns : goal.returns
returns c = c.loop-runner.invariant
    ∙ ap (flat_map (λ (r : Run). r.1.log.items)) (take_all c.loop-runner.runner-index c.args.runners.now c.loop-runner-test.false)

use Rattle.replays.proofs.Common.{opened_on, plan_in}
use Rattle.plan_text.specs.ReplayViews.{shown}
use Rattle.replays.proofs.PlayLemmas.{if_ok, if_err, plays-as, unplayed-as}
use Rattle.replays.proofs.play.play.Goals as goal

pub returns-in-Ok-clause-played : goal.returns-in-Ok-clause-played
returns-in-Ok-clause-played c =
    let r = shown c.args.replay in
    let o = c.in-Ok.ensures.opened in
    if_ok c.record.result (λ h records. plays-as c.coupled_is_linearizable.ensures
    c.optimistic_is_linearizable.ensures r c.args.replay.within o.words c.deref.result.now c.in-Ok.machine.left c.in-Ok.machine.start.items h
    c.deref.ensures.value o.left o.same_start o.starts records)
    (c.record.ensures.recorded (plan_in r) (opened_on (plan_in r) o.words) o.shows)

pub returns-in-Ok-clause-refused : goal.returns-in-Ok-clause-refused
returns-in-Ok-clause-refused c =
    let r = shown c.args.replay in
    let o = c.in-Ok.ensures.opened in
    if_err c.record.result (λ fault h. unplayed-as r o.words c.deref.result.now c.in-Ok.machine.left fault c.deref.ensures.value
    o.left o.starts h)
    (c.record.ensures.refused (plan_in r) (opened_on (plan_in r) o.words) o.shows)

use Rattle.running.proofs.Common.{◌+◌, ◌++◌, take, drop, ap, sym, subst, ◌∙◌, take-append-drop, shows, opened_for, least_process}
use Rattle.running.specs.Progressed.{HasProgressed}
use Rattle.running.proofs.ArenaScriptLemmas.{IsBetween, take-next, begins, answers, stops}
use Rattle.running.proofs.arena_script.do_script.Goals as goal

pub returns-in-Going-clause-done : goal.returns-in-Going-clause-done
returns-in-Going-clause-done c =
    let setup = opened_for c.args.arena.now in
    let number = least_process (shows c.args.entered.group) in
    let limit = c.args.limit in
    let script = c.args.script.now in
    let i = c.loop-call.call-index in
    let call = c.call-item.result in
    let old = shows c.loop-call.group in
    let mid = shows c.begin.new.group in
    let new = shows c.advance.new.group in
    let within = begins setup number limit (take i script) old c.loop-call.invariant.between call mid c.in_ok-begin.ensures.invoked in
    let progressed = subst (λ p. HasProgressed p limit mid new) c.in-Going.is c.in_ok-advance.ensures.progressed in
    stops setup number limit (take i script) call mid within new script (drop (i + 1) script) progressed.0 progressed.1
    (ap (λ l. l ++ drop (i + 1) script) (sym (take-next script i call c.loop-call-test.true c.call-item.is))
    ∙ take-append-drop (i + 1) script)

pub loop-call-preserved : goal.loop-call-preserved
loop-call-preserved c =
    let setup = opened_for c.args.arena.now in
    let number = least_process (shows c.args.entered.group) in
    let limit = c.args.limit in
    let script = c.args.script.now in
    let i = c.loop-call.call-index in
    let call = c.call-item.result in
    let old = shows c.loop-call.group in
    let mid = shows c.begin.new.group in
    let new = shows c.advance.new.group in
    let within = begins setup number limit (take i script) old c.loop-call.invariant.between call mid c.in_ok-begin.ensures.invoked in
    let reply = c.in-Done.field-0 in
    let progressed = subst (λ p. HasProgressed p limit mid new) c.in-Done.is c.in_ok-advance.ensures.progressed in
    record {
      own = c.advance.ensures.own;
      between = subst (λ calls. IsBetween setup number limit calls new) (sym (take-next script i call c.loop-call-test.true c.call-item.is))
          (answers setup number limit (take i script) call mid within progressed.0 new reply progressed.1 progressed.2 progressed.3);
    }

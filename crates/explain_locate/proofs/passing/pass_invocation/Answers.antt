use Rattle.explain_locate.proofs.Common.{◌∙◌, take, sym, subst, Invoke, IsFollowing}
use Rattle.explain_locate.proofs.PassLemmas.{fine_call, next}
use Rattle.explain_locate.proofs.passing.pass_invocation.Goals as goal

pub memory_of-requires : goal.memory_of-requires
memory_of-requires c =
    let history = c.args.history.now in
    let before = take c.args.place history.events in
    let fine = fine_call history c.args.place c.args.process c.args.call c.requires.event c.histories_have_few_events.ensures c.requires.history in
    sym (c.in-Err.ensures.refused history.start before c.requires.follows) ∙ fine

pub returns-in-Ok : goal.returns-in-Ok
returns-in-Ok c =
    let history = c.args.history.now in
    let before = take c.args.place history.events in
    subst (λ es. IsFollowing history.start es c.in-Ok.next)
    (next history c.args.place (Invoke c.args.process c.args.call) c.requires.event)
    (c.in-Ok.ensures.follows history.start before c.requires.follows)

use Rattle.cli_follow.proofs.Common.{One, [], refl, subst, TextVersion, as_event, SpellsEvent, SpellsFirst}
use Rattle.stream_text.specs.declared.event.FirstLine.{FirstLine}
use Rattle.cli_follow.proofs.FirstLemmas.{no_start}
use Rattle.cli_follow.proofs.RefusalLemmas.{refused_at}
use Rattle.cli_follow.proofs.followed.Followed.take_first.Goals as goal

pub returns-in-Ok-Event-clause-taken : goal.returns-in-Ok-Event-clause-taken
returns-in-Ok-Event-clause-taken c = λ followed.
    let line = c.args.line.now in
    let spelled : SpellsEvent One line (as_event c.in-Ok-Event.event) =
    subst (λ (first : FirstLine). SpellsFirst line first) c.in-Ok-Event.field-0-is c.in-Ok-Event.ensures.spelled in
    c.take_spelled.ensures.taken [] followed
    (subst (λ (version : TextVersion). SpellsEvent version line (as_event c.in-Ok-Event.event)) (no_start c.args.self followed) spelled)

pub returns-in-Ok-Event-clause-stopped : goal.returns-in-Ok-Event-clause-stopped
returns-in-Ok-Event-clause-stopped c = λ known followed begins.
    let line = c.args.line.now in
    let spelled : SpellsEvent One line (as_event c.in-Ok-Event.event) =
    subst (λ (first : FirstLine). SpellsFirst line first) c.in-Ok-Event.field-0-is c.in-Ok-Event.ensures.spelled in
    c.take_spelled.ensures.stopped known [] refl followed
    (subst (λ (version : TextVersion). SpellsEvent version line (as_event c.in-Ok-Event.event)) (no_start c.args.self followed) spelled) begins

pub returns-in-Err-clause-stopped : goal.returns-in-Err-clause-stopped
returns-in-Err-clause-stopped c = λ known followed begins.
    refused_at c.args.budget known [] c.args.line.now c.args.self 1 c.in-Err.fault c.refused_first.result followed refl
    c.in-Err.ensures.refused begins
    c.refused_first.ensures

pub returns-in-Ok-Start-clause-stopped : goal.returns-in-Ok-Start-clause-stopped
returns-in-Ok-Start-clause-stopped c = λ known followed begins. c.from_start.ensures.stopped known c.args.budget

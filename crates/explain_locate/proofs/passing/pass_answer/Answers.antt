use Rattle.explain_locate.proofs.Common.{◌∙◌, take, sym, subst, none-some, Answer, IsFollowing, IsAnswered}
use Rattle.explain_locate.proofs.PassLemmas.{fine_answer, lost, next, spent}
use Rattle.explain_locate.proofs.passing.pass_answer.Goals as goal

pub unreachable-requires : goal.unreachable-requires
unreachable-requires c =
    let history = c.args.history.now in
    let before = take c.args.place history.events in
    let is = subst (IsAnswered history.start before c.args.monitor c.args.process c.args.reply c.args.budget) c.in-Refused.is
    (c.in_ok-next.ensures history.start before c.requires.follows) in
    let fine = fine_answer history c.args.place c.args.process c.args.reply c.requires.event c.histories_have_few_events.ensures c.requires.history in
    none-some c.in-Refused.field-1 (sym fine ∙ is.0)

pub returns-in-Going : goal.returns-in-Going
returns-in-Going c =
    let history = c.args.history.now in
    let before = take c.args.place history.events in
    let is = subst (IsAnswered history.start before c.args.monitor c.args.process c.args.reply c.args.budget) c.in-Going.is
    (c.in_ok-next.ensures history.start before c.requires.follows) in
    subst (λ es. IsFollowing history.start es c.in-Going.next)
    (next history c.args.place (Answer c.args.process c.args.reply) c.requires.event) is.1

pub returns-in-Lost : goal.returns-in-Lost
returns-in-Lost c =
    let history = c.args.history.now in
    let before = take c.args.place history.events in
    let is = subst (IsAnswered history.start before c.args.monitor c.args.process c.args.reply c.args.budget) c.in-Lost.is
    (c.in_ok-next.ensures history.start before c.requires.follows) in
    lost history c.args.place c.args.process c.args.reply c.requires.event c.args.budget c.args.monitor c.requires.follows c.in-Lost.loss
    c.requires.open_to_judge is

pub returns-in-Spent : goal.returns-in-Spent
returns-in-Spent c =
    let history = c.args.history.now in
    let before = take c.args.place history.events in
    let is = subst (IsAnswered history.start before c.args.monitor c.args.process c.args.reply c.args.budget) c.in-Spent.is
    (c.in_ok-next.ensures history.start before c.requires.follows) in
    spent history c.args.place c.args.process c.args.reply c.requires.event c.args.budget c.args.monitor c.requires.follows
    c.in-Spent.loss c.requires.open_to_judge is

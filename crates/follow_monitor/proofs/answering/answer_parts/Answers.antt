use Rattle.follow_monitor.proofs.Common.{begun, HasEndedBy, is_reported, IsAnswered, response_at, ◌++◌, ◌∷◌, inr, subst}
use Rattle.follow_monitor.proofs.answering.answer_parts.Goals as goal

pub unreachable-requires : goal.unreachable-requires
unreachable-requires c =
    let known = c.args.known in
    let some = c.requires.pending in
    subst (IsAnswered some.start c.args.budget c.args.parts
    (some.front ++ is_reported (begun known.call known.event) c.args.reply c.args.parts.now ∷ some.back)) c.in-Unknown.is
    (c.in_ok-next.ensures.answered some.start some.front some.back some.state)

pub returns-in-Going-clause-answered : goal.returns-in-Going-clause-answered
returns-in-Going-clause-answered c = λ start front back state.
    let known = c.args.known in
    let answered = subst (IsAnswered start c.args.budget c.args.parts
    (front ++ is_reported (begun known.call known.event) c.args.reply c.args.parts.now ∷ back)) c.in-Going.is
    (c.in_ok-next.ensures.answered start front back state) in
    (answered.0, answered.1, c.goes_on.ensures)

pub returns-in-Lost-clause-answered : goal.returns-in-Lost-clause-answered
returns-in-Lost-clause-answered c = λ start front back state.
    let known = c.args.known in
    let answered = subst (IsAnswered start c.args.budget c.args.parts
    (front ++ is_reported (begun known.call known.event) c.args.reply c.args.parts.now ∷ back)) c.in-Lost.is
    (c.in_ok-next.ensures.answered start front back state) in
    inr (c.may_reply.ensures.0 c.if-not-may_reply.false, answered.0, answered.1)

pub returns-in-Lost-clause-ended : goal.returns-in-Lost-clause-ended
returns-in-Lost-clause-ended c = λ start front back state replies.
    let known = c.args.known in
    let o = begun known.call known.event in
    subst (HasEndedBy start c.args.parts.now (front ++ o ∷ back) o (response_at c.args.reply c.args.parts.now)) c.in-Lost.is
    (c.in_ok-next.ensures.ended start front back state)

pub returns-in-Spent-clause-answered : goal.returns-in-Spent-clause-answered
returns-in-Spent-clause-answered c = λ start front back state.
    let known = c.args.known in
    let answered = subst (IsAnswered start c.args.budget c.args.parts
    (front ++ is_reported (begun known.call known.event) c.args.reply c.args.parts.now ∷ back)) c.in-Spent.is
    (c.in_ok-next.ensures.answered start front back state) in
    (c.may_reply.ensures.0 c.if-not-may_reply.false, answered.0, answered.1)

pub returns-in-Spent-clause-ended : goal.returns-in-Spent-clause-ended
returns-in-Spent-clause-ended c = λ start front back state.
    let known = c.args.known in
    let o = begun known.call known.event in
    subst (HasEndedBy start c.args.parts.now (front ++ o ∷ back) o (response_at c.args.reply c.args.parts.now)) c.in-Spent.is
    (c.in_ok-next.ensures.ended start front back state)

use Rattle.potzendai.proofs.Common.{◌≢◌, [], ◌∷◌, ◌++◌, Option, Some, ap, sym, ◌∙◌, subst, HasTaken, LineFollower, Follows, standing_of, reply_line}
use Rattle.potzendai.proofs.Common.{reply_of}
use Rattle.potzendai.proofs.FollowLemmas.{has_ended, standing_no}
use Rattle.potzendai.proofs.by_values.potzendai_follow_answer_with.Goals as goal

pub returns-clause-added : goal.returns-clause-added
returns-clause-added c = λ budget lines follows.
    let held = subst (λ (f : Option LineFollower). Follows budget lines f) (sym c.in-Some.ensures.taken) follows in
    let taken = sym (c.replace-follower.ensures.value ∙ c.deref_mut.ensures.value) in
    let given = reply_of c.args.kind c.args.value c.args.pairs.now in
    let added = c.take_answer.ensures.added budget lines given c.reply_of-reply.ensures.reply c.reply_of-reply.ensures.words
    (subst (λ (f : LineFollower). HasTaken budget lines f) taken held) in
    subst (λ (f : Option LineFollower). Follows budget (lines ++ reply_line c.args.process given ∷ []) f) (sym c.put.ensures) added

pub returns-clause-no : goal.returns-clause-no
returns-clause-no c = λ budget all follows one.
    let stands = ap standing_of c.put.ensures in
    let reported = c.stream_status-status.ensures ∙ ap (λ (f : LineFollower). standing_of (Some f)) c.deref.ensures in
    standing_no budget all c.put.new.handle.follows follows (stands ∙ sym reported ∙ one)

pub returns-clause-stays : goal.returns-clause-stays
returns-clause-stays c = λ stopped.
    let is = c.replace-follower.ensures.value ∙ c.deref_mut.ensures.value in
    let was = ap (λ (f : LineFollower). Some f) is ∙ c.in-Some.ensures.taken in
    let ended = has_ended c.replace-follower.result (subst (λ (f : Option LineFollower). standing_of f ≢ 0) (sym was) stopped) in
    c.put.ensures ∙ (ap (λ (f : LineFollower). Some f) (c.take_answer.ensures.ended ended) ∙ was)

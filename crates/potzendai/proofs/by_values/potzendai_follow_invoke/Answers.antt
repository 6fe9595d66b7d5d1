use Rattle.potzendai.proofs.Common.{◌≢◌, [], ◌∷◌, ◌++◌, Option, Some, ap, sym, ◌∙◌, subst, Call, HasTaken, LineFollower, Follows, standing_of, call_line}
use Rattle.potzendai.proofs.Common.{call_of}
use Rattle.potzendai.proofs.FollowLemmas.{has_ended, standing_no}
use Rattle.potzendai.proofs.by_values.potzendai_follow_invoke.Goals as goal

pub returns-clause-added : goal.returns-clause-added
returns-clause-added c = λ budget lines follows.
    let held = subst (λ (f : Option LineFollower). Follows budget lines f) (sym c.in-Some.ensures.taken) follows in
    let taken = sym (c.replace-follower.ensures.value ∙ c.deref_mut.ensures.value) in
    let added = c.take_call.ensures.added budget lines c.call_of.ensures.words (subst (λ (f : LineFollower). HasTaken budget lines f) taken held) in
    let call = call_of c.args.kind c.args.key c.args.value c.args.other in
    let asked = subst (λ (call : Option Call). HasTaken budget (lines ++ call_line c.args.process call ∷ []) c.take_call.result)
    c.call_of.ensures.call added in
    subst (λ (f : Option LineFollower). Follows budget (lines ++ call_line c.args.process call ∷ []) f) (sym c.put.ensures) asked

pub returns-clause-no : goal.returns-clause-no
returns-clause-no c = λ budget all follows one.
    let stands = ap standing_of c.put.ensures in
    let reported = c.stream_status-status.ensures ∙ ap (λ (f : LineFollower). standing_of (Some f)) c.deref.ensures in
    standing_no budget all c.put.new.handle.follows follows (stands ∙ sym reported ∙ one)

pub returns-clause-stays : goal.returns-clause-stays
returns-clause-stays c = λ stopped.
    let is = c.replace-follower.ensures.value ∙ c.deref_mut.ensures.value in
    let was = ap (λ (f : LineFollower). Some f) is ∙ c.in-Some.ensures.taken in
    let ended = has_ended c.replace-follower.result (subst (λ (f : Option LineFollower). standing_of f ≢ 0) (sym was) stopped) in
    c.put.ensures ∙ (ap (λ (f : LineFollower). Some f) (c.take_call.ensures.ended ended) ∙ was)

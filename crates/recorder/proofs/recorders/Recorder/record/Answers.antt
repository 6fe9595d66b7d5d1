use Rattle.recorder.proofs.Common.{◌≡◌, ◌<◌, ◌++◌, ◌∷◌, [], Bool, true, false, cond, refl, sym, ap, ◌∙◌, subst, All, map-append, is_invocation}
use Rattle.recorder.proofs.Common.{stamps_in}
use mir.Val.{bool_byte}
use Rattle.recorder.proofs.RecordLemmas.{IsRecord-push}
use Rattle.recorder.proofs.recorders.Recorder.record.Goals.{In_default-push}
use Rattle.recorder.proofs.recorders.Recorder.record.Goals as goal

byte : (b : Bool) → bool_byte b ≡ cond b 1 0
byte true = refl
byte false = refl

-- the log with the event
longer : (c : In_default-push) → c.push.new.self.items ≡ c.args.pass.now.log.items ++ (c.draw-stamp.result, c.args.event) ∷ []
longer c = c.in_default-push.ensures.items ∙ ap (λ l. l ++ (c.draw-stamp.result, c.args.event) ∷ []) c.reserve.ensures.items

pub invariant_of-pass-2-clause-recorded : goal.invariant_of-pass-2-clause-recorded
invariant_of-pass-2-clause-recorded c =
    let pass = c.args.pass.now in
    let above = subst (All (λ x. x < c.draw-stamp.result)) pass.stamps c.draw-stamp.ensures.greater in
    let counted : c.from.result ≡ cond (is_invocation c.args.event) 1 0 =
    c.from.ensures ∙ (ap bool_byte c.is_invocation-begins.ensures ∙ byte (is_invocation c.args.event)) in
    let kept = IsRecord-push pass.process pass.calls pass.begun pass.has_open pass.log.items pass.recorded c.args.event
    c.requires.turn c.requires.left
    c.draw-stamp.result c.requires.process c.requires.sound above in
    rw (longer (goal.at.invariant_of-pass-2-clause-recorded c).In_default-push, counted, c.is_invocation-begins.ensures) kept

pub invariant_of-pass-2-clause-stamps : goal.invariant_of-pass-2-clause-stamps
invariant_of-pass-2-clause-stamps c =
    c.draw-stamp.ensures.drawn
    ∙ (ap (λ l. l ++ c.draw-stamp.result ∷ []) c.args.pass.now.stamps
    ∙ (sym (map-append (λ e. e.0) c.args.pass.now.log.items ((c.draw-stamp.result, c.args.event) ∷ []))
    ∙ ap stamps_in (sym (longer (goal.at.invariant_of-pass-2-clause-stamps c).In_default-push))))

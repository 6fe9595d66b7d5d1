use Rattle.events.proofs.Common.{◌≡◌, true, false, refl, ap, arith, rules, is_invocation}
use Rattle.events.proofs.OpenCallLemmas.{AreOpenAfter-push}
use Rattle.events.proofs.open_calls.OpenCalls.note.Goals as goal

pub returns-in-Invoke : goal.returns-in-Invoke
returns-in-Invoke c = λ before h.
    let begins : is_invocation c.args.event.now ≡ true = ap is_invocation c.in-Invoke.is in
    AreOpenAfter-push before c.args.event.now _ _ h (search rules) c.requires.known
    (rw (begins, c.process-process.ensures) refl) (rw begins refl)

pub returns-in-Answer : goal.returns-in-Answer
returns-in-Answer c = λ before h.
    let ends : is_invocation c.args.event.now ≡ false = ap is_invocation c.in-Answer.is in
    AreOpenAfter-push before c.args.event.now _ _ h (search rules) c.requires.known (rw (ends, c.process-process.ensures) refl)
    (rw ends (omega arith))

use Rattle.machine.proofs.Common.{◌≡◌, ◌≤◌, length, ap, sym, subst, ◌∙◌, IsTrue, ◌↔◌, slice_get, filter_map, Contains, slice_get-get_or, same_Some}
use Rattle.machine.proofs.Common.{none-some, answered}
use Rattle.std.proofs.Common.{Some}
use Rattle.machine.proofs.MachineLemmas.{process-at}
use Rattle.machine.proofs.RunningLemmas.{absent}
use Rattle.events.specs.declared.event.Reply.TheVariants as replies
use Rattle.machine.proofs.machines.Machine.has_refused.Goals as goal

pub returns-in-Some : goal.returns-in-Some
returns-in-Some c = λ plan s q shows is.
    let m = c.args.self.now in
    let x = process-at m.shape m.variant m.words.items m.runners.items c.args.process c.in-Some.runner.now
    (subst (λ items. slice_get items c.args.process ≡ Some c.in-Some.runner.now) c.deref.ensures.value
    (slice_get-get_or c.deref.result.now c.args.process c.in-Some.runner.now c.in-Some.ensures.lookup.3.0
    ∙ ap Some (sym c.in-Some.ensures.lookup.1)))
    plan s shows in
    let log = ap (λ q. q.log) (same_Some q x.0 (sym is ∙ x.1)) ∙ (x.2.log ∙ sym c.deref-in-Some.ensures.value) in
    subst (λ log. IsTrue c.has_refusal.result ↔ Contains (filter_map (λ e. answered e.1) log) replies.Refused) (sym log)
    c.has_refusal.ensures

pub returns-in-None : goal.returns-in-None
returns-in-None c = λ plan s q shows is. absurd (none-some q (sym (absent c.args.self.now c.args.process plan s shows
    (subst (λ items. length items ≤ c.args.process) c.deref.ensures.value c.in-None.ensures.lookup.3)) ∙ is))

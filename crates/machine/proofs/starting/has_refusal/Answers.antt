use Rattle.machine.proofs.Common.{refl, subst, sym, true, ◌≡◌, filter_map, Contains, take_all, answered}
use Rattle.machine.proofs.StartingLemmas.{refusal-found, no-refusal-yet}
use Rattle.events.specs.declared.event.Reply.TheVariants as replies
use Rattle.machine.proofs.starting.has_refusal.Goals as goal

pub returns-then-is_refusal : goal.returns-then-is_refusal
returns-then-is_refusal c = (
  λ t. refusal-found c.args.log.now c.loop-event.event-index c.loop-event-item.result c.loop-event-test.true c.loop-event-item.is
      (c.is_refusal.ensures.0 c.if-is_refusal.true),
  λ h. refl,
)

pub loop-event-preserved : goal.loop-event-preserved
loop-event-preserved c =
    no-refusal-yet c.args.log.now c.loop-event.event-index c.loop-event-item.result c.loop-event-test.true c.loop-event-item.is
    c.loop-event.invariant
    (λ a. let t : c.is_refusal.result ≡ true = c.is_refusal.ensures.1 a in let f = c.if-is_refusal.false in cc)

pub returns : goal.returns
returns c = (
  λ t. cc,
  λ h. absurd (c.loop-event.invariant (subst (λ es. Contains (filter_map (λ e. answered e.1) es) replies.Refused)
      (sym (take_all c.loop-event.event-index c.args.log.now c.loop-event-test.false)) h)),
)

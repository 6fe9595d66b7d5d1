use Rattle.std.proofs.Common.{take, filter_map, Contains}
use Rattle.events.specs.declared.event.Reply.TheVariants as replies
use Rattle.art_core.specs.Core.{answered}
use Rattle.machine.proofs.starting.has_refusal.Given as goal

abbrev pub invariant-loop-event : goal.invariant-loop-event
invariant-loop-event l = Contains (filter_map (λ e. answered e.1) (take l.event-index l.log)) replies.Refused → ⊥

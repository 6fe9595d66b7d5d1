use Rattle.art_schedules.proofs.calls.EffectLemmas.{orders-from-effects}
use Rattle.art_schedules.proofs.laws.calls.effects_give_orders.Goals as goal

pub returns : goal.returns
returns c = orders-from-effects

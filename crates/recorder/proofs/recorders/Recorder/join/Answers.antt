use Rattle.recorder.proofs.Common.{◌≡◌, All-weaker, counter, source_of, IsPassOf}
use Rattle.recorder.proofs.CloseLemmas.{some-pass}
use Rattle.recorder.proofs.recorders.Recorder.join.Goals as goal

pub join_hands-hand-requires-clause-some : goal.join_hands-hand-requires-clause-some
join_hands-hand-requires-clause-some c = some-pass c.args.self c.args.passes.items c.requires.all

pub join_hands-hand-requires-clause-own : goal.join_hands-hand-requires-clause-own
join_hands-hand-requires-clause-own c = All-weaker (IsPassOf c.args.self) (λ p. source_of p ≡ counter c.args.self.tickets)
    (λ p h. h.source_is) c.args.passes.items c.requires.own

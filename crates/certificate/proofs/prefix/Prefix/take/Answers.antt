use Rattle.certificate.proofs.Common.{◌≡◌, false, true, Some, get_or, refl, arith, rules, slice_get, false≢true, common_steps, slice_get_read}
use Rattle.certificate.proofs.PrefixLemmas.{take-next, Contains-taken, not_Contains-taken, IsNewAt-taken, PrecedesSome-latest}
use Rattle.certificate.proofs.PrefixLemmas.{not_PrecedesSome-latest, IsPrefixOf-push}
use Rattle.certificate.proofs.prefix.Prefix.take.Goals.{After-is_before}
use Rattle.certificate.proofs.prefix.Prefix.take.Goals as goal

module _ (c : After-is_before) where
  -- the call has the number that comes next
  call : slice_get c.args.calls.now c.args.number ≡ Some c.index-calls-index.result
  call = slice_get_read _ _ c.args.number _ refl (omega arith) c.index-calls-index.is

  -- which is not marked
  free : get_or c.args.self.now.taken.items c.args.number false ≡ false
  free = grind (arith, common_steps)

pub returns-then-index-clause-refused : goal.returns-then-index-clause-refused
returns-then-index-clause-refused c = λ start order here h.
    let taken : get_or c.args.self.now.taken.items c.args.number false ≡ true = grind (arith, common_steps) in
    record {
      number = c.args.number;
      next = record { sound = h.sound; here = here };
      known = omega arith;
      repeated = Contains-taken start _ _ _ c.args.number h (omega arith) taken;
    }

pub returns-then-is_before-clause-refused : goal.returns-then-is_before-clause-refused
returns-then-is_before-clause-refused c = λ start order here h.
    let at = (goal.at.returns-then-is_before-clause-refused c).After-is_before in
    record {
      a = c.index-calls-index.result;
      next = IsNewAt-taken start _ order _ c.args.place c.args.number _ h here (call at) (free at);
      precedes_earlier = PrecedesSome-latest start _ _ _ c.index-calls-index.result h (search rules);
    }

pub returns-then-not-may_come_next-clause-refused : goal.returns-then-not-may_come_next-clause-refused
returns-then-not-may_come_next-clause-refused c = λ start order here h.
    let at = (goal.at.returns-then-not-may_come_next-clause-refused c).After-is_before in
    record {
      a = c.index-calls-index.result;
      next = IsNewAt-taken start _ order _ c.args.place c.args.number _ h here (call at) (free at);
      keeps_precedence = not_PrecedesSome-latest start _ _ _ c.index-calls-index.result h (search rules);
      illegal = rw (← h.pairs) (λ legal. false≢true (c.if-not-may_come_next.ensures.1 legal));
    }

pub returns-clause-ok : goal.returns-clause-ok
returns-clause-ok c = λ start order here h.
    let at = (goal.at.returns-clause-ok c).After-is_before in
    rw (take-next order c.args.place c.args.number here)
    (IsPrefixOf-push start _ _ _ _ c.args.number c.index-calls-index.result h (call at)
    (not_Contains-taken start _ _ _ _ h (omega arith) (free at))
    (not_PrecedesSome-latest start _ _ _ c.index-calls-index.result h (search rules))
    (search rules) (search rules) refl (search rules))

use Rattle.events.proofs.Common.{[], sym, ◌∙◌, refl, none-some, err_from_is_err_and}
use Rattle.events.proofs.StartLemmas.{IsStart-next}
use Rattle.events.proofs.FirstFaultLemmas.{IsPairRefusedAfter-from_fault}
use Rattle.events.proofs.turns.HistoryBuilder.take_pair.Goals as goal

pub returns-in_err-test_pair : goal.returns-in_err-test_pair
returns-in_err-test_pair c =
    let p = err_from_is_err_and c.from_residual.result c.from_residual.ensures.1 in
    let pairs = c.self.inside.start.items in
    let shows = rw c.deref.ensures.value at c.in_err-test_pair.ensures.fault in
    rw (p.1, p.2, ← c.self.view_is) (record {
      taken = tt;
      history = c.self.invariant.0;
      refused = IsPairRefusedAfter-from_fault pairs c.args.pair c.in_err-test_pair.field-0.0 shows;
      accepted = λ h. absurd (none-some _ (sym (IsStart-next pairs [] c.args.pair h) ∙ shows));
      unchanged = refl;
    })

-- out of memory: the pair is not taken
pub returns-in_err-push : goal.returns-in_err-push
returns-in_err-push c =
    let p = err_from_is_err_and c.from_residual-in_err-push.result c.from_residual-in_err-push.ensures.1 in
    rw (p.1, p.2, ← c.self.view_is, c.in_err-push.ensures.items)
    (record { taken = tt; history = c.self.invariant.0; refused = tt; accepted = λ h. refl; unchanged = refl })

pub invariant_of-self : goal.invariant_of-self
invariant_of-self c = rw c.in_err-push.ensures.items c.self.invariant

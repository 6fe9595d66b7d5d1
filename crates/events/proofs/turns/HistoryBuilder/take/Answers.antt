use Rattle.events.proofs.Common.{◌≡◌, [], length, refl, err_from_is_err_and}
use Rattle.events.proofs.HistoryLemmas.{AreHistoryEvents-next}
use Rattle.events.proofs.FirstFaultLemmas.{IsRefusedAfter-from_fault}
use Rattle.events.proofs.turns.HistoryBuilder.take.Goals as goal

pub returns-in_err-take : goal.returns-in_err-take
returns-in_err-take c =
    let p = err_from_is_err_and c.from_residual.result c.from_residual.ensures.1 in
    let events = c.self.inside.events.items in
    let size : length events ≡ c.len.result = cc in
    let shows = c.in_err-take.ensures.fault events c.self.invariant.1 size in
    rw (p.1, p.2, ← c.self.view_is) (record {
      taken = tt;
      history = c.self.invariant.0;
      refused = IsRefusedAfter-from_fault events c.args.event c.in_err-take.field-0.0 shows;
      accepted = λ h. absurd (cc (shows, AreHistoryEvents-next events [] c.args.event h));
      unchanged = refl;
    })

-- out of memory: the event is not taken
pub returns-in_err-push : goal.returns-in_err-push
returns-in_err-push c =
    let p = err_from_is_err_and c.from_residual-in_err-push.result c.from_residual-in_err-push.ensures.1 in
    rw (p.1, p.2, ← c.self.view_is, c.in_err-push.ensures.items)
    (record { taken = tt; history = c.self.invariant.0; refused = tt; accepted = λ h. refl; unchanged = refl })

pub invariant_of-self : goal.invariant_of-self
invariant_of-self c = rw c.in_err-push.ensures.items c.self.invariant

pub returns : goal.returns
returns c =
    let events = c.self.inside.events.items in
    let size : length events ≡ c.len.result = cc in
    rw (c.in_ok-push.ensures.items, ← c.self.view_is) (record {
      taken = refl;
      history = record {
        start = c.self.invariant.0.start;
        events = c.in_ok-take.ensures.history events c.self.invariant.1 size c.self.invariant.0.events;
      };
      refused = tt;
      accepted = λ h. tt;
      unchanged = tt;
    })

use Rattle.events.proofs.Common.{inl, inr, refl, err_from_is_err_and}
use Rattle.events.proofs.FirstFaultLemmas.{IsFirstPairFault-not_start, IsFirstEventFault-not_events, IsRefusedFor-from_first}
use Rattle.events.proofs.histories.History.with_start.Goals as goal

pub returns-in_err-test_start : goal.returns-in_err-test_start
returns-in_err-test_start c =
    let p = err_from_is_err_and c.from_residual.result c.from_residual.ensures.1 in
    let fault = c.in_err-test_start.field-0.0 in
    let first = rw c.deref.ensures.value at c.in_err-test_start.ensures.first in
    rw (p.1, p.2) (record {
      ok = tt;
      history = tt;
      refused = IsRefusedFor-from_first _ fault (inl first);
      accepted = λ h. absurd (IsFirstPairFault-not_start c.args.start.items fault first h.start);
    })

pub returns-in_err-test_events : goal.returns-in_err-test_events
returns-in_err-test_events c =
    let p = err_from_is_err_and c.from_residual-in_err-test_events.result c.from_residual-in_err-test_events.ensures.1 in
    let fault = c.in_err-test_events.field-0.0 in
    let start = rw c.deref.ensures.value at c.in_ok-test_start.ensures.ok in
    let first = rw c.deref-2.ensures.value at c.in_err-test_events.ensures.first in
    rw (p.1, p.2) (record {
      ok = tt;
      history = tt;
      refused = IsRefusedFor-from_first _ fault (inr (start, first));
      accepted = λ h. absurd (IsFirstEventFault-not_events c.args.events.items fault first h.events);
    })

pub with_calls-requires : goal.with_calls-requires
with_calls-requires c = record {
  start = rw c.deref.ensures.value at c.in_ok-test_start.ensures.ok;
  events = rw c.deref-2.ensures.value at c.in_ok-test_events.ensures.ok;
}

pub returns-in_err-with_calls : goal.returns-in_err-with_calls
returns-in_err-with_calls c =
    let p = err_from_is_err_and c.from_residual-in_err-with_calls.result c.from_residual-in_err-with_calls.ensures.1 in
    rw (p.1, p.2) (record { ok = tt; history = tt; refused = tt; accepted = λ h. refl })

pub returns : goal.returns
returns c = record {
  ok = c.in_ok-with_calls.ensures;
  history = record {
    start = rw c.deref.ensures.value at c.in_ok-test_start.ensures.ok;
    events = rw c.deref-2.ensures.value at c.in_ok-test_events.ensures.ok;
  };
  refused = tt;
  accepted = λ h. tt;
}

use Rattle.events.proofs.Common.{◌≡◌, ◌+◌, length, take, drop, arith, err_from_is_err_and, take_more, take_all, length-take-le}
use Rattle.events.proofs.Places.{parts_at}
use Rattle.events.proofs.HistoryLemmas.{AreHistoryEvents-none}
use Rattle.events.proofs.histories.test_events.Goals as goal

pub loop-place-init : goal.loop-place-init
loop-place-init c = record { history = AreHistoryEvents-none; open_calls = c.new-kept.ensures }

pub loop-place-preserved : goal.loop-place-preserved
loop-place-preserved c =
    let events = c.args.events.now in
    let place = c.loop-place.place in
    let size : length (take place events) ≡ place = length-take-le place events (omega arith) in
    let turns = c.loop-place.invariant.open_calls in
    rw (take_more events place c.index-events-place.result c.loop-place-test.true, ← c.index-events-place.is) (record {
      history = c.in_ok-take.ensures.history (take place events) turns size c.loop-place.invariant.history;
      open_calls = c.in_ok-take.ensures.after (take place events) turns;
    })

pub returns : goal.returns
returns c = record {
  ok = rw (take_all c.loop-place.place c.args.events.now c.loop-place-test.false) at c.loop-place.invariant.history;
  first = tt;
}

pub returns-in_err-take : goal.returns-in_err-take
returns-in_err-take c =
    let p = err_from_is_err_and c.from_residual.result c.from_residual.ensures.1 in
    let events = c.args.events.now in
    let place = c.loop-place.place in
    let size : length (take place events) ≡ place = length-take-le place events (omega arith) in
    rw (p.1, p.2) (record {
      ok = tt;
      first = record {
        before = take place events;
        next = c.index-events-place.result;
        rest = drop (place + 1) events;
        parts = parts_at events place c.index-events-place.result c.loop-place-test.true c.index-events-place.is;
        sound = c.loop-place.invariant.history;
        shows = c.in_err-take.ensures.fault (take place events) c.loop-place.invariant.open_calls size;
      };
    })

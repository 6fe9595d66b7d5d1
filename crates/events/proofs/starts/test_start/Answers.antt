use Rattle.events.proofs.Common.{take, drop, get_or, ◌+◌, err_from_is_err_and, get_or_default, take_more, take_all}
use Rattle.events.proofs.Places.{parts_at}
use Rattle.events.proofs.starts.test_start.Goals as goal

pub loop-place-preserved : goal.loop-place-preserved
loop-place-preserved c = rw (take_more c.args.pairs.now c.loop-place.place (0, 0) c.loop-place-test.true) c.in_ok-test_pair.ensures.ok

pub returns : goal.returns
returns c = record {
  ok = rw (take_all c.loop-place.place c.args.pairs.now c.loop-place-test.false) at c.loop-place.invariant;
  first = tt;
}

pub returns-in_err-test_pair : goal.returns-in_err-test_pair
returns-in_err-test_pair c =
    let p = err_from_is_err_and c.from_residual.result c.from_residual.ensures.1 in
    let pairs = c.args.pairs.now in
    let place = c.loop-place.place in
    rw (p.1, p.2) (record {
      ok = tt;
      first = record {
        before = take place pairs;
        next = get_or pairs place (0, 0);
        rest = drop (place + 1) pairs;
        parts = parts_at pairs place (get_or pairs place (0, 0)) c.loop-place-test.true
            (get_or_default pairs place (0, 0) _ c.loop-place-test.true);
        sound = c.loop-place.invariant;
        shows = c.in_err-test_pair.ensures.fault;
      };
    })

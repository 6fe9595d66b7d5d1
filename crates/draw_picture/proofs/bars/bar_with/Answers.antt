use Rattle.std.proofs.Common.{refl, not, ap}
use Rattle.draw_picture.proofs.BarLemmas.{invoked-by, lane-in, inv-within, res-within}
use Rattle.draw_picture.proofs.bars.bar_with.Goals as goal

pub process_at-process-requires : goal.process_at-process-requires
process_at-process-requires c = rw c.events-events.ensures.events (inv-within _ _ _ c.requires.call)

pub lane_of-requires : goal.lane_of-requires
lane_of-requires c =
    let by = rw c.events-events.ensures.events at c.process_at-process.ensures in
    rw c.requires.lanes (lane-in _ _ _ _ c.requires.history.events c.requires.call by)

pub event_column-requires : goal.event_column-requires
event_column-requires c = rw c.events-events.ensures.events (inv-within _ _ _ c.requires.call)

pub column_of-requires : goal.column_of-requires
column_of-requires c = rw c.events-events.ensures.events (res-within _ _ _ c.requires.call)

pub returns : goal.returns
returns c =
    let by = rw c.events-events.ensures.events at c.process_at-process.ensures in
    record {
      number = refl;
      inv = refl;
      res = c.place_of.ensures;
      invoked = invoked-by _ _ _ _ c.requires.call by;
      lane = rw (← c.requires.lanes) c.lane_of.ensures;
      low = c.low_key.ensures;
      high = c.high_key.ensures;
      span = record { from = c.event_column.ensures; to = c.column_of.ensures };
      call = c.requires.words;
      reply = c.requires.reply;
      pale = ap not c.speaks_of.ensures;
      goes_wrong = c.is_response.ensures;
      whole = refl;
    }

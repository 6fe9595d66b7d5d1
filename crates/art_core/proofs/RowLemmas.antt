-- The rows, computed.
use Rattle.art_core.proofs.Common.{refl, step, history_of}
use Rattle.art_rows.specs.Computing.{computing}
use Rattle.art_core.specs.Schedules.{schedule_run}
use Rattle.art_core.specs.WorkedRows.{eights, words_at, events, last_event, deep, shifted, shifted_items, lost, lost_items, torn, torn_items}
use Rattle.art_core.specs.WorkedRows.{early, early_items, one_each, count_events, beside, WorkedRows}

pub worked-rows : WorkedRows
unfolding eights words_at events last_event deep shifted shifted_items lost lost_items torn torn_items early early_items one_each
    count_events beside computing step schedule_run history_of
worked-rows =
    record {
      deep_words = refl;
      shifted_unchecked = refl;
      shifted_checked = refl;
      lost_unchecked = refl;
      lost_checked = refl;
      torn_unchecked = refl;
      torn_checked = refl;
      early_release = refl;
      grown = refl;
      filled = refl;
      stopped_optimistic = refl;
      stopped_coupled = refl;
      deep_scan =
          refl;
      beside_events = refl;
    }

-- The value has no float and nests five deep at most, so it has a text that reads as it, and this is not too long.
use Rattle.plan_text.proofs.Common.{◌≡◌, ◌<◌, ◌≤◌, Some, length, string_bytes, ap, ◌∙◌, arith, IsUtf8-string_bytes, depth, view, max_depth, has_float}
use Rattle.plan_text.proofs.Common.{compact_text, shown, text_limit, written_data}
use Rattle.plan_text.proofs.WrittenReplayLemmas.{has_float-replay, depth-replay, Spells-written}
use Rattle.plan_text.proofs.ReplaySizeLemmas.{size-replay}
use Rattle.plan_text.proofs.write_replays.write_replay.Goals.{After-to_string}
use Rattle.plan_text.proofs.write_replays.write_replay.Goals as goal

module _ (c : After-to_string) where
  same : view c.in_ok-value.value ≡ written_data (shown c.args.replay.now)
  same = c.in_ok-value.ensures

  shallow : depth (view c.in_ok-value.value) ≤ max_depth
  shallow = rw (same) (omega (arith, depth-replay (shown c.args.replay.now)))

pub returns-clause-compact : goal.returns-clause-compact
returns-clause-compact c =
    let is = same (goal.at.returns-clause-compact c).After-to_string in
    c.in_ok-to_string.ensures.text (ap has_float is ∙ has_float-replay (shown c.args.replay.now)) ∙ ap compact_text is

pub returns-clause-short : goal.returns-clause-short
returns-clause-short c = λ held.
    let is = same (goal.at.returns-clause-short c).After-to_string in
    let text = c.in_ok-to_string.ensures.text (ap has_float is ∙ has_float-replay (shown c.args.replay.now)) ∙ ap compact_text is in
    rw text (size-replay (shown c.args.replay.now) c.args.replay.now.within held)

pub returns-clause-again : goal.returns-clause-again
returns-clause-again c = λ held.
    let before = (goal.at.returns-clause-again c).After-to_string in
    let text = c.in_ok-to_string.ensures.text (ap has_float (same before) ∙ has_float-replay (shown c.args.replay.now))
    ∙ ap compact_text (same before) in
    let short : length (string_bytes c.in_ok-to_string.field-0) < text_limit = rw text (size-replay (shown c.args.replay.now)
    c.args.replay.now.within held) in
    Spells-written (shown c.args.replay.now) c.args.replay.now.within _ (record {
      fits = omega (arith, short);
      utf8 = IsUtf8-string_bytes c.in_ok-to_string.field-0;
      value = c.in_ok-to_string.ensures.reads_back (shallow before) ∙ ap Some (same before);
    })

-- The pairs have no float, so their text is the compact one.
use Rattle.std.proofs.Common.{ap, ◌∙◌}
use Rattle.events.specs.declared.event.Reply.TheVariants as replies
use Rattle.serde_json.specs.Written.{has_float, compact_text}
use Rattle.history_text.proofs.WrittenLemmas.{has_float-reply}
use Rattle.draw_picture.proofs.words.pairs_words.Goals as goal

pub returns : goal.returns
returns c =
    let is = c.in_ok-value.ensures in
    c.in_ok-to_string.ensures.text (ap has_float is ∙ has_float-reply (replies.Pairs c.args.pairs.now)) ∙ ap compact_text is

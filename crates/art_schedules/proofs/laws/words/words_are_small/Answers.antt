use Rattle.art_schedules.proofs.words.ByteLemmas.{keys4_below, keys16_below}
use Rattle.art_schedules.proofs.words.WordLemmas.{entries_below, info_below, child_below, again_below}
use Rattle.art_schedules.proofs.laws.words.words_are_small.Goals as goal

pub returns : goal.returns
returns c = record {
  keys4 = keys4_below;
  keys16 = keys16_below;
  entries = entries_below;
  info = info_below;
  child = child_below;
  again = again_below;
}

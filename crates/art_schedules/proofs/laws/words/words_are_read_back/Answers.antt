use Rattle.art_schedules.proofs.words.ByteLemmas.{keys4_back, keys16_back}
use Rattle.art_schedules.proofs.words.WordLemmas.{entries_back, info_back, child_back, child_of-stored}
use Rattle.art_schedules.proofs.laws.words.words_are_read_back.Goals as goal

pub returns : goal.returns
returns c =
    record {
      keys4 = keys4_back;
      keys16 = keys16_back;
      entries = entries_back;
      info = info_back;
      child =
          child_back;
      stored = child_of-stored;
    }

use Rattle.art_schedules.proofs.writes.PutLemmas.{leaf_put}
use Rattle.art_schedules.proofs.writes.PairLemmas.{pair_is_hung}
use Rattle.art_schedules.proofs.writes.GrowLemmas.{row_filled}
use Rattle.art_schedules.proofs.inserts.InsertLawLemmas.{inserts-are-the-maps}
use Rattle.art_schedules.proofs.laws.inserts.inserts_are_the_maps.Goals as goal

pub returns : goal.returns
returns c = inserts-are-the-maps (record {
  trees = c.same_trees_are_one.ensures;
  ways = c.ways_lead_to_values.ensures;
  puts = c.leaves_are_put.ensures;
  pairs = c.pairs_are_hung.ensures;
  grown = c.grown_rows_are_hung.ensures;
  leaves = c.leaves_are_small.ensures;
  part = c.keys_part.ensures;
  put_written = leaf_put;
  pair_written = pair_is_hung;
  row_written = row_filled;
  read = c.words_are_read_back.ensures;
  versions = c.versions_say.ensures;
  sized = c.words_are_small.ensures;
})

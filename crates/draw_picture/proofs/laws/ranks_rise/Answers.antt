use Rattle.draw_picture.proofs.RankLemmas.{ranks_rise}
use Rattle.draw_picture.proofs.laws.ranks_rise.Goals as goal

pub returns : goal.returns
returns c = ranks_rise

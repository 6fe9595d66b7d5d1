use Rattle.stream_text.proofs.CutLemmas.{takes_first}
use Rattle.stream_text.proofs.laws.lines_one_by_one.Goals as goal

pub returns : goal.returns
returns c = takes_first

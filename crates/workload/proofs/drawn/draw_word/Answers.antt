use Rattle.workload.specs.Drawn.{next_word}
use Rattle.workload.proofs.drawn.draw_word.Goals as goal

pub returns : goal.returns
unfolding next_word
returns c = c.next_word.ensures

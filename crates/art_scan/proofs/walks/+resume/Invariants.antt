use Rattle.std.specs.Prelude.{vec_len}
use Rattle.art_scan.proofs.walks.+resume.Given as goal

abbrev pub decreases-resume : goal.decreases-resume
decreases-resume l = vec_len l.lists.now.way

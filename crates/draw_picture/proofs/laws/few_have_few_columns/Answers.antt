use Rattle.draw_picture.proofs.FewLemmas.{few_columns}
use Rattle.draw_picture.proofs.laws.few_have_few_columns.Goals as goal

pub returns : goal.returns
returns c = few_columns

use Rattle.draw_svg.proofs.WidthLemmas.{few_fit}
use Rattle.draw_svg.proofs.laws.few_columns_fit.Goals as goal

pub returns : goal.returns
returns c = few_fit

use Rattle.draw_svg.proofs.MarkupLemmas.{escaped-plain}
use Rattle.draw_svg.proofs.laws.contents_have_no_markup.Goals as goal

pub returns : goal.returns
returns c = escaped-plain

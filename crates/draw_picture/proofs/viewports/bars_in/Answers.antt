use Rattle.std.proofs.Common.{◌∙◌}
use Rattle.draw_picture.proofs.KeptLemmas.{bars-kept}
use Rattle.draw_picture.proofs.viewports.bars_in.Goals as goal

pub returns : goal.returns
returns c = c.in_ok-kept.ensures ∙ bars-kept c.args.columns.now c.args.from c.args.to c.args.bars.items

use Rattle.std.proofs.Common.{codes}
use Rattle.draw_svg.specs.Frame.{keys_text}
use Rattle.draw_svg.proofs.TextLemmas.{appended}
use Rattle.draw_svg.proofs.frame.push_undecided.Goals as goal

pub returns : goal.returns
returns c =
    appended _ _ _ (codes "Undecided: ") (keys_text c.args.lo c.args.hi) c.in_ok-push_str.ensures.bytes c.in_ok-push_keys.ensures

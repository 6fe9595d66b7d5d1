use Rattle.std.proofs.Common.{◌∙◌}
use Rattle.command_line.proofs.PlaceLemmas.{named_is}
use Rattle.command_line.proofs.request.is_named.Goals as goal

pub returns-in-Among-Some : goal.returns-in-Among-Some
returns-in-Among-Some c =
    c.is_among.ensures
    ∙ named_is c.args.values c.in-Among-Some.words c.in-Among-Some.is-0 c.args.value c.in-Among-Some.text c.in-Among-Some.is-1

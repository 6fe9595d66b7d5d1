use Rattle.std.proofs.Common.{refl, sym, ◌∙◌}
use Rattle.command_line.proofs.PlaceLemmas.{at_stands, stands_at}
use Rattle.command_line.proofs.request.number_of_value.Goals as goal

pub unwrap-requires-in-Among : goal.unwrap-requires-in-Among
unwrap-requires-in-Among c =
    let at = stands_at c.args.values c.in-Among.words c.in-Among.is c.args.text.now c.requires.0 c.requires.1 in
    rw (c.place_of.ensures, at) refl

pub returns-in-Among : goal.returns-in-Among
returns-in-Among c =
    at_stands c.args.values c.in-Among.words c.in-Among.is c.args.text.now c.unwrap-in-Among.result
    (sym c.place_of.ensures ∙ c.unwrap-in-Among.ensures)

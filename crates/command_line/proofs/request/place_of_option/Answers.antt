use Rattle.std.proofs.Common.{◌∙◌, ap, length, Option, ℕ}
use Rattle.std.specs.Prelude.{unwrap_or}
use Rattle.command_line.proofs.PlaceLemmas.{place_of_flag}
use Rattle.command_line.proofs.request.place_of_option.Goals as goal

pub returns : goal.returns
returns c =
    c.unwrap_or.ensures ∙ ap (λ (place : Option ℕ). unwrap_or place (length c.args.options.now)) c.first_named.ensures
    ∙ place_of_flag c.args.name.now c.args.options.now

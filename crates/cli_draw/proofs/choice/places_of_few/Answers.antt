use Rattle.std.proofs.Common.{◌++◌, ◌∙◌, subst}
use Rattle.map_object.specs.MapObject.{Contents}
use Rattle.explain_reads_from.specs.External.{AreExternal}
use Rattle.cli_draw.specs.Choices.{places_missed}
use Rattle.cli_draw.proofs.choice.places_of_few.Goals as goal

pub returns : goal.returns
returns c =
    let few = c.args.few.now in
    let (pairs, external, places_are) = c.in_ok-places.ensures in
    record {
      pairs = pairs;
      external = subst (λ (m : Contents). AreExternal m few pairs) c.in_ok-start.ensures external;
      places_are = c.in_ok-push_missed.ensures
          ∙ (λ j. places_are j ++ places_missed (c.calls.ensures.calls j) few);
    }

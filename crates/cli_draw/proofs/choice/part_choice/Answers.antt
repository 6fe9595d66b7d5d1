use Rattle.std.proofs.Common.{◌≡◌, List, ◌++◌, ap, ◌∙◌, subst, rules}
use Rattle.events.specs.declared.operation.Operation.{Operation}
use Rattle.follow_violations.specs.OwnParts.{AreOwnLosses}
use Rattle.follow_violations.specs.declared.lost_keys.KeyViolation.{KeyViolation}
use Rattle.map_object.specs.MapObject.{Contents}
use Rattle.cli_draw.specs.Choices.{AreShown, places_begun}
use Rattle.cli_draw.proofs.choice.part_choice.Goals as goal

pub returns : goal.returns
returns c =
    let part = c.args.part.now in
    let few = c.args.few.now.calls.items in
    let places = c.in_ok-places.places.items in
    let losses = c.in_ok-losses.losses.items in
    let started : c.deref.result.now ≡ part.start = search rules in
    record {
      first = places;
      shown = subst (λ (l : List Operation). AreShown c.args.history.now part.start l places) c.deref-2.ensures.value
          (subst (λ (m : Contents). AreShown c.args.history.now m c.deref-2.result.now places) started c.in_ok-places.ensures);
      losses = losses;
      are_losses = subst (λ (l : List Operation). AreOwnLosses part l losses) c.deref-3.ensures.value c.in_ok-losses.ensures;
      places_are = c.in_ok-push_begun.ensures ∙ ap (λ (l : List KeyViolation). places ++ places_begun l) c.deref-4.ensures.value;
    }

use Rattle.std.proofs.Common.{List, ◌∙◌, subst}
use Rattle.events.specs.declared.operation.Operation.{Operation}
use Rattle.explain_shrink.specs.Explained.{IsExplanation}
use Rattle.map_object.specs.MapObject.{Contents}
use Rattle.cli_draw.specs.Choices.{IsShownFew}
use Rattle.cli_draw.proofs.choice.segment_choice.Goals as goal

pub returns : goal.returns
returns c =
    let segment = c.args.segment.now in
    let budget = c.args.budget in
    let few = c.in_ok-few.few in
    record {
      few = few;
      explains = subst (λ (m : Contents). IsExplanation m segment.calls budget few) (c.in_ok-start.ensures ∙ c.start.ensures.start)
          (subst (λ (l : List Operation). IsExplanation c.in_ok-start.start l budget few) c.calls.ensures.calls c.in_ok-few.ensures);
      shown = subst (λ (m : Contents). IsShownFew c.args.history.now m few.calls.items c.in_ok-choice.choice) c.start-3.ensures.start
          c.in_ok-choice.ensures;
    }
